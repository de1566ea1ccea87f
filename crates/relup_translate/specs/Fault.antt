-- Why no relup is made.
use Rattle.std.specs.Prelude.{◌≡◌, ℕ, List, ◌++◌, codes, string_bytes}
use Rattle.relup_translate.specs.declared.fault.TranslationFault.{TranslationFault}
use Rattle.relup_translate.specs.declared.fault.TranslationFault.TheVariants as fault
use Rattle.relup_translate.specs.declared.error.TranslateError.{TranslateError}
use Rattle.relup_translate.specs.declared.error.TranslateError.TheVariants.{NoAppup, NoEntry, UnknownModule, RegexVersion, NeedsNewEmulator, Unsupported, NoMemory}

-- why no relup is made, with the application that is asked, the version or the module
pub data FaultForm : Type 0 where
  no_appup : List ℕ → FaultForm
  no_entry : List ℕ → List ℕ → FaultForm
  unknown_module : List ℕ → FaultForm
  regex_version : List ℕ → FaultForm
  needs_new_emulator : FaultForm
  unsupported : List ℕ → FaultForm

abbrev pub fault_of : TranslationFault → FaultForm
fault_of (fault.NoAppup app) = no_appup app.now
fault_of (fault.NoEntry app vsn) = no_entry app.now vsn.now
fault_of (fault.UnknownModule name) = unknown_module name.now
fault_of (fault.RegexVersion app) = regex_version app.now
fault_of fault.NeedsNewEmulator = needs_new_emulator
fault_of (fault.Unsupported app) = unsupported app.now

-- The error says this fault, or out of memory.
abbrev pub Says : TranslateError → FaultForm → Type 0
Says (NoAppup app) f = f ≡ no_appup (string_bytes app)
Says (NoEntry app vsn) f = f ≡ no_entry (string_bytes app) (string_bytes vsn)
Says (UnknownModule name) f = f ≡ unknown_module (string_bytes name)
Says (RegexVersion app) f = f ≡ regex_version (string_bytes app)
Says NeedsNewEmulator f = f ≡ needs_new_emulator
Says (Unsupported app) f = f ≡ unsupported (string_bytes app)
Says NoMemory f = Unit {0}

-- how an error is shown: by its name and its texts, with blanks between
abbrev pub translate_error_text : TranslateError → List ℕ
translate_error_text (NoAppup app) = codes "NoAppup " ++ string_bytes app
translate_error_text (NoEntry app vsn) = codes "NoEntry " ++ (string_bytes app ++ (codes " " ++ string_bytes vsn))
translate_error_text (UnknownModule name) = codes "UnknownModule " ++ string_bytes name
translate_error_text (RegexVersion app) = codes "RegexVersion " ++ string_bytes app
translate_error_text NeedsNewEmulator = codes "NeedsNewEmulator"
translate_error_text (Unsupported app) = codes "Unsupported " ++ string_bytes app
translate_error_text NoMemory = codes "NoMemory"
