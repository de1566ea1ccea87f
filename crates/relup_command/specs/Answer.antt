-- What is answered to the request of a relup.
use Rattle.std.specs.Prelude.{◌≡◌, ℕ, true, List, ◌++◌, codes, Result, Ok, Err}
use Rattle.std.specs.List.{AllByRecursion}
use Rattle.erl_term.specs.Lines.{is_one_line}
use Rattle.erl_term.specs.Printing.{text_of}
use Rattle.erl_term.specs.Within.{IsWithin}
use Rattle.rel_unpack.specs.Order.{Outcome, Then}
use Rattle.rel_unpack.specs.Source.{Source}
use Rattle.relup_file.specs.File.{SaysRelup}
use Rattle.relup_file.specs.Form.{relup_term}
use Rattle.relup_file.specs.Relup.{RelupForm}
use Rattle.relup_translate.specs.Fault.{FaultForm}
use Rattle.relup_translate.specs.Fault.FaultForm.{no_appup, no_entry, unknown_module, regex_version, needs_new_emulator, unsupported}
use Rattle.relup_translate.specs.Translation.{translation}
use Rattle.relup_command.specs.Releases.{Releases, ReleasesAt}

-- why the appups give no relup: the number, the name and the detail of their fault
abbrev pub fault_line : FaultForm → List ℕ
fault_line (no_appup app) = codes "error relup 1 NoAppup " ++ (app ++ codes "\n")
fault_line (no_entry app vsn) = codes "error relup 2 NoEntry " ++ (app ++ (codes " " ++ (vsn ++ codes "\n")))
fault_line (unknown_module name) = codes "error relup 3 UnknownModule " ++ (name ++ codes "\n")
fault_line (regex_version app) = codes "error relup 4 RegexVersion " ++ (app ++ codes "\n")
fault_line needs_new_emulator = codes "error relup 5 NeedsNewEmulator\n"
fault_line (unsupported app) = codes "error relup 6 Unsupported " ++ (app ++ codes "\n")

-- a relup in one line, as its file has it, and then `ok`
abbrev pub relup_lines : RelupForm → List ℕ
relup_lines r = text_of (relup_term r) ++ codes ".\nok\n"

abbrev pub translation_lines : Result RelupForm FaultForm → List ℕ
translation_lines (Ok r) = relup_lines r
translation_lines (Err f) = fault_line f

-- the answer, or the first file that isn't taken
abbrev pub AnswerAt : Source → List ℕ → List (List ℕ) → List (List ℕ) → Outcome (List ℕ)
AnswerAt source new ups downs =
    Then (ReleasesAt source new ups downs) (λ all r. r ≡ Ok (translation_lines (translation all.new all.ups all.downs)))

-- The text is a file that says the relup, and then `ok`.
pub record AnswersFile (text : List ℕ) (relup : RelupForm) : Type 0 where
  pub file : List ℕ
  pub is : text ≡ file ++ codes "\nok\n"
  pub says : SaysRelup file relup

-- The text is that of releases which the files say, and a relup that is made of these can be read back from it, where its term
-- keeps a reader's limits on depth and on atoms.
pub record AnswersMadeRelup (source : Source) (new : List ℕ) (ups downs : List (List ℕ)) (text : List ℕ) : Type 0 where
  pub all : Releases
  pub there : ReleasesAt source new ups downs (Ok all)
  pub is : text ≡ translation_lines (translation all.new all.ups all.downs)
  pub says : (relup : RelupForm) → translation all.new all.ups all.downs ≡ Ok relup → IsWithin 64 (relup_term relup) → AnswersFile text relup

-- Paths in a request of one line are within a line.
abbrev pub AreLinePaths : List (List ℕ) → Type 0
AreLinePaths = AllByRecursion (λ path. is_one_line path ≡ true)
