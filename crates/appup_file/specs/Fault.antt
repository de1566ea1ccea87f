-- The fault of an appup file, and that of a search in an appup.
use Rattle.std.specs.Prelude.{ℕ, List, codes}
use Rattle.erl_term.specs.FaultTexts.{term_fault_text}
use Rattle.rel_files.specs.declared.fault.FileFault.{FileFault}
use Rattle.rel_files.specs.declared.fault.FileFault.TheVariants as file
use Rattle.appup_file.specs.declared.fault.AppupFault.{AppupFault}
use Rattle.appup_file.specs.declared.fault.AppupFault.TheVariants.{BadTerm, BadShape, NoMemory}
use Rattle.appup_file.specs.declared.search.EntryFault.{EntryFault}
use Rattle.appup_file.specs.declared.search.EntryFault.TheVariants.{NoEntry, RegexVersion}

-- the fault of a file that hasn't one term; out of memory says nothing of the file
abbrev pub appup_fault_of : FileFault → AppupFault
appup_fault_of (file.BadTerm e) = BadTerm e
appup_fault_of file.NoMemory = NoMemory
appup_fault_of f = BadShape

-- how a fault is shown
abbrev pub appup_fault_text : AppupFault → List ℕ
appup_fault_text (BadTerm e) = term_fault_text e
appup_fault_text BadShape = codes "BadShape"
appup_fault_text NoMemory = codes "NoMemory"

abbrev pub entry_fault_text : EntryFault → List ℕ
entry_fault_text NoEntry = codes "NoEntry"
entry_fault_text RegexVersion = codes "RegexVersion"
