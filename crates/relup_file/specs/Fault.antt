-- The fault of a relup file.
use Rattle.std.specs.Prelude.{ℕ, List, ◌++◌, codes, decimal}
use Rattle.erl_term.specs.FaultTexts.{term_fault_text}
use Rattle.rel_files.specs.declared.fault.FileFault.{FileFault}
use Rattle.rel_files.specs.declared.fault.FileFault.TheVariants as file
use Rattle.relup_file.specs.declared.fault.RelupFault.{RelupFault}
use Rattle.relup_file.specs.declared.fault.RelupFault.TheVariants.{BadTerm, BadShape, NoMemory}

-- the fault of a file that hasn't one term
abbrev pub relup_fault_of_file : FileFault → RelupFault
relup_fault_of_file (file.BadTerm e) = BadTerm e
relup_fault_of_file file.NoMemory = NoMemory
relup_fault_of_file f = BadShape 0

-- how a fault is shown
abbrev pub relup_fault_text : RelupFault → List ℕ
relup_fault_text (BadTerm e) = term_fault_text e
relup_fault_text (BadShape entry) = codes "BadShape " ++ decimal entry
relup_fault_text NoMemory = codes "NoMemory"
