-- The fault of a file.
use Rattle.std.specs.Prelude.{ℕ, List, ◌++◌, codes, decimal, string_bytes}
use Rattle.erl_term.specs.TermFault.{TermFault}
use Rattle.erl_term.specs.TermFault.TheVariants as term
use Rattle.erl_term.specs.FaultTexts.{term_fault_text}
use Rattle.rel_files.specs.declared.fault.FileFault.{FileFault}
use Rattle.rel_files.specs.declared.fault.FileFault.TheVariants.{BadTerm, BadShape, Duplicate, BadVersion, NoMemory}

-- the fault of a file that is no row of terms; out of memory says nothing of the terms
abbrev pub file_fault_of : TermFault → FileFault
file_fault_of term.NoMemory = NoMemory
file_fault_of e = BadTerm e

-- a fault without where its name lies in memory
pub data Fault : Type 0 where
  bad_term : TermFault → Fault
  bad_shape : ℕ → Fault
  duplicate : List ℕ → Fault
  bad_version : Fault
  no_memory : Fault

abbrev pub fault_of : FileFault → Fault
fault_of (BadTerm e) = bad_term e
fault_of (BadShape at) = bad_shape at
fault_of (Duplicate name) = duplicate (string_bytes name)
fault_of BadVersion = bad_version
fault_of NoMemory = no_memory

-- how a fault is shown: its name, and its place if it has one
abbrev pub file_fault_text : Fault → List ℕ
file_fault_text (bad_term e) = term_fault_text e
file_fault_text (bad_shape at) = codes "BadShape " ++ decimal at
file_fault_text (duplicate name) = codes "Duplicate"
file_fault_text bad_version = codes "BadVersion"
file_fault_text no_memory = codes "NoMemory"
