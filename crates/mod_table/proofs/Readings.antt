-- What a file says, from its one term.
use Rattle.std.proofs.Common.{◌≡◌, ◌≢◌, ℕ}
use Rattle.erl_term.specs.Value.{Value}
use Rattle.rel_files.specs.declared.fault.FileFault.{FileFault}
use Rattle.rel_files.specs.declared.fault.FileFault.TheVariants.{NoMemory}
use Rattle.rel_files.specs.Fault.{fault_of}
use Rattle.rel_files.proofs.KindFiles.{never_of_term}
use Rattle.mod_table.specs.declared.table.Table.{Table}
use Rattle.mod_table.specs.File.{mod_files, IsTableTerm, IsTermFault}

-- a term that says a table has no fault: out of memory is none
pub only_memory : (v : Value) (at : ℕ) (t : Table) (f : FileFault) → IsTableTerm v t → (f ≢ NoMemory → IsTermFault v at f) → f ≡ NoMemory
only_memory v at t NoMemory is fault = λ i. NoMemory
only_memory v at t f is fault = absurd (never_of_term mod_files v at t (fault_of f) is (fault (λ same. cc)))
