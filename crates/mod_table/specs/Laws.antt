-- Laws of files, whatever reads them.
use Rattle.std.specs.Prelude.{◌≡◌, ◌⊎◌, ℕ, List}
use Rattle.erl_term.specs.Value.{Value}
use Rattle.rel_files.specs.Fault.{Fault}
use Rattle.rel_files.specs.Kind.{Says, HasFault}
use Rattle.mod_table.specs.declared.table.Table.{Table}
use Rattle.mod_table.specs.File.{mod_files, IsTableTerm}
use Rattle.mod_table.specs.Form.{IsTableForm}

-- No file says two tables.
abbrev pub SaysOneTable : Type 0
SaysOneTable = (bytes : List ℕ) (s t : Table) → Says mod_files bytes s → Says mod_files bytes t → s ≡ t

-- No file has two faults.
abbrev pub HasOneFault : Type 0
HasOneFault = (bytes : List ℕ) (f g : Fault) → HasFault mod_files bytes f → HasFault mod_files bytes g → f ≡ g

-- No file both says a table and has a fault.
abbrev pub NeverBoth : Type 0
NeverBoth = (bytes : List ℕ) (t : Table) (f : Fault) → Says mod_files bytes t → HasFault mod_files bytes f → ⊥

-- Each file says a table or has a fault.
abbrev pub SaysOrFails : Type 0
SaysOrFails = (bytes : List ℕ) → ((t : Table) × Says mod_files bytes t) ⊎ ((f : Fault) × HasFault mod_files bytes f)

-- A term says a table exactly where it has the form of that table.
pub record TablesAreRead : Type 0 where
  pub only : (v : Value) (t : Table) → IsTableTerm v t → IsTableForm v t
  pub each : (v : Value) (t : Table) → IsTableForm v t → IsTableTerm v t
