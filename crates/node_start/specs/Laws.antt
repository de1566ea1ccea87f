-- Laws of what a boot starts.
use Rattle.std.specs.Prelude.{◌≡◌, ℕ, true, length, None}
use Rattle.mod_table.specs.declared.table.Table.TheVariants.{Super}
use Rattle.mod_table.specs.Table.{SuperTable}
use Rattle.mod_table.specs.Tables.{Tables}
use Rattle.rel_check.specs.Walk.{is_within, missing_below, processes_from}
use Rattle.app_members.specs.Walk.{children_fault, children_members, starts_among}

-- Below a supervisor that passed the tests of a release nothing is wrong, and as many processes start there as were counted.
abbrev pub CheckedStarts : Type 0
CheckedStarts = (n : ℕ) (tables : Tables) (s : SuperTable) (depth : ℕ) → missing_below n tables (Super s) ≡ None → is_within n tables (Super s) ≡ true
    → (children_fault n tables s.children ≡ None)
    × (length (starts_among (children_members n tables depth s.children)) ≡ processes_from n tables (Super s))
