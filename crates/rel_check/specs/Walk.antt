-- The walk through the processes that a release starts: from the top modules of its applications down through the children
-- of supervisors. A number says how many supervisors in each other the walk goes through at most.
use Rattle.std.specs.Prelude.{ℕ, zero, suc, Bool, true, false, ◌&&◌, List, length, nat_le, Option, None, Some, if◌then◌else◌}
use Rattle.std.specs.List.{list_all, sum_by}
use Rattle.std.specs.Option.{option_and_then, option_map_or}
use Rattle.rel_files.specs.declared.release.StartType.{StartType}
use Rattle.rel_files.specs.declared.release.StartType.TheVariants.{Permanent, Transient, Temporary}
use Rattle.mod_table.specs.declared.child.ChildKind.TheVariants as kind
use Rattle.mod_table.specs.declared.table.Table.{Table}
use Rattle.mod_table.specs.declared.table.Table.TheVariants.{Worker, Super}
use Rattle.mod_table.specs.Table.{ChildSpec}
use Rattle.rel_check.specs.Modules.{Part, table_of, modules_in}
use Rattle.mod_table.specs.Tables.{Tables, of_kind, child_table, first_of}

-- the module itself if it has no such table, and else what is missing below
abbrev pub missing_at : (Table → Option (List ℕ)) → List ℕ → Option Table → Option (List ℕ)
missing_at below m None = Some m
missing_at below m (Some t) = below t

-- the first module below a table that has no table of its child's kind: children in order, each with its own before the next
unfoldable pub missing_below : ℕ → Tables → Table → Option (List ℕ)
missing_below n tables (Worker w) = None
missing_below zero tables (Super s) = None
missing_below (suc n) tables (Super s) = first_of (λ (c : ChildSpec). missing_at (missing_below n tables) c.start (child_table tables c)) s.children

-- how many processes there are from this table on: that of a worker, or those of a supervisor's children
unfoldable pub processes_from : ℕ → Tables → Table → ℕ
processes_from n tables (Worker w) = 1
processes_from zero tables (Super s) = 0
processes_from (suc n) tables (Super s) = sum_by (λ (c : ChildSpec). option_map_or (processes_from n tables) (child_table tables c) 0) s.children

-- no supervisor has more than 64 children, and none is deeper than so many in each other
unfoldable pub is_within : ℕ → Tables → Table → Bool
is_within n tables (Worker w) = true
is_within zero tables (Super s) = false
is_within (suc n) tables (Super s) = nat_le (length s.children) 64 && list_all (λ (c : ChildSpec). option_map_or (is_within n tables) (child_table tables c) true) s.children

-- the applications that are started
abbrev pub is_started : StartType → Bool
is_started Permanent = true
is_started Transient = true
is_started Temporary = true
is_started t = false

-- the top module of an application that is started, if its file names one
abbrev pub top_of : Part → Option (List ℕ)
top_of p = if is_started p.app.start then p.library.app.top else None

-- A top module without a table starts no process. One with the table of a worker is missing as a supervisor.
abbrev pub missing_from : Tables → List ℕ → Option Table → Option (List ℕ)
missing_from tables m None = None
missing_from tables m (Some (Worker w)) = Some m
missing_from tables m (Some (Super s)) = missing_below 8 tables (Super s)

abbrev pub part_missing : Tables → Part → Option (List ℕ)
part_missing tables p = option_and_then (λ m. missing_from tables m (tables m)) (top_of p)

-- the table of the supervisor at the top of an application that is started
abbrev pub top_table : Tables → Part → Option Table
top_table tables p = option_and_then (of_kind kind.Supervisor) (option_and_then tables (top_of p))

abbrev pub part_processes : Tables → Part → ℕ
part_processes tables p = option_map_or (processes_from 8 tables) (top_table tables p) 0

abbrev pub part_is_within : Tables → Part → Bool
part_is_within tables p = option_map_or (is_within 8 tables) (top_table tables p) true

-- the tables of all modules of a release
abbrev pub tables_of : List Part → Tables
tables_of ps = table_of (modules_in ps)

-- the first module that has no table of the kind that is asked of it
abbrev pub first_missing : List Part → Option (List ℕ)
first_missing ps = first_of (part_missing (tables_of ps)) ps

-- how many processes the release starts
abbrev pub processes_in : List Part → ℕ
processes_in ps = sum_by (part_processes (tables_of ps)) ps

-- each supervisor that is started has few children, and few are in each other
abbrev pub are_within : List Part → Bool
are_within ps = list_all (part_is_within (tables_of ps)) ps
