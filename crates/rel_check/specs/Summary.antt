-- What is known of the processes below a table, kept for each table of a release level by level.
use Rattle.std.specs.Prelude.{ℕ, ◌+◌, ◌^◌, ◌-◌, min, Bool, true, false, ◌&&◌, List, [], ◌∷◌, map, length, nat_le, Option, None, Some, if◌then◌else◌}
use Rattle.std.specs.Borrow.{Bor}
use Rattle.std.specs.BTreeMap.{BTreeMap, get_by}
use Rattle.std.specs.Cmp.Lexicographic.{slice_cmp}
use Rattle.std.specs.Ordering.{nat_cmp}
use Rattle.std.specs.List.{list_all}
use Rattle.std.specs.Option.{option_map, option_or}
use Rattle.mod_table.specs.declared.child.ChildKind.{ChildKind}
use Rattle.mod_table.specs.declared.child.ChildKind.TheVariants as kind
use Rattle.mod_table.specs.declared.table.Table.{Table}
use Rattle.mod_table.specs.declared.table.Table.TheVariants.{Worker, Super}
use Rattle.mod_table.specs.Table.{ChildSpec}
use Rattle.rel_check.specs.declared.walk.Walk.{Walk}
use Rattle.rel_check.specs.Modules.{Part, Module}
use Rattle.mod_table.specs.Tables.{Tables}
use Rattle.rel_check.specs.Fault.{few_modules_in, has_few_rows}
use Rattle.rel_check.specs.Walk.{missing_below, processes_from, is_within, top_of}

-- the kind of a table, and of the processes from it on: the first module without a table, their number, and whether the limits on
-- supervisors are kept
pub record Summary : Type 0 where
  pub kind : ChildKind
  pub missing : Option (List ℕ)
  pub processes : ℕ
  pub within : Bool

abbrev pub summary_of : Walk → Summary
summary_of w = record { kind = w.kind; missing = option_map (λ n. n.now) w.missing; processes = w.processes; within = w.within }

abbrev pub kind_of : Table → ChildKind
kind_of (Worker w) = kind.Worker
kind_of (Super s) = kind.Supervisor

-- a number, or the greatest that is counted
abbrev pub counted : ℕ → ℕ
counted n = min n (2 ^ 64 - 1)

-- what the walk through so many supervisors finds
abbrev pub summary : ℕ → Tables → Table → Summary
summary n tables t = record {
  kind = kind_of t;
  missing = missing_below n tables t;
  processes = counted (processes_from n tables t);
  within = is_within n tables t;
}

-- what is known of a module, by its name
abbrev pub Known : Type 0
Known = List ℕ → Option Summary

-- what a map has of a module
abbrev pub known_in : BTreeMap (Bor (List ℕ)) Walk → Known
known_in walks name = option_map summary_of (get_by (λ k. slice_cmp nat_cmp name k.now) walks)

-- what the walk through so many supervisors finds from each module on
abbrev pub known_at : ℕ → Tables → Known
known_at n tables name = option_map (summary n tables) (tables name)

-- a supervisor's or a release's, and that of one more below it
abbrev pub joined : Summary → Summary → Summary
joined s t = record {
  kind = s.kind;
  missing = option_or s.missing t.missing;
  processes = counted (s.processes + t.processes);
  within = s.within && t.within;
}

abbrev pub all_joined : Summary → List Summary → Summary
all_joined s [] = s
all_joined s (t ∷ ts) = all_joined (joined s t) ts

-- one process
abbrev pub one_worker : Summary
one_worker = record { kind = kind.Worker; missing = None; processes = 1; within = true }

-- no process and no supervisor
abbrev pub nothing_started : Summary
nothing_started = record { kind = kind.Supervisor; missing = None; processes = 0; within = true }

-- neither, and no table of this module
abbrev pub no_table_of : List ℕ → Summary
no_table_of m = record { kind = kind.Supervisor; missing = Some m; processes = 0; within = true }

abbrev pub is_same_kind : ChildKind → ChildKind → Bool
is_same_kind kind.Worker kind.Worker = true
is_same_kind kind.Supervisor kind.Supervisor = true
is_same_kind k l = false

-- that of a module, if its table is of this kind
abbrev pub summary_of_kind : ChildKind → List ℕ → Summary → Summary
summary_of_kind k m s = if is_same_kind s.kind k then s else no_table_of m

-- that of a child, if its module has a table of its kind
abbrev pub child_summary_at : ChildKind → List ℕ → Option Summary → Summary
child_summary_at k m None = no_table_of m
child_summary_at k m (Some s) = summary_of_kind k m s

abbrev pub child_summary : Known → ChildSpec → Summary
child_summary known c = child_summary_at c.kind c.start (known c.start)

-- that of a supervisor, before its children
abbrev pub supervisor_alone : List ChildSpec → Summary
supervisor_alone cs = record { kind = kind.Supervisor; missing = None; processes = 0; within = nat_le (length cs) 64 }

-- that of children, joined to this
abbrev pub children_joined : Known → Summary → List ChildSpec → Summary
children_joined known s cs = all_joined s (map (child_summary known) cs)

-- that of a supervisor, from those of its children
abbrev pub supervisor_summary : Known → List ChildSpec → Summary
supervisor_summary known cs = children_joined known (supervisor_alone cs) cs

-- that of a supervisor deeper than the walk goes
abbrev pub too_deep : Summary
too_deep = record { kind = kind.Supervisor; missing = None; processes = 0; within = false }

-- that of a table, from what is known one level below it
abbrev pub next_summary : Option Known → Table → Summary
next_summary below (Worker w) = one_worker
next_summary None (Super s) = too_deep
next_summary (Some below) (Super s) = supervisor_summary below s.children

-- that of the module of a top
abbrev pub top_summary_at : List ℕ → Option Summary → Summary
top_summary_at m None = nothing_started
top_summary_at m (Some s) = summary_of_kind kind.Supervisor m s

abbrev pub top_summary : Known → Option (List ℕ) → Summary
top_summary known None = nothing_started
top_summary known (Some m) = top_summary_at m (known m)

-- that of applications, joined to this
abbrev pub parts_joined : Known → Summary → List Part → Summary
parts_joined known s ps = all_joined s (map (λ (p : Part). top_summary known (top_of p)) ps)

-- that of a release
abbrev pub release_summary : Known → List Part → Summary
release_summary known ps = parts_joined known nothing_started ps

-- no limit is passed, where this is what the release starts
abbrev pub limits_kept : List Part → List Module → Summary → Bool
limits_kept ps ms s =
    list_all few_modules_in ps && (list_all has_few_rows ms && (s.within && nat_le s.processes 256))
