-- Where a script runs, as it is lent.
use Rattle.std.specs.Prelude.{◌≡◌, [], map}
use Rattle.library.specs.InMemory.{shared_of}
use Rattle.proc_table.specs.declared.view.View.{View}
use Rattle.proc_table.specs.Agrees.{slots}
use Rattle.proc_table.specs.Views.{handler_view}
use Rattle.loaded_modules.specs.Loaded.{listed_in}
use Rattle.sup_tree.specs.Tree.{App}
use Rattle.script_progress.specs.Script.{Site}
use Rattle.relup_exec.specs.declared.site.Site as lent
use Rattle.relup_exec.specs.Outcome.{Start}

-- from where a script takes modules and applications there
abbrev pub site_in : lent.Site → Site
site_in s = record { releases = s.list.now; target = map shared_of s.target.now; loaded = listed_in s.loaded.now }

-- what the handler has seen of the processes
abbrev pub view_in : lent.Site → View
view_in s = s.seat.now.view

-- how a script starts there
abbrev pub start_in : lent.Site → Start
start_in s = record { first = s.seat.now.view; apps = s.tree.now }

-- The seat sits at the table.
abbrev pub IsSeated : lent.Site → Type 0
IsSeated s = s.seat.now.table ≡ s.table.now

-- The two sites lend the same table and releases, and the same places for what changes.
pub record LendsSame (s t : lent.Site) : Type 0 where
  pub table : t.table.now ≡ s.table.now
  pub seat : t.seat.ghost_name ≡ s.seat.ghost_name
  pub tree : t.tree.ghost_name ≡ s.tree.ghost_name
  pub loaded : t.loaded.ghost_name ≡ s.loaded.ghost_name
  pub target : t.target.now ≡ s.target.now
  pub list : t.list.now ≡ s.list.now

-- some start, for a contract that is read with none chosen
abbrev pub some_start : Start
some_start = record { first = handler_view slots; apps = [] }
