-- What has begun in the table of a node that was just started, and nothing else.
use Rattle.std.specs.Prelude.{◌≡◌, ℕ, List, [], ◌∷◌, slice_get, Option, Some, None}
use Rattle.rel_files.specs.Release.{Application}
use Rattle.library.specs.Library.{Library}
use Rattle.rel_list.specs.Releases.{Releases, Entry}
use Rattle.rel_check.specs.Modules.{parts}
use Rattle.proc_history.specs.declared.beginning.Beginning.{Beginning}
use Rattle.proc_history.specs.Events.{HistoryEntry, entry}
use Rattle.proc_history.specs.Events.Event.{begin}
use Rattle.proc_table.specs.declared.view.View.{View}
use Rattle.proc_table.specs.Views.{seen}
use Rattle.node_processes.specs.Fresh.{beginnings, running_entry, started_parts, tables_in}

-- what begins at the start of a release of these applications, with their libraries in the same order
abbrev pub release_beginnings : List Application → List Library → List Beginning
release_beginnings as' ls = beginnings (tables_in ls) (started_parts (parts as' ls))

abbrev pub entry_beginnings : Option Entry → List Beginning
entry_beginnings None = release_beginnings [] []
entry_beginnings (Some e) = release_beginnings e.release.apps e.libraries

-- what begins at the start of the release that runs after a boot
abbrev pub fresh_beginnings : Releases → List Beginning
fresh_beginnings es = entry_beginnings (running_entry es)

-- the history of a slot in which a process began, or nothing
abbrev pub first_history : Option Beginning → List HistoryEntry
first_history None = []
first_history (Some b) = entry 0 (begin 1 b) ∷ []

-- The processes began, one in each slot from the first one on, and nothing else has happened in any slot.
abbrev pub HaveJustBegun : List Beginning → View → Type 0
HaveJustBegun bs v = (p : ℕ) → seen v p ≡ first_history (slice_get bs p)
