-- The release that runs, and that it is started as a one-shot at most once.
use Rattle.std.specs.Prelude.{◌≡◌, ◌⊎◌, ℕ, false, List, Contains, Some}
use Rattle.rel_files.specs.Release.{Release}
use Rattle.rel_list.specs.declared.status.Status.{Status}
use Rattle.rel_list.specs.declared.status.Status.TheVariants.{Unpacked, Permanent}
use Rattle.rel_list.specs.Event.{recorded}
use Rattle.rel_list.specs.Releases.{Entry, Releases, has_one_shot, running}
use Rattle.node_store.specs.Image.{IsImageOf}
use Rattle.node_store.specs.State.{disk_in, list_in}
use Rattle.rel_handler.specs.NodeStore.{NodeStore}
use Rattle.proc_table.specs.declared.view.View.{View}
use Rattle.loaded_modules.specs.Loaded.{listed_in}
use Rattle.node_processes.specs.InMemory.{values_in}
use Rattle.node_processes.specs.Processes.{Processes}
use Rattle.node_start.specs.declared.start.Started.{Started}

-- what was started, with what the handler has seen of the slots
abbrev pub started_in : Started → View → Processes
started_in s v = record { values = values_in v; apps = s.tree; modules = listed_in s.loaded }

-- a release of this status is started by a boot for being permanent, or not at all
abbrev pub IsSettledStatus : Status → Type 0
IsSettledStatus s = (s ≡ Permanent) ⊎ (s ≡ Unpacked)

-- The list has the release as permanent or unpacked, and none as a one-shot.
pub record IsRunOut (r : Release) (es : Releases) : Type 0 where
  pub free : has_one_shot es ≡ false
  pub entry : Entry
  pub listed : Contains es entry
  pub of_release : entry.release ≡ r
  pub settled : IsSettledStatus entry.status

-- The bytes stand for a list, as records report it, that has the release as permanent or unpacked, and none as a one-shot.
abbrev pub StartsNoOneShot : Release → List ℕ → Type 0
StartsNoOneShot r image = (es : Releases) × IsImageOf image es × (recorded es ≡ es) × IsRunOut r es

-- Whatever a crash now leaves of a handler's disk, a later boot starts the release that runs for being permanent, or not at
-- all.
abbrev pub RunsOnce : {D : Type 0} → (D → List ℕ → Type 0) → NodeStore D → Type 0
RunsOnce may_leave h =
    (r : Release) → running (list_in h) ≡ Some r → (c : List ℕ) → may_leave (disk_in h) c → StartsNoOneShot r c
