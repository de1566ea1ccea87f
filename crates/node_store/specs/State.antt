-- A node as its callers see it: its disk, its list, and what is known of them.
use Rattle.std.specs.Prelude.{◌≡◌, ℕ, Bool, false, List, [], length, Option, None, Some, Result, Ok, Err}
use Rattle.rel_files.specs.Release.{Release}
use Rattle.rel_list.specs.Releases.{Releases, has_one_shot}
use Rattle.rel_store.specs.State as of_store
use Rattle.rel_store.specs.declared.store.Store.{Store}
use Rattle.node_store.specs.Image.{AreRecordsOf, Extent, HasBootSpace, IsStarted}
use Rattle.node_store.specs.declared.node_store.NodeStore.{NodeStore}

-- the disk of a node
abbrev pub disk_in : {D : Type 0} → NodeStore D → D
disk_in node = of_store.disk_in node.store

-- the disk in a node that was made or booted, or beside the refusal
abbrev pub disk_of : {D E : Type 0} → Result (NodeStore D) (E × D) → D
disk_of (Ok node) = of_store.disk_in node.store
disk_of (Err refusal) = refusal.1

-- the releases of a node, in a list
abbrev pub list_in : {D : Type 0} → NodeStore D → Releases
list_in node = node.list

-- whether a node is dead: nothing can be asked of it until the next boot
abbrev pub is_dead : {D : Type 0} → NodeStore D → Bool
is_dead node = node.dead

-- how far a store reaches
abbrev pub store_extent : {D : Type 0} → Store D → Extent
store_extent store =
    record { base = of_store.base_in store; end = of_store.end_in store; count = length (of_store.records_in store) }

-- how far its store reaches
abbrev pub extent_in : {D : Type 0} → NodeStore D → Extent
extent_in node = store_extent node.store

-- the format of its store, 1 or 2
abbrev pub format_in : {D : Type 0} → NodeStore D → ℕ
format_in node = of_store.format_in node.store

-- the start slot that counts, on its disk
abbrev pub start_in : {D : Type 0} → (D → List ℕ) → NodeStore D → List ℕ
start_in seen node = of_store.text_in seen node.store

-- The node's store is settled, has the records of the node's list, and room for the next boot.
pub record IsReady {D : Type 0} (seen : D → List ℕ) (may_leave : D → List ℕ → Type 0) (node : NodeStore D) : Type 0 where
  pub store : of_store.IsSettled seen may_leave node.store
  pub list : AreRecordsOf (format_in node) (of_store.records_in node.store) node.list
  pub room : HasBootSpace (extent_in node) node.list

-- From now on each crash leaves the start record of the list's permanent release.
abbrev pub HasStarted : {D : Type 0} → (D → List ℕ → Type 0) → NodeStore D → Type 0
HasStarted may_leave node = (c : List ℕ) → may_leave (disk_in node) c → IsStarted (list_in node) c

-- What is known of a node between two calls, unless it is dead. No release is a one-shot then: a boot has to come first.
pub record IsSound {D : Type 0} (seen : D → List ℕ) (may_leave : D → List ℕ → Type 0) (node : NodeStore D) : Type 0 where
  pub ready : is_dead node ≡ false → IsReady seen may_leave node
  pub started : is_dead node ≡ false → HasStarted may_leave node
  pub free : is_dead node ≡ false → has_one_shot (list_in node) ≡ false

-- Nothing of a node has changed but the memory that it holds.
pub record IsSame {D : Type 0} (old new : NodeStore D) : Type 0 where
  pub disk : disk_in new ≡ disk_in old
  pub list : list_in new ≡ list_in old
  pub dead : is_dead new ≡ is_dead old
  pub extent : extent_in new ≡ extent_in old

-- the version of the release, and nothing where there is none
abbrev pub version_of : Option Release → List ℕ
version_of None = []
version_of (Some r) = r.vsn
