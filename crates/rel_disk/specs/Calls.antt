-- The calls that a disk has done, newest first, and what a read gives after them, over the bytes that it began with.
use Rattle.std.specs.Prelude.{ℕ, ◌+◌, ◌-◌, List, [], ◌∷◌, length, take}
use Rattle.rel_disk.specs.Damage.{overwritten}

-- a call that changes a disk or makes it durable
pub data Call : Type 0 where
  wrote : ℕ → List ℕ → Call
  cut_to : ℕ → Call
  synced : Call

-- what a read gives after these calls on a disk that began with these bytes
abbrev pub content : List ℕ → List Call → List ℕ
content first [] = first
content first (wrote at bytes ∷ older) = overwritten at bytes (content first older)
content first (cut_to len ∷ older) = take len (content first older)
content first (synced ∷ older) = content first older

-- how many bytes a log keeps of a call: 32 for the call, and each byte that it writes or cuts off
abbrev pub cost : List ℕ → List Call → Call → ℕ
cost first older (wrote at bytes) = 32 + length bytes
cost first older (cut_to len) = 32 + (length (content first older) - len)
cost first older synced = 32

-- how many of these calls are syncs
abbrev pub sync_count : List Call → ℕ
sync_count [] = 0
sync_count (wrote at bytes ∷ older) = sync_count older
sync_count (cut_to len ∷ older) = sync_count older
sync_count (synced ∷ older) = sync_count older + 1

-- the calls since the last sync
abbrev pub since_sync : List Call → List Call
since_sync [] = []
since_sync (wrote at bytes ∷ older) = wrote at bytes ∷ since_sync older
since_sync (cut_to len ∷ older) = cut_to len ∷ since_sync older
since_sync (synced ∷ older) = []
