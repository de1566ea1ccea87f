-- A disk as one value: what a read gives, what a crash may leave now and at moments past, and how often it has failed.
use Rattle.std.specs.Prelude.{ℕ, List}
use Rattle.rel_disk.specs.declared.disk.Disk.{Ghosts}
use Rattle.rel_disk.specs.Moments as moments

-- what contracts see of the disks of a type
abbrev pub Device : Type 0 → Type 1
Device D = Ghosts D

-- at each moment from old to new a crash leaves bytes that have P
abbrev pub LeavesOnly : {D : Type 0} → Device D → D → D → (List ℕ → Type 0) → Type 0
LeavesOnly v old new P = moments.LeavesOnly v.moment v.left_since old new P

-- the device has failed between the two
abbrev pub HasFailed : {D : Type 0} → Device D → D → D → Type 0
HasFailed v old new = moments.HasFailed (v.failures old) (v.failures new)
