-- The moments of a disk, each with the images that a crash would have left then, and the count of its failures.
use Rattle.std.specs.Prelude.{◌≡◌, ◌⊎◌, ℕ, ◌+◌, ◌-◌, ◌^◌, ◌<◌, ◌≤◌, List}

-- A call goes by: a crash since t may have left what it may have left before the call, or what it may leave now.
pub record Elapses (before now : ℕ) (past since : ℕ → List ℕ → Type 0) (may_leave : List ℕ → Type 0) : Type 0 where
  pub later : before ≤ now
  pub nothing_else : (t : ℕ) (c : List ℕ) → t ≤ before → since t c → past t c ⊎ may_leave c
  pub keeps : (t : ℕ) (c : List ℕ) → t ≤ before → past t c → since t c

-- At each moment from old to new a crash leaves bytes that have P.
pub record LeavesOnly {D : Type 0} (moment : D → ℕ) (left_since : D → ℕ → List ℕ → Type 0) (old new : D) (P : List ℕ → Type 0) : Type 0 where
  pub later : moment old ≤ moment new
  pub each : (c : List ℕ) → left_since new (moment old) c → P c
  -- for a run of calls that began earlier
  pub before : (t : ℕ) (c : List ℕ) → t ≤ moment old → left_since new t c → left_since old t c ⊎ P c

-- a sync takes no effect and isn't counted, or it takes effect, whatever it answers, and is counted
abbrev pub MaySync : ℕ → ℕ → Type 0 → Type 0
MaySync before now effect = (now ≡ before) ⊎ ((now ≡ before + 1) × effect)

-- the count of failures rose, or it stood at the greatest that it can be
abbrev pub HasFailed : ℕ → ℕ → Type 0
HasFailed before now = (before < now) ⊎ (before ≡ 2 ^ 64 - 1)
