-- A disk of which some calls fail.
use Rattle.std.specs.Prelude.{◌≡◌, ◌≢◌, ℕ, ◌+◌, ◌-◌, ◌^◌, min}
use Rattle.rel_disk.specs.Moments.{HasFailed}
use Rattle.rel_disk.specs.declared.faulty_disk.FaultyDisk.{FaultyDisk}
use Rattle.rel_disk.specs.declared.plan.Turn.{Turn}
use Rattle.rel_disk.specs.declared.plan.Turn.TheVariants.{Passes, Fails, FailsInPart, Stops}

-- how many calls have failed by a plan, after one with this turn
abbrev pub refused_after : Turn → ℕ → ℕ
refused_after Passes refused = refused
refused_after Fails refused = min (2 ^ 64 - 1) (refused + 1)
refused_after FailsInPart refused = min (2 ^ 64 - 1) (refused + 1)
refused_after Stops refused = min (2 ^ 64 - 1) (refused + 1)

-- the failures of the disk within, and those of the plan
abbrev pub all_failures : {D P : Type 0} → (D → ℕ) → FaultyDisk D P → ℕ
all_failures failures f = min (2 ^ 64 - 1) (failures f.disk + f.refused)

-- A call that is passed on fails only where the disk within has failed. Any other fails and is counted; one that does nothing leaves the
-- disk within as it is.
pub record TakesTurn {D P : Type 0} (turn_of : P → Turn) (after_turn : P → P) (failures : D → ℕ) (old new : FaultyDisk D P) (fails : Type 0) : Type 0 where
  pub plan : new.plan ≡ after_turn old.plan
  pub refused : new.refused ≡ refused_after (turn_of old.plan) old.refused
  pub passes : turn_of old.plan ≡ Passes → fails → HasFailed (failures old.disk) (failures new.disk)
  pub fails_now : turn_of old.plan ≢ Passes → fails
  pub unseen : turn_of old.plan ≡ Fails → new.disk ≡ old.disk
