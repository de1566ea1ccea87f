-- How failures are counted.
use Rattle.std.specs.Prelude.{◌≡◌, ℕ, ◌+◌, ◌-◌, ◌^◌, min, Result, Ok, Err, IsErrOf}

-- a count has risen by one, as far as it goes
abbrev pub HasRisen : ℕ → ℕ → Type 0
HasRisen old new = new ≡ min (old + 1) (2 ^ 64 - 1)

-- a call that failed has raised the count, and one that didn't has left it
abbrev pub Counts : {V E : Type 0} → Result V E → ℕ → ℕ → Type 0
Counts (Ok v) old new = new ≡ old
Counts (Err e) old new = HasRisen old new

-- one failure was counted where this is reported, and else none
abbrev pub Reports : {V E : Type 0} → E → Result V E → ℕ → ℕ → Type 0
Reports e r old new = (IsErrOf r e → HasRisen old new) × ((IsErrOf r e → ⊥) → new ≡ old)
