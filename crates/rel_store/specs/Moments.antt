-- What a write and its sync may leave.
use Rattle.std.specs.Prelude.{◌≡◌, ◌⊎◌, ℕ, List, length}
use Rattle.rel_disk.specs.Damage.{overwritten, Torn}

-- one of these images, or one of them with a torn write of n bytes at this place
abbrev pub IsTornFrom : (List ℕ → Type 0) → ℕ → ℕ → List ℕ → Type 0
IsTornFrom images at n c = images c ⊎ ((d : List ℕ) × images d × Torn at n d c)

-- one of these images, with a torn write of these bytes; or the old bytes with these written, and with a torn write of
-- the one byte that makes them count
abbrev pub IsTornInSteps : (List ℕ → Type 0) → ℕ → List ℕ → ℕ → List ℕ → List ℕ → Type 0
IsTornInSteps images at bytes mark old c = IsTornFrom images at (length bytes) c ⊎ IsTornFrom (λ d. d ≡ overwritten at bytes old) mark 1 c
