-- What the calls of a disk do to its bytes, and what a crash may make of them until the next sync.
use Rattle.std.specs.Prelude.{◌≡◌, ℕ, ◌+◌, ◌-◌, min, List, ◌++◌, length, take, drop}

-- these bytes, with others written over them at this place, and past their end
abbrev pub overwritten : ℕ → List ℕ → List ℕ → List ℕ
overwritten at bytes old = take at old ++ (bytes ++ drop (at + length bytes) old)

-- What a write of n bytes may leave until the next sync: any bytes in its range and past the end, all others as they were.
pub record Torn (at n : ℕ) (old new : List ℕ) : Type 0 where
  pub middle : List ℕ
  pub tail : List ℕ
  pub long : length middle ≡ min n (length old - at)
  pub is : new ≡ take at old ++ (middle ++ (drop (at + n) old ++ tail))

-- What a cut to n bytes may leave until the next sync: any bytes from there on, all before as they were.
pub record Cut (n : ℕ) (old new : List ℕ) : Type 0 where
  pub tail : List ℕ
  pub is : new ≡ take n old ++ tail

-- each of the new images is one of the old ones after this step
abbrev pub Follows : (List ℕ → List ℕ → Type 0) → (List ℕ → Type 0) → (List ℕ → Type 0) → Type 0
Follows step old new = (c : List ℕ) → new c → (d : List ℕ) × old d × step d c

-- each of the new images is one of the old ones
abbrev pub Within : (List ℕ → Type 0) → (List ℕ → Type 0) → Type 0
Within old new = (c : List ℕ) → new c → old c

-- The bytes are the only image.
abbrev pub Only : List ℕ → (List ℕ → Type 0) → Type 0
Only bytes images = (c : List ℕ) → images c → c ≡ bytes
