-- What was taken from a reader.
use Rattle.std.specs.Prelude.{ℕ, Bool, List}

-- the bytes not used yet, how many were taken in all, and whether the end was read
pub record Pending : Type 0 where
  pub bytes : List ℕ
  pub taken : ℕ
  pub is_over : Bool
