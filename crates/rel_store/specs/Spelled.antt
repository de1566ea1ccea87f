-- A store by what it spells, and not by how it is read.
use Rattle.std.specs.Prelude.{◌≡◌, ◌≢◌, ℕ, ◌<◌, ◌≤◌, List, [], ◌∷◌, ◌++◌, length, take, drop, slice_index}
use Rattle.rel_store.specs.Layout.{magic, base_of}
use Rattle.rel_store.specs.Records.{records_bytes}

-- each body is no longer than a record's may be
abbrev pub AreShort : List (List ℕ) → Type 0
AreShort [] = Unit {0}
AreShort (body ∷ bodies) = (length body ≤ 16777216) × AreShort bodies

-- The open gate and the magic, a base after the layout, and from there on these records and a closed gate.
pub record IsSpelled (bodies : List (List ℕ)) (bytes : List ℕ) : Type 0 where
  pub begins : take 9 bytes ≡ 1 ∷ magic
  pub low : 288 ≤ base_of bytes
  pub short : AreShort bodies
  pub gate : ℕ
  pub shut : gate ≢ 1
  pub rest : List ℕ
  pub records : drop (base_of bytes) bytes ≡ records_bytes bodies ++ gate ∷ rest

-- Each of the bytes is below 256.
abbrev pub AreBytes : List ℕ → Type 0
AreBytes bytes = (i : ℕ) → slice_index bytes i < 256
