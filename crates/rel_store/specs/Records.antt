-- The records of a store, and what an opening reports of the bytes of a disk.
use Rattle.std.specs.Prelude.{◌≡◌, ◌⊎◌, ℕ, zero, suc, ◌+◌, Bool, ◌==◌, ◌&&◌, ◌||◌, not, nat_lt, nat_le, if◌then◌else◌, List, [], ◌∷◌, ◌++◌, length, take, drop, Result, Ok, Err}
use Rattle.std.specs.Int.{w32, from_be_bytes, to_be_bytes}
use Rattle.rel_store.specs.Layout.{has_magic, base_of, base_slot, text_of}
use Rattle.rel_store.specs.declared.error.StoreError.{StoreError}
use Rattle.rel_store.specs.declared.error.StoreError.TheVariants.{NotAStore, Damaged}

-- a record after its gate: the length of its body in four bytes, greatest first, and the body
abbrev pub record_bytes : List ℕ → List ℕ
record_bytes body = to_be_bytes w32 (length body) ++ body

-- records one after another, each after an open gate
abbrev pub records_bytes : List (List ℕ) → List ℕ
records_bytes [] = []
records_bytes (body ∷ bodies) = 1 ∷ (record_bytes body ++ records_bytes bodies)

-- the length that the bytes after a gate give
abbrev pub spelled_length : List ℕ → ℕ
spelled_length bytes = from_be_bytes w32 (take 4 bytes)

-- the body of the record after a gate
abbrev pub spelled_body : List ℕ → List ℕ
spelled_body bytes = take (spelled_length bytes) (drop 4 bytes)

-- the record after a gate is no longer than a record may be, and it and the gate after it stand within the bytes
abbrev pub is_whole : List ℕ → Bool
is_whole bytes = nat_le (spelled_length bytes) 16777216 && nat_lt (4 + spelled_length bytes) (length bytes)

-- a body before those of the rest
abbrev pub onto : List ℕ → Result (List (List ℕ)) StoreError → Result (List (List ℕ)) StoreError
onto body (Ok bodies) = Ok (body ∷ bodies)
onto body (Err e) = Err e

-- The records from a gate at this place up to the first closed gate, or the place of the first open gate whose record
-- isn't whole. The first `inside` of the bytes belong to the record before.
abbrev pub records_from : ℕ → ℕ → List ℕ → Result (List (List ℕ)) StoreError
records_from place inside [] = Err (Damaged place)
records_from place zero (gate ∷ bytes) =
    if gate == 1
    then (if is_whole bytes then onto (spelled_body bytes) (records_from (place + 1) (4 + spelled_length bytes) bytes) else Err (Damaged place))
    else Ok []
records_from place (suc inside) (byte ∷ bytes) = records_from (place + 1) inside bytes

-- The records that the bytes of a disk hold, from the base up to the first closed gate; or why an opening refuses them:
-- they are no store, or its base or one of its records is damaged.
abbrev pub records_of : List ℕ → Result (List (List ℕ)) StoreError
records_of bytes =
    if nat_lt (length bytes) 289 || not (has_magic bytes)
    then Err NotAStore
    else
    (if nat_lt (base_of bytes) 288 || nat_le (length bytes) (base_of bytes)
    then Err (Damaged (base_slot bytes))
    else records_from (base_of bytes) 0 (drop (base_of bytes) bytes))

-- The bytes are an open and undamaged store with these records, and with this start slot.
pub record Stands (bodies : List (List ℕ)) (text : List ℕ) (bytes : List ℕ) : Type 0 where
  pub records : records_of bytes ≡ Ok bodies
  pub start : text_of bytes ≡ text

-- The bytes are a store with these records, or with this body after them.
abbrev pub StandsEither : List (List ℕ) → List ℕ → List ℕ → List ℕ → Type 0
StandsEither bodies body text bytes = Stands bodies text bytes ⊎ Stands (bodies ++ body ∷ []) text bytes

-- The bytes are a store with these records, and with the one start slot or the other.
abbrev pub StandsWithEither : List (List ℕ) → List ℕ → List ℕ → List ℕ → Type 0
StandsWithEither bodies text other bytes = Stands bodies text bytes ⊎ Stands bodies other bytes

-- the bytes that records take, each with its gate and its length
abbrev pub space : List (List ℕ) → ℕ
space [] = 0
space (body ∷ bodies) = (5 + length body) + space bodies

-- the records; none where there is no store
abbrev pub records_or_none : Result (List (List ℕ)) StoreError → List (List ℕ)
records_or_none (Ok bodies) = bodies
records_or_none (Err e) = []

-- where the store in these bytes ends: one past its closed gate
abbrev pub end_of : List ℕ → ℕ
end_of bytes = (base_of bytes + space (records_or_none (records_of bytes))) + 1
