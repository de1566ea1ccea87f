-- What a compaction writes, and what a crash may leave of it.
use Rattle.std.specs.Prelude.{◌≡◌, ◌⊎◌, ℕ, ◌+◌, ◌≤◌, Bool, ◌==◌, nat_le, if◌then◌else◌, List, [], ◌∷◌, ◌++◌, length, take}
use Rattle.std.specs.Int.{w64, to_be_bytes}
use Rattle.rel_disk.specs.Damage.{overwritten, Cut}
use Rattle.rel_store.specs.Layout.{other_base_slot, other_base_selector}
use Rattle.rel_store.specs.Moments.{IsTornFrom, IsTornInSteps}
use Rattle.rel_store.specs.Records.{record_bytes, Stands, end_of}

-- where an image with a body of n bytes stands: at 288 if it ends below the base, its closed gate included, else where
-- the store ends
abbrev pub image_place : ℕ → ℕ → ℕ → ℕ
image_place base end n = if nat_le (288 + (6 + n)) base then 288 else end

-- where a store with the image alone ends: one past its closed gate
abbrev pub image_end : ℕ → ℕ → ℕ → ℕ
image_end base end n = image_place base end n + (6 + n)

-- the body is short enough, and the store wouldn't end past its bound with the image alone
abbrev pub FitsImage : ℕ → ℕ → ℕ → Type 0
FitsImage base end n = (n ≤ 16777216) × (image_end base end n ≤ 67108864)

-- The bytes are a store with these records, or with the image alone.
abbrev pub StandsOrImage : List (List ℕ) → List ℕ → List ℕ → List ℕ → Type 0
StandsOrImage bodies image text bytes = Stands bodies text bytes ⊎ Stands (image ∷ []) text bytes

-- The bytes are a store with these records, which ends at the first of two places, or with the image alone, which ends at the
-- second.
abbrev pub EndsEither : List (List ℕ) → ℕ → List ℕ → ℕ → List ℕ → List ℕ → Type 0
EndsEither bodies end image ends text bytes = (Stands bodies text bytes × (end_of bytes ≡ end)) ⊎ (Stands (image ∷ []) text bytes × (end_of bytes ≡ ends))

-- an image with its gate open, and a closed gate after it
abbrev pub image_bytes : List ℕ → List ℕ
image_bytes image = 1 ∷ (record_bytes image ++ 0 ∷ [])

-- these bytes with this place in the base slot that didn't count, and now counts
abbrev pub with_base : ℕ → List ℕ → List ℕ
with_base place bytes = overwritten 10 (other_base_selector bytes ∷ []) (overwritten (other_base_slot bytes) (to_be_bytes w64 place) bytes)

-- these bytes, cut after an image of n bytes if it stands at 288
abbrev pub cut_behind : ℕ → ℕ → List ℕ → List ℕ
cut_behind place n bytes = if place == 288 then take (288 + n) bytes else bytes

-- these bytes after a compaction to the image at this place
abbrev pub compacted : ℕ → List ℕ → List ℕ → List ℕ
compacted place image bytes = cut_behind place (length (image_bytes image)) (with_base place (overwritten place (image_bytes image) bytes))

-- the place of the second base slot, or of the first
abbrev pub base_place : Bool → ℕ
base_place second = if second then 280 else 272

-- the selector that chooses it
abbrev pub base_choice : Bool → ℕ
base_choice second = if second then 1 else 0

-- these bytes with this place in a base slot, which now counts
abbrev pub with_base_in : Bool → ℕ → List ℕ → List ℕ
with_base_in second place bytes = overwritten 10 (base_choice second ∷ []) (overwritten (base_place second) (to_be_bytes w64 place) bytes)

-- one of these images, or one of them that is cut to n bytes
abbrev pub IsCutFrom : (List ℕ → Type 0) → ℕ → List ℕ → Type 0
IsCutFrom images n c = images c ⊎ ((d : List ℕ) × images d × Cut n d c)

-- One of these images, with a torn write of a record at a place; or the old bytes with that record, and with the place
-- torn in a base slot, or the selector that chooses it; or these bytes at 288 with the place, and cut after the record.
abbrev pub IsTornInCompaction : (List ℕ → Type 0) → Bool → ℕ → List ℕ → List ℕ → List ℕ → Type 0
IsTornInCompaction images second place bytes old c =
    IsTornFrom images place (length bytes) c
    ⊎ (IsTornInSteps (λ d. d ≡ overwritten place bytes old) (base_place second) (to_be_bytes w64 place) 10 (overwritten place bytes old) c
    ⊎ ((place ≡ 288) × IsCutFrom (λ d. d ≡ with_base_in second place (overwritten place bytes old)) (288 + length bytes) c))
