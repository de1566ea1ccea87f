-- The first 288 bytes of a store: its gate, the magic, the two selectors and the slots that they choose from.
use Rattle.std.specs.Prelude.{ℕ, ◌-◌, Bool, ◌==◌, if◌then◌else◌, List, [], ◌∷◌, ◌++◌, length, take, drop, replicate, slice_index, bytes_eq}
use Rattle.std.specs.Int.{w64, from_be_bytes, to_be_bytes}

-- `RELSTOR1`
abbrev pub magic : List ℕ
magic = 82 ∷ 69 ∷ 76 ∷ 83 ∷ 84 ∷ 79 ∷ 82 ∷ 49 ∷ []

-- n bytes from a place on
abbrev pub part : ℕ → ℕ → List ℕ → List ℕ
part at n bytes = take n (drop at bytes)

-- the store's gate is open, and the magic stands after it
abbrev pub has_magic : List ℕ → Bool
has_magic bytes = bytes_eq (take 9 bytes) (1 ∷ magic)

-- a selector of 1 means the second of two, any other value the first
abbrev pub selected : ℕ → ℕ → ℕ → ℕ
selected selector first second = if selector == 1 then second else first

-- the place of the start slot that counts
abbrev pub start_slot : List ℕ → ℕ
start_slot bytes = selected (slice_index bytes 9) 16 144

-- the place of the other, and the selector that chooses it
abbrev pub other_slot : List ℕ → ℕ
other_slot bytes = selected (slice_index bytes 9) 144 16

abbrev pub other_selector : List ℕ → ℕ
other_selector bytes = selected (slice_index bytes 9) 1 0

-- the start slot that counts: its 128 bytes
abbrev pub text_of : List ℕ → List ℕ
text_of bytes = part (start_slot bytes) 128 bytes

-- the format of a store: 1 where byte 11 is 0, and 2 where it is anything else
abbrev pub format_of : List ℕ → ℕ
format_of bytes = if slice_index bytes 11 == 0 then 1 else 2

-- the place of the base slot that counts
abbrev pub base_slot : List ℕ → ℕ
base_slot bytes = selected (slice_index bytes 10) 272 280

-- the place of the other, and the selector that chooses it
abbrev pub other_base_slot : List ℕ → ℕ
other_base_slot bytes = selected (slice_index bytes 10) 280 272

abbrev pub other_base_selector : List ℕ → ℕ
other_base_selector bytes = selected (slice_index bytes 10) 1 0

-- the place of the first record, as the base slot that counts gives it, greatest byte first
abbrev pub base_of : List ℕ → ℕ
base_of bytes = from_be_bytes w64 (part (base_slot bytes) 8 bytes)

-- a start slot with this text: its length, the text, zeros up to 128 bytes
abbrev pub slot_with : List ℕ → List ℕ
slot_with text = length text ∷ (text ++ replicate (127 - length text) 0)

-- the bytes 9 to 15 of a new store: both selectors 0, format 2, zeros
abbrev pub new_choices : List ℕ
new_choices = 0 ∷ 0 ∷ 2 ∷ 0 ∷ 0 ∷ 0 ∷ 0 ∷ []

-- the bytes 1 to 287 of a new store: these, this text in the first start slot, 288 in the first base slot
abbrev pub new_layout : List ℕ → List ℕ
new_layout text = magic ++ (new_choices ++ (slot_with text ++ (replicate 128 0 ++ (to_be_bytes w64 288 ++ replicate 8 0))))
