-- The lines of a report.
use Rattle.std.specs.Prelude.{ℕ, ◌+◌, ◌-◌, ◌/◌, ◌%◌, Bool, ◌&&◌, not, ◌==◌, nat_le, nat_lt, if◌then◌else◌, List, [], ◌∷◌, ◌++◌, length, codes, decimal, Option, None, Some, slice_index}
use Rattle.std.specs.List.{flat_map}
use Rattle.rel_list.specs.Releases.{Entry, Releases}
use Rattle.rel_list.specs.Status.{status_word}
use Rattle.rel_store.specs.Layout.{base_of, base_slot, format_of, start_slot}
use Rattle.start_record.specs.Text.{Versions}

-- a name, a blank and a number
abbrev pub number_line : List ℕ → ℕ → List ℕ
number_line name n = name ++ (codes " " ++ (decimal n ++ codes "\n"))

-- the format, both selectors, the slots that they choose, and the base
abbrev pub layout_text : List ℕ → List ℕ
layout_text bytes =
    number_line (codes "format") (format_of bytes)
    ++ number_line (codes "start selector") (slice_index bytes 9)
    ++ number_line (codes "start slot") (start_slot bytes)
    ++ number_line (codes "base selector") (slice_index bytes 10)
    ++ number_line (codes "base slot") (base_slot bytes)
    ++ number_line (codes "base") (base_of bytes)

-- the digit of a number below 16
abbrev pub hex_digit : ℕ → ℕ
hex_digit n = if nat_lt n 10 then 48 + n else 87 + n

-- a character of ASCII that is printed, and no backslash
abbrev pub is_plain : ℕ → Bool
is_plain b = nat_le 32 b && nat_lt b 127 && not (b == 92)

-- a byte of a body: as it is, or as `\xHH`
abbrev pub shown_byte : ℕ → List ℕ
shown_byte b = if is_plain b then b ∷ [] else 92 ∷ 120 ∷ hex_digit (b / 16) ∷ hex_digit (b % 16) ∷ []

-- what stands before the body of a record: its number, the place of its open gate, and the length of the body
abbrev pub record_head : ℕ → ℕ → ℕ → List ℕ
record_head n at size =
    codes "record " ++ (decimal n ++ (codes "\nopen gate " ++ (decimal at ++ (codes "\nlength " ++ (decimal size ++ codes "\nbody ")))))

abbrev pub record_text : ℕ → ℕ → List ℕ → List ℕ
record_text n at body = record_head n at (length body) ++ flat_map shown_byte body ++ codes "\n"

-- records from this number and this place on
abbrev pub records_text : ℕ → ℕ → List (List ℕ) → List ℕ
records_text n at [] = []
records_text n at (body ∷ bodies) = record_text n at body ++ records_text (n + 1) (at + (5 + length body)) bodies

-- the versions of the runtime system and of the release
abbrev pub versions_line : Versions → List ℕ
versions_line v = codes "start " ++ (v.erts ++ (codes " " ++ (v.vsn ++ codes "\n")))

-- the start, or that there is none
abbrev pub start_line : Option Versions → List ℕ
start_line None = codes "no start\n"
start_line (Some v) = versions_line v

-- a release: its version and its status
abbrev pub release_line : Entry → List ℕ
release_line e = codes "release " ++ (e.release.vsn ++ (codes " " ++ (status_word e.status ++ codes "\n")))

-- a line for each release, in order of coming
abbrev pub releases_text : Releases → List ℕ
releases_text es = flat_map release_line es

-- how many bytes a store uses that ends there, and how many are left
abbrev pub room_text : ℕ → List ℕ
room_text end = number_line (codes "used") end ++ number_line (codes "left") (67108864 - end)

-- why bytes are no store
abbrev pub no_store_text : List ℕ → List ℕ
no_store_text bytes = if nat_lt (length bytes) 289 then codes "no store: fewer than 289 bytes\n" else codes "no store: no open gate and RELSTOR1 at the start\n"

-- what is wrong at a damaged place: in the layout it is that of the base
abbrev pub damage_words : ℕ → List ℕ
damage_words at = if nat_lt at 288 then codes "the base is outside of the store\n" else codes "an open gate before no whole record\n"

-- where a store is damaged, and what is wrong there
abbrev pub damage_text : ℕ → List ℕ
damage_text at = number_line (codes "damaged at") at ++ damage_words at
