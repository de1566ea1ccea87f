-- What a report shows of the start and the records of a store.
use Rattle.std.specs.Prelude.{◌≡◌, ℕ, Bool, if◌then◌else◌, List, [], ◌∷◌, ◌++◌, take, Option, None, Some, Result, Ok, Err}
use Rattle.std.specs.Option.{option_map}
use Rattle.rel_store.specs.Layout.{base_of, text_of}
use Rattle.rel_store.specs.declared.error.StoreError.{StoreError}
use Rattle.start_record.specs.Text.{Versions, versions_of, SpellsStart, SpellsNoStart}
use Rattle.start_record.specs.declared.start.Start.{Start}
use Rattle.store_report.specs.Lines.{records_text, start_line}

-- the versions of a start, if there is one
abbrev pub start_of : Option Start → Option Versions
start_of start = option_map versions_of start

-- A start slot spells this start, or none.
abbrev pub Starts : List ℕ → Option Versions → Type 0
Starts slot None = SpellsNoStart slot
Starts slot (Some v) = SpellsStart slot v

-- the records, where each is to be shown
abbrev pub each_text : Bool → ℕ → List (List ℕ) → List ℕ
each_text each base bodies = if each then records_text 1 base bodies else []

-- After the old text stand the start of a store with these bytes and these records, and each record, where it is to be shown.
abbrev pub ShowsContents : Bool → List ℕ → List (List ℕ) → List ℕ → List ℕ → Type 0
ShowsContents each bytes bodies old new = (start : Option Versions) × Starts (text_of bytes) start × (new ≡ old ++ start_line start ++ each_text each (base_of bytes) bodies)

-- What stands before a damaged place, as a store of its own: a closed gate follows.
abbrev pub before_damage : ℕ → List ℕ → List ℕ
before_damage at bytes = take at bytes ++ 0 ∷ []

-- After the old text a report shows the contents of bytes that hold these records. Where the bytes hold none, nothing is shown.
abbrev pub ShowsHeld : Bool → List ℕ → Result (List (List ℕ)) StoreError → List ℕ → List ℕ → Type 0
ShowsHeld each bytes (Ok bodies) old new = ShowsContents each bytes bodies old new
ShowsHeld each bytes (Err e) old new = new ≡ old
