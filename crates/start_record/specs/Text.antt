-- What a start record says, and the text that spells it.
use Rattle.std.specs.Prelude.{◌≡◌, ◌⊎◌, ℕ, ◌<◌, List, [], ◌∷◌, ◌++◌, length, string_bytes}
use Rattle.rel_files.specs.Name.{IsVersion}
use Rattle.rel_store.specs.Layout.{text_of}
use Rattle.start_record.specs.declared.start.Start.{Start}

-- what a node starts: this version of the runtime system, and this version of its release
pub record Versions : Type 0 where
  pub erts : List ℕ
  pub vsn : List ℕ

abbrev pub versions_of : Start → Versions
versions_of start = record { erts = string_bytes start.erts; vsn = string_bytes start.vsn }

-- Both versions are texts of 1 to 62 bytes from 0x21 to 0x7E.
abbrev pub AreVersions : Versions → Type 0
AreVersions v = IsVersion v.erts × IsVersion v.vsn

-- One of the versions is longer than a version may be.
abbrev pub AreTooLong : Versions → Type 0
AreTooLong v = (62 < length v.erts) ⊎ (62 < length v.vsn)

-- the text of a start: its two versions parted by a space, and a new line
abbrev pub start_text : Versions → List ℕ
start_text v = v.erts ++ 32 ∷ (v.vsn ++ 10 ∷ [])

-- The bytes of a start slot spell these versions: their text stands after its length. What follows isn't looked at.
pub record SpellsStart (slot : List ℕ) (v : Versions) : Type 0 where
  pub versions : AreVersions v
  pub rest : List ℕ
  pub is : slot ≡ length (start_text v) ∷ (start_text v ++ rest)

-- The bytes of a slot spell no start.
abbrev pub SpellsNoStart : List ℕ → Type 0
SpellsNoStart slot = (v : Versions) → SpellsStart slot v → ⊥

-- The start slot that counts in these bytes spells the one start or the other.
abbrev pub SpellsEither : Versions → Versions → List ℕ → Type 0
SpellsEither v w bytes = SpellsStart (text_of bytes) v ⊎ SpellsStart (text_of bytes) w
