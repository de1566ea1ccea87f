-- What a disk stands for, how far its store reaches, and what fits after it.
use Rattle.std.specs.Prelude.{◌≡◌, ◌⊎◌, ℕ, ◌+◌, ◌≤◌, Bool, true, List, length, Some, Ok, if◌then◌else◌}
use Rattle.node_command.specs.Taking.{change_size}
use Rattle.rel_files.specs.Release.{Release}
use Rattle.rel_list.specs.Releases.{Releases, has_one_shot, permanent}
use Rattle.rel_list.specs.Event.{Event, booted, recorded, step}
use Rattle.rel_list.specs.Event.Event.{boot}
use Rattle.rel_store.specs.Layout.{base_of, format_of, has_magic, text_of}
use Rattle.rel_store.specs.Records.{end_of, records_of, records_or_none}
use Rattle.rel_records.specs.Lists.{Makes}
use Rattle.node_store.specs.Start.{start_of_release}
use Rattle.start_record.specs.Text.{SpellsStart}

-- How far a store reaches: where its first record stands, where it ends, one past its closed gate, and how many records it has.
pub record Extent : Type 0 where
  pub base : ℕ
  pub end : ℕ
  pub count : ℕ

-- how far the store of these bytes reaches
abbrev pub extent_of : List ℕ → Extent
extent_of image =
    record { base = base_of image; end = end_of image; count = length (records_or_none (records_of image)) }

-- how far a store reaches after one record more, whose body has so many bytes
abbrev pub extent_after : Extent → ℕ → Extent
extent_after x size = record { base = x.base; end = x.end + (5 + size); count = x.count + 1 }

-- how far a store without records reaches
abbrev pub first_extent : Extent
first_extent = record { base = 288; end = 289; count = 0 }

-- a record with a body of so many bytes fits into a store that reaches so far
abbrev pub HasSpace : Extent → ℕ → Type 0
HasSpace x size = (size ≤ 16777216) × ((extent_after x size).end ≤ 67108864)

-- how many bytes the body of the record has by which a boot takes the one-shot of this list away
abbrev pub boot_size : Releases → ℕ
boot_size es = change_size boot es

-- how far a store that has the records of this list reaches after a boot
abbrev pub booted_extent : Extent → Releases → Extent
booted_extent x es = if has_one_shot es then extent_after x (boot_size es) else x

-- Where the list has a one-shot, there is room for the record of the boot that takes it away.
abbrev pub HasBootSpace : Extent → Releases → Type 0
HasBootSpace x es = has_one_shot es ≡ true → HasSpace x (boot_size es)

-- After the event's record, whose body has so many bytes, there is room for the next boot.
abbrev pub LeavesBootSpace : Event → ℕ → Extent → Releases → Type 0
LeavesBootSpace e size x es =
    (next : Releases) → step e es ≡ Some next → HasBootSpace (extent_after x size) next

-- The bodies are the records of a list in a store of this format: they make the list as records report it. Where a release is a
-- one-shot, none is current.
pub record AreRecordsOf (format : ℕ) (bodies : List (List ℕ)) (es : Releases) : Type 0 where
  pub makes : Makes format bodies (recorded es)
  pub alone : has_one_shot es ≡ true → recorded es ≡ es

-- The bytes stand for the list: they are a whole store with the records of the list, and with room for the record of the next
-- boot.
pub record IsImageOf (image : List ℕ) (es : Releases) : Type 0 where
  pub bodies : List (List ℕ)
  pub store : records_of image ≡ Ok bodies
  pub list : AreRecordsOf (format_of image) bodies es
  pub room : HasBootSpace (extent_of image) es

-- The bytes stand for the list, in a store that reaches as far as `extent` says.
pub record IsImageWithExtent (image : List ℕ) (es : Releases) (extent : Extent) : Type 0 where
  pub image_of : IsImageOf image es
  pub reaches : extent_of image ≡ extent

-- the bytes of the start slot that counts in these bytes
abbrev pub start_bytes : List ℕ → List ℕ
start_bytes image = text_of image

-- The start record in these bytes is that of the list's permanent release.
pub record IsStarted (es : Releases) (image : List ℕ) : Type 0 where
  pub release : Release
  pub listed : permanent es ≡ Some release
  pub spells : SpellsStart (start_bytes image) (start_of_release release)

-- A boot of these bytes has written so much: nothing; or the record that takes a one-shot away, if there was one, and the start
-- record or not.
pub record IsLeftByBoot (bytes image : List ℕ) : Type 0 where
  pub list : Releases
  pub was : IsImageOf bytes list
  pub left : (IsImageWithExtent image list (extent_of bytes) × (start_bytes image ≡ start_bytes bytes))
      ⊎ (IsImageWithExtent image (booted list) (booted_extent (extent_of bytes) list)
      × ((start_bytes image ≡ start_bytes bytes) ⊎ IsStarted list image))

-- The bytes begin as those of a store do, whole or damaged. No node is made on such a disk.
abbrev pub holds_a_store : List ℕ → Bool
holds_a_store bytes = has_magic bytes
