-- How far a store reaches after a commit: one of many records is compacted to one, the image of its list.
use Rattle.std.specs.Prelude.{◌≡◌, ◌⊎◌, ℕ, Bool, true, not, ◌&&◌, nat_le, if◌then◌else◌, List, length, Option, None, Some}
use Rattle.rel_list.specs.Releases.{Releases, has_one_shot}
use Rattle.rel_list.specs.Event.{recorded}
use Rattle.rel_records.specs.Image.{image_of}
use Rattle.rel_store.specs.Compaction.{image_end, image_place}
use Rattle.node_store.specs.Image.{Extent}

-- whether a store has so many records that it is compacted
abbrev pub is_long : Extent → Bool
is_long x = nat_le 64 x.count

-- whether an image with a body of so many bytes fits into a store that reaches so far
abbrev pub fits_image : Extent → ℕ → Bool
fits_image x n = nat_le n 16777216 && nat_le (image_end x.base x.end n) 67108864

-- how far a store reaches after a compaction to an image with a body of so many bytes
abbrev pub extent_with : Extent → ℕ → Extent
extent_with x n = record { base = image_place x.base x.end n; end = image_end x.base x.end n; count = 1 }

-- how far a store reaches after a compaction to the image with this body, where there is one that fits
abbrev pub with_image : Extent → Option (List ℕ) → Extent
with_image x None = x
with_image x (Some body) = if fits_image x (length body) then extent_with x (length body) else x

-- Whether a store is compacted after a commit: it has many records, and its list has no one-shot. Where there is a one-shot, a
-- boot has to come first, for whose record there is room as the store is.
abbrev pub may_be_compacted : Extent → Releases → Bool
may_be_compacted x es = not (has_one_shot es) && is_long x

-- how far a store reaches after a commit: it reached so far with the commit's record, and its records make this list
abbrev pub compacted_extent : Extent → Releases → Extent
compacted_extent x es = if may_be_compacted x es then with_image x (image_of (recorded es)) else x

-- How far a store may reach after a command: as far as a compaction leaves it, or, where memory was refused to the compaction
-- of a long store, as far as before.
abbrev pub MayReach : Extent → Releases → Extent → Type 0
MayReach x es y = (y ≡ compacted_extent x es) ⊎ ((is_long x ≡ true) × (y ≡ x))
