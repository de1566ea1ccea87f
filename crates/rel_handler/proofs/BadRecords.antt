-- The bytes of a disk stand for one list, or a boot refuses them.
use Rattle.std.proofs.Common.{◌≡◌, ◌⊎◌, inl, inr, ℕ, zero, suc, ◌+◌, Bool, true, false, ◌||◌, not, List, [], ◌∷◌, length, drop, Result, Ok, Err, refl, sym, subst}
use Rattle.std.specs.Prelude.{if◌then◌else◌, nat_lt, nat_le, ◌==◌}
use Rattle.rel_list.specs.Releases.{Releases}
use Rattle.rel_list.specs.Event.{recorded}
use Rattle.rel_records.specs.Lists.{Makes, IsBadRecord}
use Rattle.rel_records.proofs.ListLemmas.{makes_not_bad}
use Rattle.rel_records.proofs.RecordLaws.{make_or_bad}
use Rattle.rel_store.specs.Records.{records_of, records_from, onto, is_whole, spelled_length, spelled_body}
use Rattle.rel_store.specs.Layout.{has_magic, base_of, base_slot, format_of}
use Rattle.rel_store.specs.declared.error.StoreError.{StoreError}
use Rattle.rel_store.specs.declared.error.StoreError.TheVariants as store
use Rattle.rel_handler.specs.declared.error.BootError.{BootError}
use Rattle.rel_handler.specs.declared.error.BootError.TheVariants as boot
use Rattle.node_store.specs.Image.{extent_of, HasBootSpace, IsImageOf}
use Rattle.rel_handler.specs.Laws.{StandsForOneList, RefusesNoImage}
use Rattle.rel_handler.specs.Refusals.{IsBootRefusal}
use Rattle.rel_handler.proofs.BootLists.{boot_alike, boots_or_not, space_recorded}
use Rattle.rel_handler.proofs.Boots.{made_again}
use Rattle.node_store.proofs.Images.{recorded_image}

-- What a store says of the bytes alone: its records, that it is none, or that a record is damaged.
abbrev IsOfBytes : Result (List (List ℕ)) StoreError → Type 0
IsOfBytes (Ok bodies) = Unit {0}
IsOfBytes (Err store.NotAStore) = Unit {0}
IsOfBytes (Err (store.Damaged at)) = Unit {0}
IsOfBytes (Err e) = ⊥

of_bytes_if : (b : Bool) (x y : Result (List (List ℕ)) StoreError) → IsOfBytes x → IsOfBytes y → IsOfBytes (if b then x else y)
of_bytes_if true x y is also = is
of_bytes_if false x y is also = also

of_bytes_onto : (body : List ℕ) (r : Result (List (List ℕ)) StoreError) → IsOfBytes r → IsOfBytes (onto body r)
of_bytes_onto body (Ok bodies) is = tt
of_bytes_onto body (Err e) is = is

of_bytes_from : (place inside : ℕ) (bytes : List ℕ) → IsOfBytes (records_from place inside bytes)
of_bytes_from place inside [] = tt
of_bytes_from place zero (gate ∷ bytes) =
    of_bytes_if (gate == 1) _ _ (of_bytes_if (is_whole bytes) _ _ (of_bytes_onto (spelled_body bytes) _ (of_bytes_from (place + 1) (4 + spelled_length bytes) bytes)) tt) tt
of_bytes_from place (suc inside) (byte ∷ bytes) = of_bytes_from (place + 1) inside bytes

of_bytes : (bytes : List ℕ) → IsOfBytes (records_of bytes)
of_bytes bytes =
    of_bytes_if (nat_lt (length bytes) 289 || not (has_magic bytes)) (Err store.NotAStore) _ tt
    (of_bytes_if (nat_lt (base_of bytes) 288 || nat_le (length bytes) (base_of bytes)) (Err (store.Damaged (base_slot bytes))) _ tt (of_bytes_from (base_of bytes) 0 (drop (base_of bytes) bytes)))

-- Bytes stand for a list, as records report it, or a boot refuses them.
abbrev BootsOrNot : List ℕ → Type 0
BootsOrNot bytes = ((es : Releases) × IsImageOf bytes es × (recorded es ≡ es)) ⊎ ((why : BootError) × IsBootRefusal bytes why)

pub image_or_refused : (bytes : List ℕ) → BootsOrNot bytes
image_or_refused bytes = by_records (records_of bytes) refl (of_bytes bytes)
  where
    by_list : (bodies : List (List ℕ)) → records_of bytes ≡ Ok bodies → ((es : Releases) × Makes (format_of bytes) bodies es × (recorded es ≡ es)) ⊎ ((i : ℕ) × IsBadRecord (format_of bytes) bodies i) → BootsOrNot bytes
    by_list bodies read (inl (es, is, still)) = elim (boots_or_not (extent_of bytes) es) [
      | inl room ↦ inl (es, record { bodies = bodies; store = read; list = made_again (format_of bytes) bodies es is; room = room }, still)
      | inr over_it ↦ inr (boot.BadRecord (length bodies), (bodies, read, inr (es, is, over_it, refl)))
    ]
    by_list bodies read (inr (i, is_bad)) = inr (boot.BadRecord i, (bodies, read, inl is_bad))

    by_records : (r : Result (List (List ℕ)) StoreError) → records_of bytes ≡ r → IsOfBytes r → BootsOrNot bytes
    by_records (Ok bodies) read is = by_list bodies read (make_or_bad (format_of bytes) bodies)
    by_records (Err store.NotAStore) read is = inr (boot.NotAStore, read)
    by_records (Err (store.Damaged at)) read is = inr (boot.Damaged at, read)
    by_records (Err e) read is = absurd is

-- The bytes of a disk stand for one list at most.
pub stands_for_one : StandsForOneList
stands_for_one bytes es fs image other = boot_alike es fs image.list.alone other.list.alone (recorded_image bytes image.bodies (recorded es) fs image.store image.list.makes other)

-- A boot refuses no bytes that stand for a list.
pub no_image_refused : RefusesNoImage
no_image_refused bytes es boot.NotAStore image refused = cc (refused, image.store)
no_image_refused bytes es (boot.Damaged at) image refused = cc (refused, image.store)
no_image_refused bytes es (boot.BadRecord i) image (bodies, read, inl is_bad) =
    let same : image.bodies ≡ bodies = cc (read, image.store) in
    makes_not_bad (format_of bytes) bodies (recorded es) i (subst (λ bs. Makes (format_of bytes) bs (recorded es)) same image.list.makes) is_bad
no_image_refused bytes es (boot.BadRecord i) image (bodies, read, inr (fs, makes, over_it, is)) =
    let same : fs ≡ recorded es = recorded_image bytes bodies fs es read makes image in
    over_it (subst (HasBootSpace (extent_of bytes)) (sym same) (space_recorded (extent_of bytes) es image.list.alone image.room))
no_image_refused bytes es boot.Device image refused = refused
no_image_refused bytes es boot.NoMemory image refused = refused
