-- Lists before and after a boot, and the room that it needs.
use Rattle.std.proofs.Common.{◌≡◌, ◌⊎◌, inl, inr, ℕ, ◌+◌, ◌≤◌, ◌<◌, Bool, true, false, sym, ap, ◌∙◌, subst, true≢false, arith}
use Rattle.std.specs.Prelude.{if◌then◌else◌}
use Rattle.std.proofs.lemmas.Bool.{cases_Bool, cases_lt}
use Rattle.rel_list.specs.Releases.{Releases, has_one_shot}
use Rattle.rel_list.specs.Event.{booted, recorded}
use Rattle.rel_list.proofs.OneShotLaws.{boots_as_recorded, none_recorded}
use Rattle.rel_records.proofs.EventRecords.{recorded-twice}
use Rattle.node_store.specs.Image.{Extent, boot_size, booted_extent, extent_after, HasBootSpace, HasSpace}
use Rattle.rel_handler.specs.Laws.{BootAlike}

-- A record fits or it does not.
pub fits_or_not : (x : Extent) (size : ℕ) → HasSpace x size ⊎ (HasSpace x size → ⊥)
fits_or_not x size = by_size (cases_lt 16777216 size)
  where
    by_end : size ≤ 16777216 → (67108864 < x.end + (5 + size)) ⊎ (x.end + (5 + size) ≤ 67108864) → HasSpace x size ⊎ (HasSpace x size → ⊥)
    by_end short (inl past) = inr (λ fits. let stop : x.end + (5 + size) ≤ 67108864 = fits.1 in omega arith)
    by_end short (inr within) = inl (short, within)

    by_size : (16777216 < size) ⊎ (size ≤ 16777216) → HasSpace x size ⊎ (HasSpace x size → ⊥)
    by_size (inl long) = inr (λ fits. let short : size ≤ 16777216 = fits.0 in omega arith)
    by_size (inr short) = by_end short (cases_lt 67108864 (x.end + (5 + size)))

-- There is room for the record of the next boot, or there is not.
pub boots_or_not : (x : Extent) (es : Releases) → HasBootSpace x es ⊎ (HasBootSpace x es → ⊥)
boots_or_not x es = elim (cases_Bool (has_one_shot es)) [
  | inl one ↦ elim (fits_or_not x (boot_size es)) [ inl fits ↦ inl (λ one. fits) | inr over_it ↦ inr (λ space. over_it (space one)) ]
  | inr none ↦ inl (λ one. absurd (true≢false (sym one ∙ none)))
]

-- Where there is no one-shot, a boot writes nothing.
pub extent_of_none : (x : Extent) (es : Releases) → has_one_shot es ≡ false → booted_extent x es ≡ x
extent_of_none x es none = ap (λ (b : Bool). if b then extent_after x (boot_size es) else x) none

-- Where there is a one-shot, a boot writes a record.
pub extent_of_one : (x : Extent) (es : Releases) → has_one_shot es ≡ true → booted_extent x es ≡ extent_after x (boot_size es)
extent_of_one x es one = ap (λ (b : Bool). if b then extent_after x (boot_size es) else x) one

-- Where no release is current beside a one-shot, a boot makes of a list what it makes of it as records report it.
module _ (es : Releases) (alone : has_one_shot es ≡ true → recorded es ≡ es) where
  pub booted_recorded : booted (recorded es) ≡ booted es
  booted_recorded = elim (cases_Bool (has_one_shot es)) [
    | inl one ↦ ap booted (alone one)
    | inr none ↦ boots_as_recorded (recorded es) (none_recorded es none) ∙ recorded-twice es ∙ sym (boots_as_recorded es none)
  ]

  -- in a store that reaches as far
  pub extent_recorded : (x : Extent) → booted_extent x (recorded es) ≡ booted_extent x es
  extent_recorded x = elim (cases_Bool (has_one_shot es)) [
    | inl one ↦ ap (booted_extent x) (alone one)
    | inr none ↦ extent_of_none x (recorded es) (none_recorded es none) ∙ sym (extent_of_none x es none)
  ]

-- Where there is room for the boot of a list, there is room for that of the list as records report it.
pub space_recorded : (x : Extent) (es : Releases) → (has_one_shot es ≡ true → recorded es ≡ es) → HasBootSpace x es → HasBootSpace x (recorded es)
space_recorded x es alone space one = elim (cases_Bool (has_one_shot es)) [
  | inl there ↦ subst (λ l. HasSpace x (boot_size l)) (sym (alone there)) (space there)
  | inr none ↦ absurd (true≢false (sym one ∙ none_recorded es none))
]

-- Records report two lists alike. Where there is room for the boot of the one, as it is reported, there is room for the boot
-- of the other, unless a release is current there beside a one-shot.
pub space_of_recorded : (x : Extent) (es fs : Releases) → (has_one_shot fs ≡ true → recorded fs ≡ fs) → recorded es ≡ recorded fs → HasBootSpace x (recorded es) → HasBootSpace x fs
space_of_recorded x es fs alone same space one = subst (λ l. HasSpace x (boot_size l)) (same ∙ alone one) (space (ap has_one_shot (same ∙ alone one) ∙ one))

-- A list without a one-shot, as records report it, is the same after a boot.
pub booted_still : (es : Releases) → has_one_shot es ≡ false → recorded es ≡ es → booted es ≡ es
booted_still es none still = boots_as_recorded es none ∙ still

-- Two lists that records report alike differ in nothing that a boot finds.
pub boot_alike : (es fs : Releases) → (has_one_shot es ≡ true → recorded es ≡ es) → (has_one_shot fs ≡ true → recorded fs ≡ fs) → recorded es ≡ recorded fs → BootAlike es fs
boot_alike es fs alone alone_too same = record {
  recorded = same;
  booted = sym (booted_recorded es alone) ∙ ap booted same ∙ booted_recorded fs alone_too;
  extents = λ x. sym (extent_recorded es alone x) ∙ ap (booted_extent x) same ∙ extent_recorded fs alone_too x;
}
