-- What a pick leaves is an image of the disk, by places.
use Rattle.std.proofs.Common.{◌≡◌, ◌⊎◌, ⊎_elim, inl, inr, ◌<◌, ◌≤◌, ◌+◌, ◌-◌, ℕ, Bool, true, false, ◌&&◌, ◌||◌, nat_le, nat_lt, List, [], ◌∷◌, length, slice_index, if◌then◌else◌, arith, refl, subst, sym, ap, ◌∙◌, length-take}
use Rattle.std.proofs.lemmas.Bool.Decides.{nat_tests}
use Rattle.std.proofs.lemmas.List.{ext_get_or, get_or-take, take_all}
use Rattle.rel_disk.specs.Calls.{Call, wrote, cut_to, synced, content}
use Rattle.rel_disk.specs.Images.{Image}
use Rattle.rel_disk.specs.ImageLaws.{content_is_image}
use Rattle.rel_disk.specs.Picks.{is_written, IsFilled, IsFilledBy, IsLeft}
use Rattle.rel_disk.specs.Places.{IsWritten, Survives, smallest_length}
use Rattle.rel_disk.specs.declared.pick.Pick.{Pick}
use Rattle.rel_disk.specs.declared.pick.Pick.TheVariants.{Kept, Filled, Short}
use Rattle.rel_disk.proofs.ImagePlaces.{image_survives, survives_image, rest_unwritten, rest_length}

-- ---- the test of what was written
in_range : (place at n : ℕ) → (nat_le at place && nat_lt (place - at) n) ≡ true → (at ≤ place) × (place < at + n)
in_range place at n is = (grind (arith, nat_tests), grind (arith, nat_tests))

range_has : (place at n : ℕ) → at ≤ place → place < at + n → (nat_le at place && nat_lt (place - at) n) ≡ true
range_has place at n from to = grind (arith, nat_tests)

either : (a b : Bool) → (a || b) ≡ true → (a ≡ true) ⊎ (b ≡ true)
either true b is = inl refl
either false b is = inr is

or_first : (a b : Bool) → a ≡ true → (a || b) ≡ true
or_first true b is = refl
or_first false b is = absurd cc

or_second : (a b : Bool) → b ≡ true → (a || b) ≡ true
or_second true b is = refl
or_second false b is = is

written_is : (calls : List Call) (i : ℕ) → IsWritten calls i → is_written i calls ≡ true
written_is [] i is = absurd is
written_is (wrote at bytes ∷ older) i (inl here) = or_first (nat_le at i && nat_lt (i - at) (length bytes)) (is_written i older) (range_has i at (length bytes) here.0 here.1)
written_is (wrote at bytes ∷ older) i (inr before) = or_second (nat_le at i && nat_lt (i - at) (length bytes)) (is_written i older) (written_is older i before)
written_is (cut_to len ∷ older) i is = written_is older i is
written_is (synced ∷ older) i is = absurd is

is_written_so : (calls : List Call) (i : ℕ) → is_written i calls ≡ true → IsWritten calls i
is_written_so [] i is = absurd cc
is_written_so (wrote at bytes ∷ older) i is =
    ⊎_elim (λ here. inl (in_range i at (length bytes) here)) (λ before. inr (is_written_so older i before))
    (either (nat_le at i && nat_lt (i - at) (length bytes)) (is_written i older) is)
is_written_so (cut_to len ∷ older) i is = is_written_so older i is
is_written_so (synced ∷ older) i is = absurd cc

pub filled_by : (b : ℕ) (calls : List Call) (old new : List ℕ) → IsFilled b calls old new → IsFilledBy b calls old new
filled_by b calls old new f = record {
  long = f.long;
  written = λ i within w. f.each i within ∙ ap (λ (t : Bool). if t then b else slice_index old i) (written_is calls i w);
  others = λ i within not_written. f.each i within ∙ ap (λ (t : Bool). if t then b else slice_index old i) (unwritten i not_written (is_written i calls) refl);
}
  where
    unwritten : (i : ℕ) → (IsWritten calls i → ⊥) → (t : Bool) → is_written i calls ≡ t → t ≡ false
    unwritten i not_written true is = absurd (not_written (is_written_so calls i is))
    unwritten i not_written false is = refl

-- ---- what is left survives
survives : (pick : Pick) (first : List ℕ) (calls : List Call) (image : List ℕ) → Survives first calls (content first calls) → IsLeft pick first calls image → Survives first calls image
survives Kept first calls image all is = subst (Survives first calls) (sym is) all
survives (Filled b) first calls image all is = record {
  long = subst (λ n. smallest_length first calls ≤ n) (sym is.long) all.long;
  kept = λ i below not_written. is.others i (let long = all.long in omega arith) not_written ∙ all.kept i below not_written;
  at_rest = λ rest. ext_get_or 0 image (content first calls) is.long (λ i within. is.others i (let long = is.long in omega arith) (λ w. rest_unwritten first calls i rest w));
}
survives Short first calls image all is = subst (Survives first calls) (sym is) (record {
  long = subst (λ n. smallest_length first calls ≤ n) (sym (length-take (smallest_length first calls) (content first calls))) (let long = all.long in omega arith);
  kept = λ i below not_written. get_or-take (smallest_length first calls) (content first calls) i 0 below ∙ all.kept i below not_written;
  at_rest = λ rest. take_all (smallest_length first calls) (content first calls) (let same = rest_length first calls rest in omega arith);
})

pub left_is_image : (pick : Pick) (first : List ℕ) (calls : List Call) (image : List ℕ) → IsLeft pick first calls image → Image first calls image
left_is_image pick first calls image is = survives_image first calls image (survives pick first calls image (image_survives first calls (content first calls) (content_is_image first calls)) is)
