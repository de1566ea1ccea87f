-- What a crash leaves of a replacement, moment by moment.
use Rattle.std.proofs.Common.{◌≡◌, ◌⊎◌, ℕ, zero, suc, true, false, List, [], ◌∷◌, Option, Some, refl, ap, subst, inl, inr, ⊎_elim, eqb, arith}
use Rattle.std.proofs.lemmas.Bool.Decides.{nat_tests}
use Rattle.std.specs.Str.{bytes_eq}
use Rattle.file_replacement.specs.Calls.{replacement}
use Rattle.file_replacement.specs.Folder.{Folder, Target, after_all, LeavesOne}
use Rattle.file_replacement.specs.Folder.Target.{old_file, new_file}
use Rattle.file_replacement.specs.Laws.{part_of, LeavesOldOrNew, LeavesNew}

bytes_eq_self : (xs : List ℕ) → bytes_eq xs xs ≡ true
bytes_eq_self [] = refl
bytes_eq_self (x ∷ xs) = let same : eqb x x ≡ true = grind (arith, nat_tests) in rw (same, bytes_eq_self xs) refl

-- What is left where the path leads to the old file alone,
old_alone : (d : Folder) (old left : Option (List ℕ)) (text : List ℕ) (ts : List Target) → ts ≡ old_file ∷ [] → LeavesOne d old ts left → (left ≡ old) ⊎ (left ≡ Some text)
old_alone d old left text ts is may = ⊎_elim (λ same. inl same) (λ never. absurd never) (subst (λ (us : List Target). LeavesOne d old us left) is may)

-- to the new file, or to the old one.
new_or_old : (d : Folder) (old left : Option (List ℕ)) (ts : List Target) → d.is_synced ≡ true → ts ≡ new_file ∷ old_file ∷ [] → LeavesOne d old ts left → (left ≡ old) ⊎ (left ≡ Some d.bytes)
new_or_old d old left ts synced is may =
    ⊎_elim (λ whole. inr (whole synced)) (λ rest. ⊎_elim (λ same. inl same) (λ never. absurd never) rest) (subst (λ (us : List Target). LeavesOne d old us left) is may)

new_alone : (d : Folder) (old left : Option (List ℕ)) (ts : List Target) → d.is_synced ≡ true → ts ≡ new_file ∷ [] → LeavesOne d old ts left → left ≡ Some d.bytes
new_alone d old left ts synced is may =
    ⊎_elim (λ whole. whole synced) (λ never. absurd never) (subst (λ (us : List Target). LeavesOne d old us left) is may)

pub leaves_old_or_new : LeavesOldOrNew
leaves_old_or_new d path new text old left zero true other settled may =
    old_alone (after_all (part_of path new text 0 true) d) old left text _ (rw other settled.only) may
leaves_old_or_new d path new text old left zero false other settled may =
    old_alone (after_all (part_of path new text 0 false) d) old left text _ (settled.only) may
leaves_old_or_new d path new text old left (suc zero) true other settled may =
    old_alone (after_all (part_of path new text 1 true) d) old left text _ (rw other settled.only) may
leaves_old_or_new d path new text old left (suc zero) false other settled may =
    old_alone (after_all (part_of path new text 1 false) d) old left text _ (rw other settled.only) may
leaves_old_or_new d path new text old left (suc (suc zero)) true other settled may =
    old_alone (after_all (part_of path new text 2 true) d) old left text _ (rw other settled.only) may
leaves_old_or_new d path new text old left (suc (suc zero)) false other settled may =
    old_alone (after_all (part_of path new text 2 false) d) old left text _ (rw other settled.only) may
leaves_old_or_new d path new text old left (suc (suc (suc zero))) true other settled may =
    old_alone (after_all (part_of path new text 3 true) d) old left text _ (rw other settled.only) may
leaves_old_or_new d path new text old left (suc (suc (suc zero))) false other settled may =
    old_alone (after_all (part_of path new text 3 false) d) old left text _ (rw other settled.only) may
leaves_old_or_new d path new text old left (suc (suc (suc (suc zero)))) true other settled may =
    new_or_old (after_all (part_of path new text 4 true) d) old left _ refl (rw (other, bytes_eq_self path, bytes_eq_self new) (ap (λ ts. new_file ∷ ts) settled.only)) may
leaves_old_or_new d path new text old left (suc (suc (suc (suc zero)))) false other settled may =
    new_or_old (after_all (part_of path new text 4 false) d) old left _ refl (rw (other, bytes_eq_self path, bytes_eq_self new) (ap (λ ts. new_file ∷ ts) settled.only)) may
leaves_old_or_new d path new text old left (suc (suc (suc (suc (suc zero))))) true other settled may =
    inr (new_alone (after_all (part_of path new text 5 true) d) old left ((after_all (part_of path new text 5 true) d).may_lead path) refl (rw (other, bytes_eq_self path, bytes_eq_self new) refl) may)
leaves_old_or_new d path new text old left (suc (suc (suc (suc (suc zero))))) false other settled may =
    inr (new_alone (after_all (part_of path new text 5 false) d) old left ((after_all (part_of path new text 5 false) d).may_lead path) refl (rw (other, bytes_eq_self path, bytes_eq_self new) refl) may)
leaves_old_or_new d path new text old left (suc (suc (suc (suc (suc (suc n)))))) true other settled may =
    inr (new_alone (after_all (part_of path new text (suc (suc (suc (suc (suc (suc n)))))) true) d) old left ((after_all (part_of path new text (suc (suc (suc (suc (suc (suc n)))))) true) d).may_lead path) refl (rw (other, bytes_eq_self path, bytes_eq_self new) refl) may)
leaves_old_or_new d path new text old left (suc (suc (suc (suc (suc (suc n)))))) false other settled may =
    inr (new_alone (after_all (part_of path new text (suc (suc (suc (suc (suc (suc n)))))) false) d) old left ((after_all (part_of path new text (suc (suc (suc (suc (suc (suc n)))))) false) d).may_lead path) refl (rw (other, bytes_eq_self path, bytes_eq_self new) refl) may)

pub leaves_new : LeavesNew
leaves_new d path new text old left other may =
    new_alone (after_all (replacement path new text) d) old left ((after_all (replacement path new text) d).may_lead path) refl (rw (other, bytes_eq_self path, bytes_eq_self new) refl) may
