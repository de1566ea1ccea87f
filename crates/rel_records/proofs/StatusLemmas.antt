-- What is the same, and counted, of statuses and of lists that records report.
use Rattle.std.proofs.Common.{◌≡◌, ◌≤◌, Bool, true, false, cond, List, [], ◌∷◌, length, refl, sym, ap, arith, true≢false}
use Rattle.rel_list.specs.declared.status.Status.{Status}
use Rattle.rel_list.specs.declared.status.Status.TheVariants.{Unpacked, Current, Old, Permanent, OneShot}
use Rattle.rel_list.specs.Event.{recorded, recorded_status}
use Rattle.rel_list.specs.Releases.{Entry, Releases}
use Rattle.rel_records.specs.StatusChanges.{is_same}

-- the same statuses
pub same_so : (s t : Status) → is_same s t ≡ true → s ≡ t
same_so Unpacked Unpacked e = refl
same_so Current Current e = refl
same_so Old Old e = refl
same_so Permanent Permanent e = refl
same_so OneShot OneShot e = refl
same_so Unpacked Current e = absurd cc
same_so Unpacked Old e = absurd cc
same_so Unpacked Permanent e = absurd cc
same_so Current Unpacked e = absurd cc
same_so Current Old e = absurd cc
same_so Current Permanent e = absurd cc
same_so Old Unpacked e = absurd cc
same_so Old Current e = absurd cc
same_so Old Permanent e = absurd cc
same_so Permanent Unpacked e = absurd cc
same_so Permanent Current e = absurd cc
same_so Permanent Old e = absurd cc
same_so Unpacked OneShot e = absurd cc
same_so Current OneShot e = absurd cc
same_so Old OneShot e = absurd cc
same_so Permanent OneShot e = absurd cc
same_so OneShot Unpacked e = absurd cc
same_so OneShot Current e = absurd cc
same_so OneShot Old e = absurd cc
same_so OneShot Permanent e = absurd cc

-- a list that records report so: its first status, and the rest
pub first_recorded : (e : Entry) (es : Releases) → recorded (e ∷ es) ≡ e ∷ es → recorded_status e.status ≡ e.status
first_recorded e es is = ap status_at is
  where
    status_at : Releases → Status
    status_at [] = e.status
    status_at (f ∷ fs) = f.status

pub rest_recorded : (e : Entry) (es : Releases) → recorded (e ∷ es) ≡ e ∷ es → recorded es ≡ es
rest_recorded e es is = ap rest is
  where
    rest : Releases → Releases
    rest [] = []
    rest (f ∷ fs) = fs

-- one more on the left only where there is one more on the right
pub one_counted : {A B : Type 0} (p q : Bool) (x : A) (xs : List A) (y : B) (ys : List B) → (p ≡ true → q ≡ true) → length xs ≤ length ys → length (cond p (x ∷ xs) xs) ≤ length (cond q (y ∷ ys) ys)
one_counted false false x xs y ys only few = few
one_counted false true x xs y ys only few = omega (arith, few)
one_counted true true x xs y ys only few = omega (arith, few)
one_counted true false x xs y ys only few = absurd (true≢false (sym (only refl)))
