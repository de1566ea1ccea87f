-- Terms that are the same are equal.
use Rattle.std.proofs.Common.{◌≡◌, true, refl, ap, subst}
use Rattle.std.proofs.lemmas.Bool.Decides.{Decides-int_eq}
use Rattle.std.proofs.lemmas.Slice.Eq.{bytes_eq-Decides}
use Rattle.erl_term.specs.Value.{Value, Values}
use Rattle.erl_term.specs.Value.Value.{int, atom, list, tuple, bin}
use Rattle.erl_term.specs.Value.Values.{no_values, value}
use Rattle.rel_files.proofs.Options.{both, both_true}
use Rattle.worker_table.specs.Same.{is_same, are_same, SameAreEqual}

mutual
  equal : (v w : Value) → is_same v w ≡ true → v ≡ w
  equal (int m) (int n) e = ap int ((Decides-int_eq m n).0 e)
  equal (atom s) (atom t) e = ap atom ((bytes_eq-Decides s t).0 e)
  equal (list vs) (list ws) e = ap list (equals vs ws e)
  equal (tuple vs) (tuple ws) e = ap tuple (equals vs ws e)
  equal (bin bs) (bin cs) e = ap bin ((bytes_eq-Decides bs cs).0 e)
  equal v w e = absurd cc

  equals : (vs ws : Values) → are_same vs ws ≡ true → vs ≡ ws
  equals no_values no_values e = refl
  equals (value v vs) (value w ws) e =
      let parts = both (is_same v w) (are_same vs ws) e in
      let here = equal v w parts.0 in
      let rest = equals vs ws parts.1 in λ j. value (here j) (rest j)
  equals vs ws e = absurd cc

mutual
  itself : (v : Value) → is_same v v ≡ true
  itself (int n) = (Decides-int_eq n n).1 refl
  itself (atom s) = (bytes_eq-Decides s s).1 refl
  itself (list vs) = themselves vs
  itself (tuple vs) = themselves vs
  itself (bin bs) = (bytes_eq-Decides bs bs).1 refl

  themselves : (vs : Values) → are_same vs vs ≡ true
  themselves no_values = refl
  themselves (value v vs) = both_true (is_same v v) (are_same vs vs) (itself v) (themselves vs)

pub same_are_equal : SameAreEqual
same_are_equal v w = (equal v w, λ e. subst (λ x. is_same v x ≡ true) e (itself v))
