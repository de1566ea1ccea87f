-- Every run keeps agreement, and all agree at the start.
use Rattle.std.proofs.Common.{◌≡◌, ℕ, zero, suc, ◌<◌, Bool, true, false, [], ◌∷◌, length, map, replicate, get_or, slice_index, refl, ap, sym, subst, ◌∙◌, arith, true≢false, None}
use mathlib.Core.Option.{Option, some, some-injective, some-ne-none}
use lib.ListN.{get_elem?}
use Rattle.proc_table.specs.declared.view.View.{View}
use Rattle.proc_history.specs.declared.value.Value.{Value}
use Rattle.proc_history.specs.Events.{own}
use Rattle.proc_table.specs.Parts.{Part, part_of, unseen}
use Rattle.proc_history.specs.Values.{nothing}
use Rattle.proc_table.specs.Views.{seen, is_out, handler_view}
use Rattle.proc_table.specs.Agrees.{slots, States, start, FitsPart, FitsSeat, Agrees}
use Rattle.proc_table.specs.Moves.{Moves, Run, Reached, RunsAgree, ReachedAgrees, HeldAlone}
use Rattle.proc_table.specs.Moves.Moves.{takes, gives, misses, lays, lifts, learns, splits, joins}
use Rattle.proc_table.proofs.StepKinds.{takes_agree, gives_agree, misses_agree, learns_agree, lays_agree, lifts_agree}
use Rattle.proc_table.proofs.JoinLemmas.{splits_agree, joins_agree}

pub move_agrees : (s t : States) → Moves s t → Agrees s → Agrees t
move_agrees s t (takes m) a = takes_agree s t m a
move_agrees s t (gives m) a = gives_agree s t m a
move_agrees s t (misses m) a = misses_agree s t m a
move_agrees s t (lays m) a = lays_agree s t m a
move_agrees s t (lifts m) a = lifts_agree s t m a
move_agrees s t (learns m) a = learns_agree s t m a
move_agrees s t (splits m) a = splits_agree s t m a
move_agrees s t (joins m) a = joins_agree s t m a

run_agrees : (n : ℕ) (s t : States) → Run n s t → Agrees s → Agrees t
run_agrees zero s t r a = subst Agrees r a
run_agrees (suc n) s t r a = move_agrees r.0 t r.2 (run_agrees n s r.0 r.1 a)

pub runs_agree : RunsAgree
runs_agree s t r a = run_agrees r.0 s t r.1 a

module _ {A : Type 0} where
  pub at_replicate : (n : ℕ) (a d : A) (p : ℕ) → p < n → get_or (replicate n a) p d ≡ a
  at_replicate zero a d p h = absurd (omega arith)
  at_replicate (suc n) a d zero h = refl
  at_replicate (suc n) a d (suc p) h = at_replicate n a d p (omega arith)

  pub all_replicate : (n : ℕ) (a : A) (p : ℕ) → get_or (replicate n a) p a ≡ a
  all_replicate zero a p = refl
  all_replicate (suc n) a zero = refl
  all_replicate (suc n) a (suc p) = all_replicate n a p

  pub home_replicate : (n : ℕ) (a : A) (p : ℕ) → p < n → get_elem? (map some (replicate n a)) p ≡ some (some a)
  home_replicate zero a p h = absurd (omega arith)
  home_replicate (suc n) a zero h = refl
  home_replicate (suc n) a (suc p) h = home_replicate n a p (omega arith)

  pub length_replicate : (n : ℕ) (a : A) → length (replicate n a) ≡ n
  length_replicate zero a = refl
  length_replicate (suc n) a = let h = length_replicate n a in omega arith

  pub length_homes : (n : ℕ) (a : A) → length (map some (replicate n a)) ≡ n
  length_homes zero a = refl
  length_homes (suc n) a = let h = length_homes n a in omega arith

only_first : (v w : View) (i : ℕ) → get_elem? (v ∷ []) i ≡ some w → (i ≡ 0) × (v ≡ w)
only_first v w zero e = (refl, some-injective v w e)
only_first v w (suc i) e = absurd (some-ne-none w (sym e))

opening_part : (p : ℕ) (home : Option (Option Value)) (word : ℕ) → FitsPart [] word home 0 None p unseen
opening_part p home word = record {
  begins = ([], refl);
  own_seen = refl;
  own_all = refl;
  all_where_out = λ o. refl;
  word_where_out = λ o. absurd (true≢false (sym o));
  laid = λ l. absurd (true≢false (sym l));
  held = λ g is o. absurd (cc);
  met_first = λ g is. absurd (cc);
  met_second = λ g is. absurd (cc);
  met_own = λ g is. absurd (cc);
  met_settled = λ g is. absurd (cc);
}

pub start_agrees : Agrees start
start_agrees = record {
  history = λ p. [];
  passes = 0;
  words = length_replicate slots 0;
  homes = length_homes slots nothing;
  each = λ p. record {
    legal = tt;
    home = λ inside free. home_replicate slots nothing p inside;
    taken = λ busy. absurd (busy (all_replicate slots 0 p));
    alone = λ i j v w sv sw ov ow. (only_first _ v i sv.0).0 ∙ sym (only_first _ w j sw.0).0;
    parts = λ i v sv. subst (λ (y : View). FitsPart [] (slice_index (replicate slots 0) p) (get_elem? (map some (replicate slots nothing)) p) y.number y.guest p (part_of y.parts p))
        (only_first _ v i sv.0).1
        (subst (λ (x : Part). FitsPart [] (slice_index (replicate slots 0) p) (get_elem? (map some (replicate slots nothing)) p) 0 None p x) (sym (all_replicate slots unseen p))
        (opening_part p _ _));
    whole = (0, handler_view slots, (refl, refl), ap (λ (x : Part). x.seen) (all_replicate slots unseen p));
  };
  given = λ p n lt. refl;
  seats = λ i v sv. let e = (only_first _ v i sv.0).1 in subst (FitsSeat 0) e (record { number = omega arith; count = λ z. refl; parts = length_replicate slots unseen });
  apart = λ i j v w sv sw e. (only_first _ v i sv.0).0 ∙ sym (only_first _ w j sw.0).0;
  lent = λ i j v w sv sw handler pass. absurd (pass (ap (λ (y : View). y.number) (sym (only_first _ w j sw.0).1)));
  settled = λ i p n v sv handler strange. subst (λ (y : View). own n [] ≡ own n (seen y p)) (only_first _ v i sv.0).1
      (ap (λ (x : Part). own n x.seen) (sym (all_replicate slots unseen p)));
}

pub reached_agrees : ReachedAgrees
reached_agrees s r = runs_agree start s r start_agrees

-- a step more
pub next : (s t : States) → Reached s → Moves s t → Reached t
next s t r m = (suc r.0, (s, r.1, m))

pub none_out : (b : Bool) → (b ≡ true → ⊥) → b ≡ false
none_out true ne = absurd (ne refl)
none_out false ne = refl

pub held_alone : HeldAlone
held_alone s r i p v sits out =
    let here = (reached_agrees s r).each p in
    ((here.parts i v sits).word_where_out out, λ j w ne there. none_out (is_out w p) (λ o. ne (here.alone j i w v there sits o out)))
