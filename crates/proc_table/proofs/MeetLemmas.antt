-- What a new pass knows, and a seat after a join.
use Rattle.std.proofs.Common.{◌≡◌, ℕ, List, [], length, refl, ap, sym, subst, ◌∙◌, arith, None, true≢false}
use Rattle.proc_table.specs.declared.view.View.{View}
use Rattle.proc_history.specs.declared.value.Value.{Value}
use Rattle.proc_history.specs.Events.{own}
use Rattle.proc_table.specs.Parts.{Part, Guest, part_of, unseen, joined_part}
use Rattle.proc_history.specs.Histories.{IsLegal}
use Rattle.proc_table.specs.Views.{one_more, new_pass, joined, handler_view}
use Rattle.proc_table.specs.Agrees.{slots}
use Rattle.proc_table.specs.Steps.{Me, Known, Learnt}
use Rattle.proc_table.specs.Seats.{IsPass, IsHandler}
use Rattle.proc_table.specs.Calls.{Made, Joined}
use Rattle.proc_table.proofs.JoinLemmas.{joined_at, only_seen_at}
use Rattle.proc_table.proofs.Runs.{all_replicate, length_replicate}

-- the handler's seat of a new table
pub first_handler : IsHandler (handler_view slots)
first_handler = record {
  ready = record { live = refl; alone = refl };
  known = record {
    parts = length_replicate slots unseen;
    once = λ p. subst (λ (x : Part). own 0 x.seen ≡ x.mine) (sym (all_replicate slots unseen p)) refl;
    legal = λ p. subst (λ (x : Part). IsLegal x.seen) (sym (all_replicate slots unseen p)) tt;
  };
  handler = refl;
  laid = λ p out. absurd (true≢false (sym out ∙ ap (λ (x : Part). x.out) (all_replicate slots unseen p)));
}

pub record NewPass (v : View) (w : Me) : Type 0 where
  pub pass : IsPass w.0
  pub empty : w.1 ≡ []
  pub made : Made v (one_more v) w.0

pub is_new : (v : View) (m w : Me) → v.number ≡ 0 → m ≡ (new_pass v, []) → Learnt m w → NewPass v w
is_new v m w handler is learnt =
    let l : Learnt (new_pass v, []) w = subst (λ (z : Me). Learnt z w) is learnt in
    subst (NewPass v) (sym l.is) (record {
      pass = record {
        ready = record { live = refl; alone = refl };
        known = record { parts = l.known.parts; once = l.known.once; legal = l.known.legal };
        pass = λ e. absurd (omega arith);
        none_out = λ p. ap (λ (x : Part). x.out) (only_seen_at v.parts p);
      };
      empty = refl;
      made = record {
        maker = handler;
        count = refl;
        number = refl;
        lent = refl;
        handler = (refl, refl, refl);
        seen_is = λ p. ap (λ (x : Part). x.seen) (only_seen_at v.parts p);
        mine_is = λ p. ap (λ (x : Part). x.mine) (only_seen_at v.parts p);
        once = λ p. l.known.once p ∙ ap (λ (x : Part). x.mine) (only_seen_at v.parts p);
        found = refl;
      };
    })

pub record AfterJoin (v w : View) (z : Me) : Type 0 where
  pub is : Joined v w z.0
  pub live : z.0.spent ≡ v.spent
  pub alone : z.0.guest ≡ None
  pub known : Known z.0
  pub laid : (p : ℕ) → (part_of z.0.parts p).laid ≡ (part_of v.parts p).laid
  pub empty : z.1 ≡ []

pub after_join : (v w : View) (m z : Me) → length v.parts ≡ slots → length w.parts ≡ slots → m ≡ (joined v w, []) → Learnt m z → AfterJoin v w z
after_join v w m z long too is learnt =
    let b = joined v w in
    let l : Learnt (b, []) z = subst (λ (y : Me). Learnt y z) is learnt in
    let g : Guest = record { number = w.number; lent = v.lent; before = v.parts; parts = w.parts } in
    let met = l.met g refl in
    let at : (p : ℕ) → part_of b.parts p ≡ joined_part (part_of v.parts p) (part_of w.parts p) = λ p. joined_at v.parts w.parts p (long ∙ sym too) in
    subst (AfterJoin v w) (sym l.is) (record {
      is = record {
        number = refl;
        count = refl;
        lent = refl;
        found = refl;
        seen_is = λ p. ap (λ (x : Part). x.seen) (at p);
        first = met.first;
        second = met.second;
        mine_is = λ p. ap (λ (x : Part). x.mine) (at p);
        out_is = λ p. ap (λ (x : Part). x.out) (at p);
        held = met.held;
        legal = l.known.legal;
        once = λ p. l.known.once p ∙ ap (λ (x : Part). x.mine) (at p);
        other_once = met.once;
        settled = met.settled;
      };
      live = refl;
      alone = refl;
      known = record { parts = l.known.parts; once = l.known.once; legal = l.known.legal };
      laid = λ p. ap (λ (x : Part). x.laid) (at p);
      empty = refl;
    })

pub joined_pass : (v w : View) (z : Me) → IsPass v → AfterJoin v w z → IsPass z.0
joined_pass v w z pass j = record {
  ready = record { live = j.live ∙ pass.ready.live; alone = j.alone };
  known = j.known;
  pass = λ e. pass.pass (sym j.is.number ∙ e);
  none_out = λ p. j.is.out_is p ∙ pass.none_out p;
}

pub joined_handler : (v w : View) (z : Me) → IsHandler v → AfterJoin v w z → IsHandler z.0
joined_handler v w z h j = record {
  ready = record { live = j.live ∙ h.ready.live; alone = j.alone };
  known = j.known;
  handler = j.is.number ∙ h.handler;
  laid = λ p out. j.laid p ∙ h.laid p (sym (j.is.out_is p) ∙ out);
}

-- a seat with nothing in hand
pub with_empty : (m : Me) (x : View) (l : List (ℕ × Value)) → l ≡ [] → m ≡ (x, l) → m ≡ (x, [])
with_empty m x l none is = is ∙ ap (λ (k : List (ℕ × Value)). (x, k)) none
