-- A view of which one slot's part is another.
use Rattle.std.proofs.Common.{◌≡◌, ℕ, ◌<◌, Bool, List, length, refl, ap, sym, subst, ◌∙◌, arith, length-set, get_or-set_same, get_or-set_other}
use native.Mathlib.Decide.{ℕ_discrete}
use mathlib.Core.Logic.{dite}
use Rattle.proc_table.specs.declared.view.View.{View}
use Rattle.proc_history.specs.Events.{HistoryEntry, own}
use Rattle.proc_table.specs.Parts.{Part, part, part_of, unseen}
use Rattle.proc_history.specs.Histories.{IsLegal}
use Rattle.proc_table.specs.Views.{seen, mine, is_out, with_part}
use Rattle.proc_table.specs.Agrees.{slots}
use Rattle.proc_table.specs.Steps.{Known}
use Rattle.proc_table.specs.Calls.{Elsewhere}

-- the part of the slot p is this, and all else as in v
pub record PartNow (p : ℕ) (v w : View) (s m : List HistoryEntry) (out laid : Bool) : Type 0 where
  pub seen_is : seen w p ≡ s
  pub mine_is : mine w p ≡ m
  pub out_is : is_out w p ≡ out
  pub laid_is : (part_of w.parts p).laid ≡ laid
  pub rest : Elsewhere p v w
  pub parts : length w.parts ≡ slots
  pub live : w.spent ≡ v.spent
  pub alone : w.guest ≡ v.guest

pub set_part : (p : ℕ) (v : View) (s m : List HistoryEntry) (out laid : Bool) → p < slots → length v.parts ≡ slots → PartNow p v (with_part v p (part s m out laid)) s m out laid
set_part p v s m out laid inside long =
    let x = part s m out laid in
    let there : part_of (with_part v p x).parts p ≡ x = get_or-set_same v.parts p x unseen (omega arith) in
    record {
      seen_is = ap (λ (y : Part). y.seen) there;
      mine_is = ap (λ (y : Part). y.mine) there;
      out_is = ap (λ (y : Part). y.out) there;
      laid_is = ap (λ (y : Part). y.laid) there;
      rest = record { number = refl; count = refl; lent = refl; others = λ q ne. get_or-set_other v.parts p q x unseen ne };
      parts = length-set v.parts p x ∙ long;
      live = refl;
      alone = refl;
    }

-- the same after the part was another
pub then_part : (p : ℕ) (v w : View) (s m : List HistoryEntry) (out laid : Bool) → PartNow p v w s m out laid
    → (t n : List HistoryEntry) (away put : Bool) → p < slots → PartNow p v (with_part w p (part t n away put)) t n away put
then_part p v w s m out laid was t n away put inside =
    let x = set_part p w t n away put inside was.parts in
    record {
      seen_is = x.seen_is;
      mine_is = x.mine_is;
      out_is = x.out_is;
      laid_is = x.laid_is;
      rest = record {
        number = was.rest.number;
        count = was.rest.count;
        lent = was.rest.lent;
        others = λ q ne. x.rest.others q ne ∙ was.rest.others q ne;
      };
      parts = x.parts;
      live = was.live;
      alone = was.alone;
    }

-- what is known stays known
pub part_known : (p : ℕ) (v w : View) (s m : List HistoryEntry) (out laid : Bool) → PartNow p v w s m out laid → Known v → own v.number s ≡ m → IsLegal s → Known w
part_known p v w s m out laid b known once legal = record {
  parts = b.parts;
  once = λ q. dite (ℕ_discrete q p)
      (λ e. subst (λ z. own w.number (seen w z) ≡ mine w z) (sym e) (rw (b.rest.number, b.seen_is, b.mine_is) once))
      (λ ne. subst (λ k. own k (seen w q) ≡ mine w q) (sym b.rest.number)
      (subst (λ (x : Part). own v.number x.seen ≡ x.mine) (sym (b.rest.others q ne)) (known.once q)));
  legal = λ q. dite (ℕ_discrete q p)
      (λ e. subst (λ z. IsLegal (seen w z)) (sym e) (rw b.seen_is legal))
      (λ ne. subst (λ (x : Part). IsLegal x.seen) (sym (b.rest.others q ne)) (known.legal q));
}
