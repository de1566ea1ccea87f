-- What the handler's calls leave.
use Rattle.std.proofs.Common.{◌≡◌, ℕ, ◌<◌, Bool, true, false, List, [], ◌++◌, refl, ap, sym, subst, subst₂, ◌∙◌, true≢false}
use native.Mathlib.Decide.{ℕ_discrete}
use mathlib.Core.Logic.{dite}
use Rattle.proc_table.specs.declared.view.View.{View}
use Rattle.proc_history.specs.Events.{HistoryEntry, own}
use Rattle.proc_table.specs.Parts.{Part, part_of}
use Rattle.proc_history.specs.Histories.{IsLegal}
use Rattle.proc_table.specs.Views.{seen, mine, is_out}
use Rattle.proc_table.specs.Agrees.{slots}
use Rattle.proc_history.specs.Events.{MayAdd, ByHandler}
use Rattle.proc_table.specs.Steps.{Me, Known, given, with_laid}
use Rattle.proc_table.specs.Seats.{IsHandler}
use Rattle.proc_table.specs.Holds.{Released}
use Rattle.proc_table.proofs.PartViews.{PartNow, set_part, then_part, part_known}
use Rattle.proc_table.proofs.PassLemmas.{own_behind}

handler_part : (p : ℕ) (v w : View) (s m : List HistoryEntry) (out laid : Bool) → PartNow p v w s m out laid → Known w → (out ≡ true → laid ≡ true) → IsHandler v → IsHandler w
handler_part p v w s m out laid b known both h = record {
  ready = record { live = b.live ∙ h.ready.live; alone = b.alone ∙ h.ready.alone };
  known = known;
  handler = b.rest.number ∙ h.handler;
  laid = λ q o. dite (ℕ_discrete q p)
      (λ e. subst (λ z. (part_of w.parts z).laid ≡ true) (sym e) (b.laid_is ∙ both (sym b.out_is ∙ subst (λ z. is_out w z ≡ true) e o)))
      (λ ne. ap (λ (x : Part). x.laid) (b.rest.others q ne) ∙ h.laid q (sym (ap (λ (x : Part). x.out) (b.rest.others q ne)) ∙ o));
}

pub by_handler_may : (n : ℕ) (es : List HistoryEntry) → n ≡ 0 → ByHandler es → MayAdd n es
by_handler_may n es e by = subst (λ k. MayAdd k es) (sym e) by

pub record ReleaseMade (p : ℕ) (es : List HistoryEntry) (v : View) (w : Me) : Type 0 where
  pub released : Released p es v w.0
  pub handler : IsHandler w.0
  pub empty : w.1 ≡ []

pub release_made : (p : ℕ) (v : View) (w : Me) (es : List HistoryEntry) → p < slots → IsHandler v → ByHandler es → IsLegal (seen v p ++ es)
    → w ≡ (given (with_laid v p false) p es, []) → ReleaseMade p es v w
release_made p v w es inside h by legal is =
    let v' = with_laid v p false in
    let b = set_part p v (seen v p) (mine v p) true false inside h.known.parts in
    let w0 = given v' p es in
    let l : PartNow p v w0 (seen v p ++ es) (mine v p ++ es) false false = subst₂ (λ s n. PartNow p v w0 s n false false) (ap (λ g. g ++ es) b.seen_is) (ap (λ g. g ++ es) b.mine_is)
    (then_part p v v' (seen v p) (mine v p) true false b (seen v' p ++ es) (mine v' p ++ es) false false inside) in
    let once : own v.number (seen v p ++ es) ≡ mine v p ++ es = own_behind v.number (seen v p) es (mine v p) (by_handler_may v.number es h.handler by) (h.known.once p) in
    subst (ReleaseMade p es v) (sym is) (record {
      released = record {
        seen_is = l.seen_is;
        mine_is = l.mine_is;
        out = l.out_is;
        legal = subst IsLegal (sym l.seen_is) legal;
        once = rw (l.seen_is, l.mine_is) once;
        found = refl;
        rest = l.rest;
      };
      handler = handler_part p v w0 (seen v p ++ es) (mine v p ++ es) false false l
          (part_known p v w0 (seen v p ++ es) (mine v p ++ es) false false l h.known once legal) (λ o. absurd (true≢false (sym o))) h;
      empty = refl;
    })
