-- What one answer more makes of what a worker has done.
use Rattle.std.proofs.Common.{◌≡◌, ℕ, List, [], ◌∷◌, ◌++◌, Option, Some, None, option_map, refl, ap, sym, subst, ◌∙◌, inl, inr, ⊎_elim, append-nil, append_assoc}
use mathlib.Core.List.{IsPrefix}
use Rattle.proc_history.specs.declared.value.Now.{Now}
use Rattle.proc_history.specs.declared.value.Outcome.{Outcome}
use Rattle.proc_history.specs.declared.value.Outcome.TheVariants as outcome
use Rattle.proc_history.specs.Events.{HistoryEntry, entry, own}
use Rattle.proc_history.specs.Events.Event.{call}
use Rattle.proc_history.specs.Histories.{replay, IsLegal}
use Rattle.proc_history.specs.Outcomes.{outcome_in}
use Rattle.proc_history.specs.Values.{answer, outcome_of, up_in}
use Rattle.proc_history.proofs.Prefixes.{prefix_self, prefix_more, prefix_trans}
use Rattle.proc_table.specs.declared.view.View.{View}
use Rattle.proc_table.specs.declared.pid.Pid.{Pid}
use Rattle.proc_table.specs.declared.pass.Tried.{Tried}
use Rattle.proc_table.specs.declared.pass.Tried.TheVariants as tried
use Rattle.proc_table.specs.Parts.{Part, part_of}
use Rattle.proc_table.specs.Views.{seen, mine}
use Rattle.proc_table.specs.Calls.{Elsewhere, Looked, Called, tried_of}
use Rattle.proc_table.specs.Together.{answered}
use Rattle.proc_table.specs.Waits.{Waited, AnswersAtLast}
use Rattle.proc_workers.specs.declared.note.Answer.{Answer}
use Rattle.proc_workers.specs.declared.note.Job.{Job}
use Rattle.proc_workers.specs.Processes.{IsProcess}
use Rattle.proc_workers.specs.Work.{job_of, calls_of, AnswersBy, AnswersEach, AnswersInTurn, HasAnswer, HasAnswered}

-- ---- a call that was waited for
-- What a call leaves, since before the waiting: it was answered by a history, and its entry stands right after that.
record Since (p round input : ℕ) (t : Tried) (new : List HistoryEntry) (v w : View) : Type 0 where
  now : List HistoryEntry
  longer : IsPrefix (seen v p) now
  tried_is : t ≡ tried_of (outcome_in round input (replay now))
  seen_is : seen w p ≡ now ++ new
  mine_is : mine w p ≡ mine v p ++ new
  once : own v.number (seen w p) ≡ mine w p
  legal : IsLegal (seen w p)
  elsewhere : Elsewhere p v w

-- while it waited, all but the failed takes stayed
same_parts : (p : ℕ) (v u : View) → Waited p v u → u.parts ≡ v.parts
same_parts p v u was = ap (λ (z : View). z.parts) was.is

same_number : (p : ℕ) (v u : View) → Waited p v u → u.number ≡ v.number
same_number p v u was = ap (λ (z : View). z.number) was.is

elsewhere_since : (p : ℕ) (v u w : View) → Waited p v u → Elsewhere p u w → Elsewhere p v w
elsewhere_since p v u w was rest = record {
  number = rest.number ∙ same_number p v u was;
  count = rest.count ∙ ap (λ (z : View). z.count) was.is;
  lent = rest.lent ∙ ap (λ (z : View). z.lent) was.is;
  others = λ q ne. rest.others q ne ∙ ap (λ (l : List Part). part_of l q) (same_parts p v u was);
}

called_since : (p round input : ℕ) (o : Outcome) (v u w : View) → Waited p v u → Called p round input o u w
    → Since p round input (tried_of (Some o)) (entry v.number (call input o) ∷ []) v w
called_since p round input o v u w was c =
    let number = same_number p v u was in
    let seen_was : seen u p ≡ seen v p = ap (λ (l : List Part). (part_of l p).seen) (same_parts p v u was) in
    let mine_was : mine u p ≡ mine v p = ap (λ (l : List Part). (part_of l p).mine) (same_parts p v u was) in
    let now : List HistoryEntry = seen u p ++ c.between in
    record {
      now = now;
      longer = subst (λ (l : List HistoryEntry). IsPrefix l now) seen_was (prefix_more (seen u p) c.between);
      tried_is = ap tried_of (ap (λ (x : Outcome). Some x) c.up.2 ∙ sym (ap (option_map (λ (m : Now). outcome_of (answer m input))) c.up.1));
      seen_is = c.seen_is ∙ ap (λ (n : ℕ). now ++ entry n (call input o) ∷ []) number;
      mine_is = c.mine_is ∙ (ap (λ (l : List HistoryEntry). l ++ entry u.number (call input o) ∷ []) mine_was ∙ ap (λ (n : ℕ). mine v p ++ entry n (call input o) ∷ []) number);
      once = subst (λ (n : ℕ). own n (seen w p) ≡ mine w p) number c.once;
      legal = c.legal;
      elsewhere = elsewhere_since p v u w was c.rest;
    }

looked_since : (p round input : ℕ) (v u w : View) → Waited p v u → Looked p u w → up_in round (replay (seen w p)) ≡ None → Since p round input tried.Down [] v w
looked_since p round input v u w was c down =
    let number = same_number p v u was in
    let seen_was : seen u p ≡ seen v p = ap (λ (l : List Part). (part_of l p).seen) (same_parts p v u was) in
    let mine_was : mine u p ≡ mine v p = ap (λ (l : List Part). (part_of l p).mine) (same_parts p v u was) in
    record {
      now = seen w p;
      longer = (c.between, ap (λ (l : List HistoryEntry). l ++ c.between) (sym seen_was) ∙ sym c.seen_is);
      tried_is = sym (ap (λ (o : Option Now). tried_of (option_map (λ (m : Now). outcome_of (answer m input)) o)) down);
      seen_is = sym (append-nil (seen w p));
      mine_is = c.mine_is ∙ (mine_was ∙ sym (append-nil (mine v p)));
      once = subst (λ (n : ℕ). own n (seen w p) ≡ mine w p) number c.once;
      legal = c.legal;
      elsewhere = elsewhere_since p v u w was c.rest;
    }

since_call : (p round input : ℕ) (v : View) (t : Tried) (w : View) → AnswersAtLast p round input v t w → Since p round input t (answered v.number input t) v w
since_call p round input v (tried.Done r) w a = called_since p round input (outcome.Done r) v a.before w a.waited a.answers
since_call p round input v tried.Crashed w a = called_since p round input outcome.Crashed v a.before w a.waited a.answers
since_call p round input v (tried.Ended r) w a = called_since p round input (outcome.Ended r) v a.before w a.waited a.answers
since_call p round input v tried.Down w a = looked_since p round input v a.before w a.waited a.answers.0 a.answers.1
since_call p round input v tried.Busy w a = absurd a.is_answer
since_call p round input v tried.Held w a = absurd a.is_answer

-- ---- one answer more
calls_more : (n : ℕ) (answers : List Answer) (a : Answer) → calls_of n (answers ++ a ∷ []) ≡ calls_of n answers ++ answered n a.input a.tried
calls_more n [] a = append-nil (answered n a.input a.tried)
calls_more n (x ∷ more) a = ap (λ (l : List HistoryEntry). answered n x.input x.tried ++ l) (calls_more n more a)
    ∙ sym (append_assoc (answered n x.input x.tried) (calls_of n more) (answered n a.input a.tried))

-- answers in turn, and one by a later history
turn_more : (pid : Pid) (n : ℕ) (h : List HistoryEntry) (answers : List Answer) (a : Answer) (g now later : List HistoryEntry) → AnswersInTurn pid n h answers g → IsPrefix g now → AnswersBy pid now a
    → IsPrefix (now ++ answered n a.input a.tried) later → AnswersInTurn pid n h (answers ++ a ∷ []) later
turn_more pid n h [] a g now later turns longer by more = (now, prefix_trans h g now turns longer, by, more)
turn_more pid n h (x ∷ xs) a g now later turns longer by more =
    (turns.0, turns.1, turns.2, turn_more pid n (turns.0 ++ answered n x.input x.tried) xs a g now later turns.3 longer by more)

each_more : (pid : Pid) (v : View) (answers : List Answer) (u : View) (a : Answer) (w : View) → AnswersEach pid v answers u → HasAnswer pid u (job_of a) a.tried w → AnswersEach pid v (answers ++ a ∷ []) w
each_more pid v [] u a w same now = (w, subst (λ (z : View). HasAnswer pid z (job_of a) a.tried w) same now, refl)
each_more pid v (x ∷ xs) u a w each now = (each.0, each.1, each_more pid each.0 xs u a w each.2 now)

-- no answer yet
pub answered_nothing : (pid : Pid) (v : View) → HasAnswered pid v [] v
answered_nothing pid v = record {
  each = refl;
  in_turn = prefix_self (seen v pid.slot);
  mine_is = sym (append-nil (mine v pid.slot));
  once = λ h. h;
  legal = λ h. h;
  elsewhere = record { number = refl; count = refl; lent = refl; others = λ q ne. refl };
}

by_call : (pid : Pid) (v : View) (answers : List Answer) (u : View) (a : Answer) (w : View) → HasAnswered pid v answers u → IsProcess pid a.pid
    → AnswersAtLast pid.slot pid.round a.input u a.tried w → HasAnswered pid v (answers ++ a ∷ []) w
by_call pid v answers u a w h is at =
    let p = pid.slot in
    let s = since_call p pid.round a.input u a.tried w at in
    let number = h.elsewhere.number in
    let behind : s.now ++ answered v.number a.input a.tried ≡ seen w p = sym (s.seen_is ∙ ap (λ (n : ℕ). s.now ++ answered n a.input a.tried) number) in
    record {
      each = each_more pid v answers u a w h.each (inl (is, at));
      in_turn = turn_more pid v.number (seen v p) answers a (seen u p) s.now (seen w p) h.in_turn s.longer (inl (is, s.tried_is))
          (subst (λ (l : List HistoryEntry). IsPrefix l (seen w p)) (sym behind) (prefix_self (seen w p)));
      mine_is = s.mine_is ∙ (ap (λ (l : List HistoryEntry). l ++ answered u.number a.input a.tried) h.mine_is ∙ (append_assoc (mine v p) (calls_of v.number answers) (answered u.number a.input a.tried)
          ∙ ap (λ (l : List HistoryEntry). mine v p ++ l) (ap (λ (n : ℕ). calls_of v.number answers ++ answered n a.input a.tried) number ∙ sym (calls_more v.number answers a))));
      once = λ before. subst (λ (n : ℕ). own n (seen w p) ≡ mine w p) number s.once;
      legal = λ before. s.legal;
      elsewhere = record {
        number = s.elsewhere.number ∙ h.elsewhere.number;
        count = s.elsewhere.count ∙ h.elsewhere.count;
        lent = s.elsewhere.lent ∙ h.elsewhere.lent;
        others = λ q ne. s.elsewhere.others q ne ∙ h.elsewhere.others q ne;
      };
    }

by_name : (pid : Pid) (v : View) (answers : List Answer) (u : View) (a : Answer) → HasAnswered pid v answers u → (¬ IsProcess pid a.pid) → a.tried ≡ tried.Down → HasAnswered pid v (answers ++ a ∷ []) u
by_name pid v answers u a h other down =
    let p = pid.slot in
    let none : answered v.number a.input a.tried ≡ [] = ap (λ (t : Tried). answered v.number a.input t) down in
    let behind : seen u p ++ answered v.number a.input a.tried ≡ seen u p = ap (λ (l : List HistoryEntry). seen u p ++ l) none ∙ append-nil (seen u p) in
    record {
      each = each_more pid v answers u a u h.each (inr (other, down, refl));
      in_turn = turn_more pid v.number (seen v p) answers a (seen u p) (seen u p) (seen u p) h.in_turn (prefix_self (seen u p)) (inr (other, down))
          (subst (λ (l : List HistoryEntry). IsPrefix l (seen u p)) (sym behind) (prefix_self (seen u p)));
      mine_is = h.mine_is ∙ ap (λ (l : List HistoryEntry). mine v p ++ l) (sym (calls_more v.number answers a ∙ (ap (λ (l : List HistoryEntry). calls_of v.number answers ++ l) none ∙ append-nil (calls_of v.number answers))));
      once = h.once;
      legal = h.legal;
      elsewhere = h.elsewhere;
    }

pub answered_more : (pid : Pid) (v : View) (answers : List Answer) (u : View) (a : Answer) (j : Job) (w : View) → HasAnswered pid v answers u → job_of a ≡ j → HasAnswer pid u j a.tried w
    → HasAnswered pid v (answers ++ a ∷ []) w
answered_more pid v answers u a j w h is now =
    let now' : HasAnswer pid u (job_of a) a.tried w = subst (λ (i : Job). HasAnswer pid u i a.tried w) (sym is) now in
    ⊎_elim (λ called. by_call pid v answers u a w h called.0 called.1)
    (λ other. subst (λ (x : View). HasAnswered pid v (answers ++ a ∷ []) x) (sym other.2) (by_name pid v answers u a h other.0 other.1)) now'
