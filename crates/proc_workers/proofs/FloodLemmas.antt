-- Many calls of one process: what the answers of a worker say of its history, and how they are counted.
use Rattle.std.proofs.Common.{◌≡◌, ◌≢◌, ◌≤◌, ◌==◌, ℕ, zero, suc, ◌+◌, Bool, true, false, if◌then◌else◌, List, [], ◌∷◌, ◌++◌, length, length-append, refl, ap, sym, subst, subst₂, ◌∙◌, inr, ⊎_elim, append-nil, append_assoc, arith, Some, None, Option}
use Rattle.std.proofs.lemmas.Bool.Decides.{nat_tests}
use Rattle.std.specs.List.{Contains}
use mathlib.Core.List.{IsPrefix}
use mathlib.Core.Logic.{dite}
use native.Mathlib.Decide.{ℕ_discrete}
use Rattle.proc_history.specs.declared.value.Outcome.{Outcome}
use Rattle.proc_history.specs.declared.value.Outcome.TheVariants as outcome
use Rattle.proc_history.specs.declared.value.Value.{Value}
use Rattle.proc_history.specs.Events.{HistoryEntry, entry, own}
use Rattle.proc_history.specs.Events.Event.{call}
use Rattle.proc_history.specs.Histories.{replay}
use Rattle.proc_history.specs.Outcomes.{after_call, call_entries, outcome_in}
use Rattle.proc_history.specs.Values.{after, nothing}
use Rattle.proc_history.proofs.Entries.{own-append, append_nothing, replay-append}
use Rattle.proc_history.proofs.Prefixes.{prefix_both, prefix_more, prefix_shorter, prefix_trans}
use Rattle.proc_table.specs.declared.pass.Tried.{Tried}
use Rattle.proc_table.specs.declared.pass.Tried.TheVariants as tried
use Rattle.proc_table.specs.declared.pid.Pid.{Pid}
use Rattle.proc_table.specs.declared.view.View.{View}
use Rattle.proc_table.specs.Alone.{ByOnePass}
use Rattle.proc_table.specs.Calls.{Made, Joined, tried_of}
use Rattle.proc_table.specs.Parts.{Part, part_of, longer}
use Rattle.proc_table.specs.Together.{answered}
use Rattle.proc_table.specs.Views.{seen, all_but}
use Rattle.proc_table.proofs.AloneLemmas.{longer_of}
use Rattle.proc_table.proofs.LentLemmas.{only_lent, none_left}
use Rattle.proc_workers.specs.declared.floods.FloodCounts.{FloodCounts}
use Rattle.proc_workers.specs.declared.note.Answer.{Answer}
use Rattle.proc_workers.specs.Counted.{AreOf, HasCalled, outcome_before, outcomes_in}
use Rattle.proc_workers.specs.Floods.{and_then, calls_with, Counts, IsBrokenOff, IsFlooded, outcomes_of}
use Rattle.proc_workers.specs.Work.{calls_of, AnswersBy, AnswersInTurn, HasAnswered}

-- ---- answers with nothing between
-- Each answer was given by what the calls of those before it left.
abbrev AnswersAtOnce : Pid → ℕ → List HistoryEntry → List Answer → Type 0
AnswersAtOnce pid k h [] = Unit {0}
AnswersAtOnce pid k h (a ∷ more) = AnswersBy pid h a × AnswersAtOnce pid k (h ++ answered k a.input a.tried) more

turns_longer : (pid : Pid) (k : ℕ) (h : List HistoryEntry) (answers : List Answer) (g : List HistoryEntry) → AnswersInTurn pid k h answers g → IsPrefix h g
turns_longer pid k h [] g turns = turns
turns_longer pid k h (a ∷ more) g turns =
    let new = answered k a.input a.tried in
    prefix_trans h turns.0 g turns.1 (prefix_trans turns.0 (turns.0 ++ new) g (prefix_more turns.0 new) (turns_longer pid k (turns.0 ++ new) more g turns.3))

-- what was seen at last has room for all calls
turns_within : (pid : Pid) (k : ℕ) (h : List HistoryEntry) (answers : List Answer) (g : List HistoryEntry) → AnswersInTurn pid k h answers g → length h + length (calls_of k answers) ≤ length g
turns_within pid k h [] g turns =
    let all = ap (λ (l : List HistoryEntry). length l) turns.1 in
    let parts = length-append h turns.0 in
    omega arith
turns_within pid k h (a ∷ more) g turns =
    let new = answered k a.input a.tried in
    let rest = turns_within pid k (turns.0 ++ new) more g turns.3 in
    let here = length-append turns.0 new in
    let calls = length-append new (calls_of k more) in
    let first = ap (λ (l : List HistoryEntry). length l) turns.1.1 in
    let parts = length-append h turns.1.0 in
    omega arith

-- where nothing but the calls came, nothing came between
come_at_once : (pid : Pid) (k : ℕ) (h : List HistoryEntry) (answers : List Answer) (g : List HistoryEntry) → AnswersInTurn pid k h answers g → g ≡ h ++ calls_of k answers → AnswersAtOnce pid k h answers
come_at_once pid k h [] g turns is = tt
come_at_once pid k h (a ∷ more) g turns is = (
  subst (λ (l : List HistoryEntry). AnswersBy pid l a) same turns.2,
  come_at_once pid k (h ++ new) more g (subst (λ (l : List HistoryEntry). AnswersInTurn pid k (l ++ new) more g) same turns.3) (is ∙ sym (append_assoc h new (calls_of k more))),
)
  where
    new : List HistoryEntry
    new = answered k a.input a.tried

    short : length turns.0 ≤ length h
    short =
        let rest = turns_within pid k (turns.0 ++ new) more g turns.3 in
        let here = length-append turns.0 new in
        let all = ap (λ (l : List HistoryEntry). length l) is in
        let parts = length-append h (new ++ calls_of k more) in
        let calls = length-append new (calls_of k more) in
        omega arith

    same : turns.0 ≡ h
    same =
        let within = prefix_trans turns.0 (turns.0 ++ new) g (prefix_more turns.0 new) (turns_longer pid k (turns.0 ++ new) more g turns.3) in
        let begins = turns_longer pid k h (a ∷ more) g turns in
        prefix_both turns.0 h (prefix_shorter turns.0 h g within begins short) turns.1

-- what a call adds, and leaves
entries_are : (k input : ℕ) (o : Option Outcome) → answered k input (tried_of o) ≡ call_entries k input o
entries_are k input None = refl
entries_are k input (Some (outcome.Done r)) = refl
entries_are k input (Some outcome.Crashed) = refl
entries_are k input (Some (outcome.Ended r)) = refl

left_behind : (k input : ℕ) (h : List HistoryEntry) (o : Option Outcome) → replay (h ++ call_entries k input o) ≡ after_call (replay h) input o
left_behind k input h None = ap replay (append-nil h)
left_behind k input h (Some o) = replay-append nothing h (entry k (call input o) ∷ [])

answer_leaves : (k input : ℕ) (h : List HistoryEntry) (t : Tried) (o : Option Outcome) → t ≡ tried_of o → replay (h ++ answered k input t) ≡ after_call (replay h) input o
answer_leaves k input h t o is = ap (λ (x : Tried). replay (h ++ answered k input x)) is
    ∙ (ap (λ (l : List HistoryEntry). replay (h ++ l)) (entries_are k input o) ∙ left_behind k input h o)

down_leaves : (k input : ℕ) (h : List HistoryEntry) (t : Tried) → t ≡ tried.Down → replay (h ++ answered k input t) ≡ replay h
down_leaves k input h t is = answer_leaves k input h t None is

-- ---- calls with one input
call_first : (k input : ℕ) (given : ℕ) (t : Tried) (es : List HistoryEntry) (os : List Outcome) → given ≡ input → es ≡ calls_with k input os → answered k given t ++ es ≡ calls_with k input (outcome_before t os)
call_first k input given (tried.Done r) es os is rest = ap (λ (n : ℕ). entry k (call n (outcome.Done r)) ∷ es) is ∙ ap (λ (l : List HistoryEntry). entry k (call input (outcome.Done r)) ∷ l) rest
call_first k input given tried.Crashed es os is rest = ap (λ (n : ℕ). entry k (call n outcome.Crashed) ∷ es) is ∙ ap (λ (l : List HistoryEntry). entry k (call input outcome.Crashed) ∷ l) rest
call_first k input given (tried.Ended r) es os is rest = ap (λ (n : ℕ). entry k (call n (outcome.Ended r)) ∷ es) is ∙ ap (λ (l : List HistoryEntry). entry k (call input (outcome.Ended r)) ∷ l) rest
call_first k input given tried.Down es os is rest = rest
call_first k input given tried.Busy es os is rest = rest
call_first k input given tried.Held es os is rest = rest

calls_are : (pid : Pid) (k input : ℕ) (answers : List Answer) → AreOf pid input answers → calls_of k answers ≡ calls_with k input (outcomes_in answers)
calls_are pid k input [] of = refl
calls_are pid k input (a ∷ more) of = call_first k input a.input a.tried (calls_of k more) (outcomes_in more) of.0 (calls_are pid k input more of.2)

-- the process is down from then on, so no call more has an outcome
no_outcomes : (round input n : ℕ) (x : Value) → outcome_in round input x ≡ None → outcomes_of round input n x ≡ []
no_outcomes round input zero x is = refl
no_outcomes round input (suc n) x is = ap (λ (u : Option Outcome). and_then u (λ o. outcomes_of round input n (after x (call input o)))) is

outcome_first : (o : Outcome) (os : List Outcome) → outcome_before (tried_of (Some o)) os ≡ o ∷ os
outcome_first (outcome.Done r) os = refl
outcome_first outcome.Crashed os = refl
outcome_first (outcome.Ended r) os = refl

one_outcome : (round k input n : ℕ) (h : List HistoryEntry) (t : Tried) (os : List Outcome) (o : Option Outcome) → outcome_in round input (replay h) ≡ o → t ≡ tried_of o
    → outcomes_of round input n (replay (h ++ answered k input t)) ≡ os → outcomes_of round input (suc n) (replay h) ≡ outcome_before t os
one_outcome round k input n h t os None is tried_is rest =
    no_outcomes round input (suc n) (replay h) is
    ∙ sym (ap (λ (x : Tried). outcome_before x os) tried_is
    ∙ (sym rest ∙ (ap (outcomes_of round input n) (down_leaves k input h t tried_is) ∙ no_outcomes round input n (replay h) is)))
one_outcome round k input n h t os (Some o) is tried_is rest =
    ap (λ (u : Option Outcome). and_then u (λ o'. outcomes_of round input n (after (replay h) (call input o')))) is
    ∙ (ap (λ (l : List Outcome). o ∷ l) (ap (outcomes_of round input n) (sym (answer_leaves k input h t (Some o) tried_is)) ∙ rest)
    ∙ sym (ap (λ (x : Tried). outcome_before x os) tried_is ∙ outcome_first o os))

-- the outcomes are those that so many calls have
outcomes_are : (pid : Pid) (k input times : ℕ) (h : List HistoryEntry) (answers : List Answer) → length answers ≡ times → AreOf pid input answers → AnswersAtOnce pid k h answers
    → outcomes_of pid.round input times (replay h) ≡ outcomes_in answers
outcomes_are pid k input zero h [] long of once = refl
outcomes_are pid k input zero h (a ∷ more) long of once = absurd (omega arith)
outcomes_are pid k input (suc n) h [] long of once = absurd (omega arith)
outcomes_are pid k input (suc n) h (a ∷ more) long of once =
    let rest = outcomes_are pid k input n (h ++ answered k a.input a.tried) more (omega arith) of.2 once.1 in
    let rest' : outcomes_of pid.round input n (replay (h ++ answered k input a.tried)) ≡ outcomes_in more =
    subst (λ (i : ℕ). outcomes_of pid.round input n (replay (h ++ answered k i a.tried)) ≡ outcomes_in more) of.0 rest in
    ⊎_elim
    (λ called. one_outcome pid.round k input n h a.tried (outcomes_in more) (outcome_in pid.round input (replay h)) refl
    (subst (λ (i : ℕ). a.tried ≡ tried_of (outcome_in pid.round i (replay h))) of.0 called.1) rest')
    (λ other. absurd (other.0 of.1)) once.0

-- ---- a pass that was lent alone, and is taken back
-- entries of one number alone are its own
own_alone : (k : ℕ) (es : List HistoryEntry) → ((n : ℕ) → n ≢ k → own n es ≡ []) → own k es ≡ es
own_alone k [] none = refl
own_alone k (e ∷ es) none = dite (ℕ_discrete e.by k)
    (λ is.
    let yes : (e.by == k) ≡ true = grind (arith, nat_tests) in
    let rest = own_alone k es (λ n ne.
    let no : (e.by == n) ≡ false = grind (arith, nat_tests) in
    sym (ap (λ (b : Bool). if b then e ∷ own n es else own n es) no) ∙ none n ne) in
    ap (λ (b : Bool). if b then e ∷ own k es else own k es) yes ∙ ap (λ (l : List HistoryEntry). e ∷ l) rest)
    (λ ne.
    let yes : (e.by == e.by) ≡ true = grind (arith, nat_tests) in
    absurd (let gone = sym (ap (λ (b : Bool). if b then e ∷ own e.by es else own e.by es) yes) ∙ none e.by ne in cc))

record TakenBack (pid : Pid) (answers : List Answer) (v both : View) : Type 0 where
  seen_is : seen both pid.slot ≡ seen v pid.slot ++ calls_of (v.count + 1) answers
  once : AnswersAtOnce pid (v.count + 1) (seen v pid.slot) answers
  rest : ByOnePass pid.slot v both

taken_back : (pid : Pid) (v one pass w both : View) (answers : List Answer) → v.lent ≡ [] → Made v one pass
    → HasAnswered pid pass answers w → Joined one w both → TakenBack pid answers v both
taken_back pid v one pass w both answers none made h j = record {
  seen_is = both_is ∙ ap (λ (l : List HistoryEntry). seen v p ++ l) all;
  once = come_at_once pid (v.count + 1) (seen v p) answers (seen w p)
      (subst₂ (λ (n : ℕ) (l : List HistoryEntry). AnswersInTurn pid n l answers (seen w p)) number (made.seen_is p) h.in_turn)
      (there ∙ ap (λ (l : List HistoryEntry). seen v p ++ l) all);
  rest = record {
    number = j.number ∙ made.handler.0;
    count = j.count ∙ made.count;
    lent = j.lent ∙ (ap (λ n. all_but n one.lent) (h.elsewhere.number ∙ number) ∙ (ap (all_but (v.count + 1)) lent ∙ none_left (v.count + 1)));
    found = j.found ∙ made.handler.2;
    others = others;
    mine_is = λ q. j.mine_is q ∙ ap (λ (ps : List Part). (part_of ps q).mine) made.handler.1;
    out_is = λ q. j.out_is q ∙ ap (λ (ps : List Part). (part_of ps q).out) made.handler.1;
    legal = j.legal;
  };
}
  where
    p : ℕ
    p = pid.slot

    longer_is : IsPrefix (seen pass p) (seen w p)
    longer_is = turns_longer pid pass.number (seen pass p) answers (seen w p) h.in_turn

    more : List HistoryEntry
    more = longer_is.0

    number : pass.number ≡ v.count + 1
    number = made.number ∙ made.count

    lent : one.lent ≡ (v.count + 1) ∷ []
    lent = made.lent ∙ (ap (λ n. n ∷ v.lent) made.count ∙ ap (λ ns. (v.count + 1) ∷ ns) none)

    here : (q : ℕ) → seen one q ≡ seen v q
    here q = ap (λ (ps : List Part). (part_of ps q).seen) made.handler.1

    there : seen w p ≡ seen v p ++ more
    there = sym longer_is.1 ∙ ap (λ (l : List HistoryEntry). l ++ more) (made.seen_is p)

    both_is : seen both p ≡ seen v p ++ more
    both_is = j.seen_is p ∙ (ap (λ (l : List HistoryEntry). longer l (seen w p)) (here p) ∙ (ap (longer (seen v p)) there ∙ longer_of (seen v p) (seen v p ++ more) (prefix_more (seen v p) more)))

    of_others : (n : ℕ) → n ≢ v.count + 1 → own n more ≡ []
    of_others n ne =
        let strange : ¬ Contains one.lent n = λ c. ne (sym (only_lent (v.count + 1) n (subst (λ ns. Contains ns n) lent c))) in
        let same : own n (seen both p) ≡ own n (seen v p) = j.settled (made.handler.0 ∙ made.maker) p n strange ∙ ap (own n) (here p) in
        append_nothing (own n (seen v p)) (own n more) (sym (own-append n (seen v p) more) ∙ (ap (own n) (sym both_is) ∙ same))

    of_pass : own pass.number more ≡ calls_of pass.number answers
    of_pass =
        let once = h.once (made.once p ∙ sym (made.mine_is p)) in
        let front : own pass.number (seen pass p ++ more) ≡ own pass.number more =
        own-append pass.number (seen pass p) more ∙ ap (λ (l : List HistoryEntry). l ++ own pass.number more) (made.once p) in
        sym front ∙ (ap (own pass.number) longer_is.1 ∙ (once ∙ (h.mine_is ∙ ap (λ (l : List HistoryEntry). l ++ calls_of pass.number answers) (made.mine_is p))))

    -- nobody else came, so what the pass saw more is its own
    all : more ≡ calls_of (v.count + 1) answers
    all = sym (own_alone (v.count + 1) more of_others) ∙ subst (λ (n : ℕ). own n more ≡ calls_of n answers) number of_pass

    others : (q : ℕ) → q ≢ p → seen both q ≡ seen v q
    others q ne =
        let behind : seen w q ≡ seen v q = ap (λ (x : Part). x.seen) (h.elsewhere.others q ne) ∙ made.seen_is q in
        let begins : IsPrefix (seen v q) (seen v q) = ([], append-nil (seen v q)) in
        j.seen_is q ∙ (ap (λ (l : List HistoryEntry). longer l (seen w q)) (here q) ∙ (ap (longer (seen v q)) behind ∙ longer_of (seen v q) (seen v q) begins))

pub is_flooded : (pid : Pid) (input times : ℕ) (v one pass w both : View) (f : FloodCounts) → v.lent ≡ [] → Made v one pass → HasCalled pid input times pass (Some f) w → Joined one w both
    → IsFlooded pid input times v f both
is_flooded pid input times v one pass w both f none made h j =
    let k = v.count + 1 in
    let before = seen v pid.slot in
    let back = taken_back pid v one pass w both h.answers none made h.answered j in
    let found : outcomes_in h.answers ≡ outcomes_of pid.round input times (replay before) = sym (outcomes_are pid k input times before h.answers h.counted.long h.are_of back.once) in
    record {
      counts = subst (λ (l : List Outcome). Counts times l f) found h.counted.counts;
      seen_is = back.seen_is ∙ ap (λ (l : List HistoryEntry). before ++ l) (calls_are pid k input h.answers h.are_of ∙ ap (calls_with k input) found);
      rest = back.rest;
    }

pub is_broken_off : (pid : Pid) (input times : ℕ) (v one pass w both : View) (counts : Option FloodCounts) → v.lent ≡ [] → Made v one pass → HasCalled pid input times pass counts w → Joined one w both
    → IsBrokenOff pid input times v both
is_broken_off pid input times v one pass w both counts none made h j =
    let k = v.count + 1 in
    let before = seen v pid.slot in
    let n = length h.answers in
    let back = taken_back pid v one pass w both h.answers none made h.answered j in
    let found : outcomes_in h.answers ≡ outcomes_of pid.round input n (replay before) = sym (outcomes_are pid k input n before h.answers refl h.are_of back.once) in
    inr (n, h.most, back.seen_is ∙ ap (λ (l : List HistoryEntry). before ++ l) (calls_are pid k input h.answers h.are_of ∙ ap (calls_with k input) found), back.rest)
