-- What one answer more makes of the counts, and of what the worker of a flood has done.
use Rattle.std.proofs.Common.{◌≡◌, ◌<◌, ◌≤◌, ℕ, ◌+◌, List, [], ◌∷◌, ◌++◌, length, refl, ap, sym, subst, subst₂, ◌∙◌, inl, arith, append-nil, length-append, Some, None}
use Rattle.proc_history.specs.declared.value.Outcome.{Outcome}
use Rattle.proc_history.specs.declared.value.Outcome.TheVariants as outcome
use Rattle.proc_table.specs.declared.pass.Tried.{Tried}
use Rattle.proc_table.specs.declared.pass.Tried.TheVariants as tried
use Rattle.proc_table.specs.declared.pid.Pid.{Pid}
use Rattle.proc_table.specs.declared.view.View.{View}
use Rattle.proc_table.specs.Waits.{AnswersAtLast, IsAnswer}
use Rattle.proc_workers.specs.declared.floods.FloodCounts.{FloodCounts}
use Rattle.proc_workers.specs.declared.note.Answer.{Answer}
use Rattle.proc_workers.specs.declared.note.Job.{Job}
use Rattle.proc_workers.specs.Counted.{AreCounted, AreOf, HasCalled, HasCounted, HasRoomForOne, noted, outcome_before, outcomes_in}
use Rattle.proc_workers.specs.Floods.{Counts, crashed_in, done_in, ended_in}
use Rattle.proc_workers.specs.Processes.{IsProcess}
use Rattle.proc_workers.proofs.WorkLemmas.{answered_more, answered_nothing}

before_more : (t : Tried) (os more : List Outcome) → outcome_before t (os ++ more) ≡ outcome_before t os ++ more
before_more (tried.Done r) os more = refl
before_more tried.Crashed os more = refl
before_more (tried.Ended r) os more = refl
before_more tried.Down os more = refl
before_more tried.Busy os more = refl
before_more tried.Held os more = refl

outcomes_more : (xs : List Answer) (a : Answer) → outcomes_in (xs ++ a ∷ []) ≡ outcomes_in xs ++ outcome_before a.tried []
outcomes_more [] a = refl
outcomes_more (x ∷ xs) a = ap (outcome_before x.tried) (outcomes_more xs a) ∙ before_more x.tried (outcomes_in xs) (outcome_before a.tried [])

of_more : (pid : Pid) (input : ℕ) (xs : List Answer) (a : Answer) → AreOf pid input xs → a.input ≡ input → IsProcess pid a.pid → AreOf pid input (xs ++ a ∷ [])
of_more pid input [] a of is names = (is, names, tt)
of_more pid input (x ∷ xs) a of is names = (of.0, of.1, of_more pid input xs a of.2 is names)

done_more : (os more : List Outcome) → done_in (os ++ more) ≡ done_in os + done_in more
done_more [] more = omega arith
done_more (outcome.Done r ∷ os) more = let e = done_more os more in omega arith
done_more (outcome.Crashed ∷ os) more = done_more os more
done_more (outcome.Ended r ∷ os) more = done_more os more

crashed_more : (os more : List Outcome) → crashed_in (os ++ more) ≡ crashed_in os + crashed_in more
crashed_more [] more = omega arith
crashed_more (outcome.Crashed ∷ os) more = let e = crashed_more os more in omega arith
crashed_more (outcome.Done r ∷ os) more = crashed_more os more
crashed_more (outcome.Ended r ∷ os) more = crashed_more os more

ended_more : (os more : List Outcome) → ended_in (os ++ more) ≡ ended_in os + ended_in more
ended_more [] more = omega arith
ended_more (outcome.Ended r ∷ os) more = let e = ended_more os more in omega arith
ended_more (outcome.Done r ∷ os) more = ended_more os more
ended_more (outcome.Crashed ∷ os) more = ended_more os more

counts_more : (t : Tried) (n : ℕ) (os : List Outcome) (f : FloodCounts) → IsAnswer t → Counts n os f → Counts (n + 1) (os ++ outcome_before t []) (noted t f)
counts_more (tried.Done r) n os f answer c =
    let more = outcome.Done r ∷ [] in
    let a = done_more os more in
    let b = crashed_more os more in
    let d = ended_more os more in
    let l = length-append os more in
    record { done = omega (arith, a, c.done); crashed = omega (arith, b, c.crashed); ended = omega (arith, d, c.ended); down = omega (arith, l, c.down) }
counts_more tried.Crashed n os f answer c =
    let more = outcome.Crashed ∷ [] in
    let a = done_more os more in
    let b = crashed_more os more in
    let d = ended_more os more in
    let l = length-append os more in
    record { done = omega (arith, a, c.done); crashed = omega (arith, b, c.crashed); ended = omega (arith, d, c.ended); down = omega (arith, l, c.down) }
counts_more (tried.Ended r) n os f answer c =
    let more = outcome.Ended r ∷ [] in
    let a = done_more os more in
    let b = crashed_more os more in
    let d = ended_more os more in
    let l = length-append os more in
    record { done = omega (arith, a, c.done); crashed = omega (arith, b, c.crashed); ended = omega (arith, d, c.ended); down = omega (arith, l, c.down) }
counts_more tried.Down n os f answer c =
    let same : os ++ [] ≡ os = append-nil os in
    let long = c.down in
    subst (λ (l : List Outcome). Counts (n + 1) l (noted tried.Down f)) (sym same) (record { done = c.done; crashed = c.crashed; ended = c.ended; down = omega arith })
counts_more tried.Busy n os f answer c = absurd answer
counts_more tried.Held n os f answer c = absurd answer

pub one_counted : (pid : Pid) (input n : ℕ) (xs : List Answer) (f : FloodCounts) (a : Answer) → AreCounted pid input n xs f → a.input ≡ input → IsProcess pid a.pid → IsAnswer a.tried
    → AreCounted pid input (n + 1) (xs ++ a ∷ []) (noted a.tried f)
one_counted pid input n xs f a c is names answer = record {
  long = let l = length-append xs (a ∷ []) in let was = c.long in omega arith;
  are_of = of_more pid input xs a c.are_of is names;
  counts = subst (λ (l : List Outcome). Counts (n + 1) l (noted a.tried f)) (sym (outcomes_more xs a)) (counts_more a.tried n (outcomes_in xs) f answer c.counts);
}

done_short : (os : List Outcome) → done_in os ≤ length os
done_short [] = omega arith
done_short (outcome.Done r ∷ os) = let e = done_short os in omega arith
done_short (outcome.Crashed ∷ os) = let e = done_short os in omega arith
done_short (outcome.Ended r ∷ os) = let e = done_short os in omega arith

crashed_short : (os : List Outcome) → crashed_in os ≤ length os
crashed_short [] = omega arith
crashed_short (outcome.Done r ∷ os) = let e = crashed_short os in omega arith
crashed_short (outcome.Crashed ∷ os) = let e = crashed_short os in omega arith
crashed_short (outcome.Ended r ∷ os) = let e = crashed_short os in omega arith

ended_short : (os : List Outcome) → ended_in os ≤ length os
ended_short [] = omega arith
ended_short (outcome.Done r ∷ os) = let e = ended_short os in omega arith
ended_short (outcome.Crashed ∷ os) = let e = ended_short os in omega arith
ended_short (outcome.Ended r ∷ os) = let e = ended_short os in omega arith

-- none is greater than the number of answers
pub room_for_one : (pid : Pid) (input n : ℕ) (xs : List Answer) (f : FloodCounts) → AreCounted pid input n xs f → n < 4294967295 → HasRoomForOne f
room_for_one pid input n xs f c lt =
    let os = outcomes_in xs in
    let a = done_short os in
    let b = crashed_short os in
    let d = ended_short os in
    let long = c.counts.down in
    record { done = omega (arith, a, c.counts.done, long); crashed = omega (arith, b, c.counts.crashed, long); ended = omega (arith, d, c.counts.ended, long); down = omega arith }

-- ---- the worker of a flood
pub none_counted : (pid : Pid) (input : ℕ) (v : View) → HasCounted pid input 0 v (record { done = 0; crashed = 0; ended = 0; down = 0 }) v
none_counted pid input v = record {
  answers = [];
  answered = answered_nothing pid v;
  counted = record { long = refl; are_of = tt; counts = record { done = refl; crashed = refl; ended = refl; down = refl } };
}

pub call_counted : (pid : Pid) (input n : ℕ) (v u w : View) (f : FloodCounts) (j : Job) (t : Tried) → HasCounted pid input n v f u → j.input ≡ input → IsProcess pid j.pid
    → AnswersAtLast j.pid.slot j.pid.round j.input u t w → HasCounted pid input (n + 1) v (noted t f) w
call_counted pid input n v u w f j t h is names at =
    let a : Answer = record { number = j.number; pid = j.pid; input = j.input; tried = t } in
    let here : AnswersAtLast pid.slot pid.round j.input u t w = subst₂ (λ (p round : ℕ). AnswersAtLast p round j.input u t w) names.0 names.1 at in
    record {
      answers = h.answers ++ a ∷ [];
      answered = answered_more pid v h.answers u a j w h.answered refl (inl (names, here));
      counted = one_counted pid input n h.answers f a h.counted is names at.is_answer;
    }

pub stops_early : (pid : Pid) (input n times : ℕ) (v : View) (f : FloodCounts) (w : View) → HasCounted pid input n v f w → n ≤ times → HasCalled pid input times v None w
stops_early pid input n times v f w h le = record {
  answers = h.answers;
  answered = h.answered;
  are_of = h.counted.are_of;
  most = let long = h.counted.long in omega arith;
  counted = tt;
}

pub all_called : (pid : Pid) (input times : ℕ) (v : View) (f : FloodCounts) (w : View) → HasCounted pid input times v f w → HasCalled pid input times v (Some f) w
all_called pid input times v f w h = record {
  answers = h.answers;
  answered = h.answered;
  are_of = h.counted.are_of;
  most = let long = h.counted.long in omega arith;
  counted = h.counted;
}
