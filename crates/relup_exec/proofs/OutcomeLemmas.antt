-- What comes of a script, by what comes of its instructions.
use Rattle.std.proofs.Common.{◌≡◌, ℕ, ◌≤◌, Bool, true, false, true≢false, Ok, List, [], ◌∷◌, ◌++◌, length, refl, sym, ap, subst, ◌∙◌, inl, inr, append_assoc, append-nil}
use Rattle.std.specs.List.{AllByRecursion}
use Rattle.proc_history.specs.Histories.{replay}
use Rattle.proc_table.specs.Parts.{part_of}
use Rattle.proc_table.specs.Views.{seen}
use Rattle.proc_table.specs.declared.view.View.{View}
use Rattle.held_processes.specs.Course.{on_all}
use Rattle.held_processes.specs.Course.Operation.{pass_point}
use Rattle.held_processes.specs.Following.{AllFollow, AreLeft, AreLonger, AreUntouched, HeldSlots, HoldsNothing, Stand}
use Rattle.held_processes.specs.Operations.{Values, values_seen}
use Rattle.held_processes.proofs.CourseLemmas.{no_block_is_nothing}
use Rattle.relup_instruction.specs.Instruction.{Instruction}
use Rattle.relup_instruction.specs.Instruction.Instruction.{apply, point_of_no_return, remove}
use Rattle.relup_file.specs.Script.{IsRunnable, is_error, is_supported_call}
use Rattle.sup_tree.specs.Tree.{App}
use Rattle.script_progress.specs.Script.{Run, Site, courses_within}
use Rattle.script_progress.specs.Fault.{Cause, fault}
use Rattle.script_progress.specs.Fault.Cause.{no_memory}
use Rattle.relup_exec.specs.Outcome.{ArmedForm, IsArmed, IsPointAt, IsRefused, Ran, RanOne, Start, began_at, past_behind, run_behind, still_early}
use Rattle.script_progress.specs.Steps.{GoesByLooks, HasDone, HasNoFault, IsCarriedOut, IsEarly, IsFault, Past, ProgressForm, TakesSlots}
use Rattle.script_progress.specs.Stops.{takes_memory}
use Rattle.relup_exec.specs.Stepwise.{IsStopped, start_at}
use Rattle.script_progress.proofs.CallLemmas.{error_on_no_child, right_true}
use Rattle.relup_exec.proofs.RowLemmas.{all_front}
use Rattle.relup_exec.proofs.CourseLemmas.{within_adds_no_block}
use Rattle.relup_exec.proofs.QuietLemmas.{early_quiet}
use Rattle.held_processes.proofs.SlotLemmas.{longer_same, longer_still}
use Rattle.relup_exec.proofs.RunLemmas.{ran_later, ran_push_early, ran_push_late, run_push_early, run_push_late, still_before, through_values}

-- one that may stand before the point goes by no look at a slot
takes_none : (i : Instruction) (r : Run) (v w : View) → IsEarly i → TakesSlots i r v w
takes_none (apply c) r v w early = λ child. absurd (true≢false (sym child ∙ error_on_no_child c (right_true (is_supported_call c) (is_error c) early)))
takes_none (remove p) r v w early = absurd (cc early)
takes_none i r v w early = tt

ran_early : (s : Site) (past : Past) (i : Instruction) (v w : View) → IsEarly i → HasNoFault s past.first v w past.run false i → RanOne s past.first past.run false i v w
ran_early s past i v w early sound = (sound, (takes_none i past.run v w early, λ stays. absurd (true≢false (sym stays))))

-- One instruction more was carried out, before the point of no return.
pub run_more_early : (s : Site) (start : Start) (is : List Instruction) (i : Instruction) (a : ProgressForm) (tree : List App) (v w : View) → still_early true is ≡ true → IsEarly i → Ran s start v [] is
    → IsCarriedOut s (past_behind s start [] is) true false i a tree v w
    → Ran s start w [] (is ++ i ∷ []) × HasDone (past_behind s start [] (is ++ i ∷ [])) a tree w
run_more_early s start is i a tree v w before early ran carried = (
  ran_push_early s start.first start.first v w true [] is i (began_at s start) before ran (ran_early s (past_behind s start [] is) i v w early carried.0),
  subst (λ (r : Run). HasDone (record { first = start.first; run = r }) a tree w) (sym (run_push_early s true [] is i (began_at s start) before)) carried.1,
)

-- One instruction more was carried out, after the point of no return.
pub run_more_late : (s : Site) (start : Start) (reported : List Bool) (is : List Instruction) (b : Bool) (i : Instruction) (a : ProgressForm) (tree : List App) (v w : View) → still_early true is ≡ false
    → Ran s start v reported is → IsCarriedOut s (past_behind s start reported is) false b i a tree v w → GoesByLooks (past_behind s start reported is) i (Ok b) v w
    → Ran s start w (reported ++ b ∷ []) (is ++ i ∷ []) × HasDone (past_behind s start (reported ++ b ∷ []) (is ++ i ∷ [])) a tree w
run_more_late s start reported is b i a tree v w late ran carried looked = (
  ran_push_late s start.first start.first v w true reported is b i (began_at s start) late ran (carried.0, looked),
  subst (λ (r : Run). HasDone (record { first = start.first; run = r }) a tree w) (sym (run_push_late s start.first start.first v true reported is b i (began_at s start) late ran)) carried.1,
)

-- the point of no return was passed
pub point_passed : (s : Site) (start : Start) (script : List Instruction) (a : ArmedForm) (hs : HeldSlots) (v w : View) (armed : IsArmed s start script a v)
    → AllFollow start.first (on_all pass_point (run_behind s start [] armed.point.front).courses) hs w → AreLonger v w
    → Ran s start w [] (armed.point.front ++ point_of_no_return ∷ [])
    × HasDone (past_behind s start [] (armed.point.front ++ point_of_no_return ∷ [])) (record { held = hs; fetched = a.fetched; next = a.next }) a.apps w
point_passed s start script a hs v w armed follow longer =
    let front = armed.point.front in
    let r = run_behind s start [] front in
    let early = still_before front armed.point.early in
    let values : r.values ≡ values_seen start.first = through_values s true [] front (began_at s start) in (
      ran_push_early s start.first start.first v w true [] front point_of_no_return (began_at s start) early armed.ran
          ((v, (λ p inside. (armed.follow.each p inside).stand, refl, refl), longer_still v, longer), (tt, λ stays. absurd (true≢false (sym stays)))),
      subst (λ (q : Run). HasDone (record { first = start.first; run = q }) (record { held = hs; fetched = a.fetched; next = a.next }) a.apps w)
          (sym (run_push_early s true [] front point_of_no_return (began_at s start) early))
          (record { follow = follow; fetched = armed.fetched; next = armed.next; apps = armed.apps; values = values }),
    )

-- where the same is seen, the same is left
values_kept : (v w : View) → ((p : ℕ) → seen w p ≡ seen v p) → values_seen w ≡ values_seen v
values_kept v w same = λ j p. replay (same p j)

-- what is seen stays
pub fault_later : (first : View) (s : Site) (v w : View) (r : Run) (i : Instruction) (c : Cause) → ((p : ℕ) → seen w p ≡ seen v p) → IsFault first s v r i c → IsFault first s w r i c
fault_later first s v w r i no_memory same fails = tt
fault_later first s v w r i c same fails = (
  ap (λ (x : Values). fault s x r i) (values_kept v w same) ∙ fails.0,
  λ p inside. subst (Stand first.lent (seen first p) (r.courses p).blocks) (sym (same p)) (fails.1 p inside),
)

-- All before the point was carried out.
pub armed_well : (s : Site) (start : Start) (script : List Instruction) (place room : ℕ) (reported : List Bool) (is : List Instruction) (a : ProgressForm) (tree : List App) (v : View) (point : IsPointAt script place)
    → reported ≡ [] → length script ≤ room → is ≡ point.front → Ran s start v [] is → HasDone (past_behind s start [] is) a tree v
    → IsArmed s start script (record { place = place; reported = reported; room = room; held = a.held; fetched = a.fetched; next = a.next; apps = tree }) v
armed_well s start script place room reported is a tree v point nothing enough same ran done =
    let done' : HasDone (past_behind s start [] point.front) a tree v = subst (λ (front : List Instruction). HasDone (past_behind s start [] front) a tree v) same done in record {
      point = point;
      reported = nothing;
      room = enough;
      ran = subst (Ran s start v []) same ran;
      fetched = done'.fetched;
      next = done'.next;
      apps = done'.apps;
      follow = done'.follow;
      quiet = early_quiet s start point.front point.early;
    }

-- An instruction before the point fails, and what was held went back.
pub refused_well : (s : Site) (start : Start) (script : List Instruction) (place : ℕ) (is : List Instruction) (number : ℕ) (c : Cause) (hs : HeldSlots) (v w : View) (point : IsPointAt script place) → is ≡ point.front
    → (stopped : IsStopped s start is number c hs v) → ((p : ℕ) → seen w p ≡ seen v p) → w.found ≡ v.found
    → AreLeft start.first (courses_within s true stopped.instruction stopped.modules stopped.slot (run_behind s start [] stopped.front)) w → IsRefused s start script number c w
refused_well s start script place is number c hs v w point same stopped kept found left =
    let parts : point.front ≡ stopped.front ++ (stopped.instruction ∷ stopped.at.rest) = sym same ∙ stopped.at.is in
    let early : AllByRecursion IsEarly stopped.front = all_front IsEarly stopped.front (stopped.instruction ∷ stopped.at.rest) (subst (AllByRecursion IsEarly) parts point.early) in
    record {
      front = stopped.front;
      instruction = stopped.instruction;
      at = record {
        rest = stopped.at.rest ++ (point_of_no_return ∷ point.rest);
        is = point.is
            ∙ (ap (λ (front : List Instruction). front ++ (point_of_no_return ∷ point.rest)) parts ∙ append_assoc stopped.front (stopped.instruction ∷ stopped.at.rest) (point_of_no_return ∷ point.rest));
        counted = stopped.at.counted;
      };
      early = early;
      ran = ran_later s start.first start.first v w true [] stopped.front (began_at s start) (longer_same v w kept found) stopped.ran;
      fails = fault_later start.first s v w (run_behind s start [] stopped.front) stopped.instruction c kept stopped.fails;
      asks = λ memory. inr (ap (λ (x : Values). takes_memory s x (run_behind s start [] stopped.front) stopped.instruction) (values_kept v w kept) ∙ stopped.asks memory);
      untouched = no_block_is_nothing start.first (courses_within s true stopped.instruction stopped.modules stopped.slot (run_behind s start [] stopped.front)) w left
          (λ p _. within_adds_no_block s stopped.instruction stopped.modules stopped.slot (run_behind s start [] stopped.front) p ∙ early_quiet s start stopped.front early p);
    }

-- what is so before the first instruction
pub nothing_held : (v : View) → HoldsNothing v → AreUntouched v v
nothing_held v free = record {
  handler = free.handler;
  count = refl;
  lent = refl;
  each = λ p inside. record {
    mine = sym (append-nil (part_of v.parts p).mine);
    stand = ([], record { others = refl; alone = λ none. refl }, sym (append-nil (part_of v.parts p).seen));
    out = free.out p inside;
  };
}

-- Memory was refused before the first instruction.
pub refused_at_first : (s : Site) (apps : List App) (script : List Instruction) (v : View) → IsRunnable script → HoldsNothing v → IsRefused s (start_at v apps) script 1 no_memory v
refused_at_first s apps script v runnable free = go runnable.before runnable.is
  where
    go : (before : List Instruction) → script ≡ before ++ (point_of_no_return ∷ runnable.after) → IsRefused s (start_at v apps) script 1 no_memory v
    go [] e = record {
      front = [];
      instruction = point_of_no_return;
      at = record { rest = runnable.after; is = e; counted = refl };
      early = tt;
      ran = (refl, longer_still v);
      fails = tt;
      asks = λ _. inl (refl, refl);
      untouched = nothing_held v free;
    }
    go (b ∷ bs) e = record {
      front = [];
      instruction = b;
      at = record { rest = bs ++ (point_of_no_return ∷ runnable.after); is = e; counted = refl };
      early = tt;
      ran = (refl, longer_still v);
      fails = tt;
      asks = λ _. inl (refl, refl);
      untouched = nothing_held v free;
    }
