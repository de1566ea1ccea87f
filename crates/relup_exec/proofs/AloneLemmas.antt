-- The one outcome of a script that the handler carries out alone.
use Rattle.std.proofs.Common.{◌≡◌, ◌≢◌, ℕ, ◌+◌, ◌<◌, Bool, true, false, ◌&&◌, ◌||◌, not, if◌then◌else◌, List, [], ◌∷◌, ◌++◌, length, Option, Some, None, is_some, refl, sym, ap, ap₂, ◌∙◌, arith, append-nil}
use Rattle.worker_table.specs.Table.{OldVersion}
use Rattle.proc_history.specs.Changes.{finds_row}
use Rattle.proc_history.specs.Histories.{replay, replay_from}
use Rattle.proc_history.specs.Values.{nothing, up_at}
use Rattle.proc_history.proofs.Entries.{replay-append}
use Rattle.proc_table.specs.declared.view.View.{View}
use Rattle.proc_table.specs.Agrees.{slots}
use Rattle.proc_table.specs.Views.{seen}
use Rattle.relup_instruction.specs.declared.instruction.Direction.{Direction}
use Rattle.relup_instruction.specs.Instruction.{ChangeForm, Instruction}
use Rattle.relup_instruction.specs.Instruction.Instruction.{apply, code_change, point_of_no_return, remove}
use Rattle.relup_file.specs.Script.{is_error, is_point}
use Rattle.started_members.specs.declared.looks.Kept.{Kept}
use Rattle.started_members.specs.declared.looks.Stay.{Stay}
use Rattle.started_members.specs.declared.looks.Stay.TheVariants.{Up, UpOrTemporary}
use Rattle.started_members.specs.declared.member.MemberState.{MemberState}
use Rattle.started_members.specs.declared.member.MemberState.TheVariants.{Ended, Process, Supervisor}
use Rattle.started_members.specs.Places.{Place}
use Rattle.sup_tree.specs.Children.{child_place}
use Rattle.started_members.specs.Looks.{kept_at, process_stays}
use Rattle.sup_tree.specs.Tree.{supervises}
use Rattle.held_processes.specs.Children.{child_stays, state_stays}
use Rattle.held_processes.specs.Course.{Courses, added, runs}
use Rattle.held_processes.specs.Operations.{Values, is_held_user, lacks_row_at, now_in, uses_up, values_seen}
use Rattle.held_processes.proofs.AnyLemmas.{any_alike}
use Rattle.held_processes.proofs.StandLemmas.{stand_alone}
use Rattle.script_progress.specs.Calls.{ChildCall, app_call, child_call, is_on_child}
use Rattle.script_progress.specs.Calls.ChildCall.{terminates, deletes, restarts, nothing as no_call}
use Rattle.script_progress.specs.Script.{Run, Site, changed_once, child_stays_at, mode_of, old_version, run_after, stays_at, modules_by_slot_in}
use Rattle.script_progress.specs.Fault.{Cause, app_call_fault, change_fault, child_call_fault, error_cause, fault, is_stuck, restart_call_fault, super_fault_or}
use Rattle.script_progress.specs.Fault.Cause.{in_use, no_change, no_memory}
use Rattle.script_progress.specs.Steps.{IsFault, IsSeen, HasNoFaultAt}
use Rattle.relup_exec.specs.Outcome.{ArmedForm, IsArmed, IsInstructionAt, RanAll, Start, began_at, run_behind, run_through, still_early}
use Rattle.relup_exec.specs.Alone.{HasOneOutcome, Outcome, fails_at, outcome, outcome_from, step_alone, unless_fault, values_alone}
use Rattle.relup_exec.specs.Alone.Outcome.{refuses}
use Rattle.relup_exec.proofs.RunLemmas.{step_values, still_before, through_values}

-- The values are alike: in each slot they leave the same.
abbrev pub Alike : Values → Values → Type 0
Alike f g = (p : ℕ) → p < slots → f p ≡ g p

pub row_alike : (old : OldVersion) (c : ChangeForm) (f g : Values) (r : Run) → Alike f g → (p : ℕ) → p < slots
    → lacks_row_at old c.extra f (modules_by_slot_in r) c.name r.courses p ≡ lacks_row_at old c.extra g (modules_by_slot_in r) c.name r.courses p
row_alike old c f g r same p inside =
    ap (λ x. is_held_user (modules_by_slot_in r) c.name r.courses p && not (finds_row old c.extra (replay_from x (r.courses p).pending))) (same p inside)

pub stuck_alike : (old : Option OldVersion) (c : ChangeForm) (f g : Values) (r : Run) → Alike f g → is_stuck old c f r ≡ is_stuck old c g r
stuck_alike None c f g r same = refl
stuck_alike (Some old) c f g r same = any_alike _ _ slots (row_alike old c f g r same)

change_alike : (s : Site) (mode : Direction) (cs : List ChangeForm) (f g : Values) (r : Run) → Alike f g → change_fault s mode cs f r ≡ change_fault s mode cs g r
change_alike s mode [] f g r same = refl
change_alike s mode (c ∷ cs) f g r same =
    ap₂ (λ (b : Bool) (o : Option Cause). if b then Some no_change else o) (stuck_alike (old_version s mode c.name r) c f g r same)
    (change_alike s mode cs f g (changed_once s mode c r) same)

pub uses_alike : (name : List ℕ) (f g : Values) (r : Run) → Alike f g → uses_up f (modules_by_slot_in r) name r.courses ≡ uses_up g (modules_by_slot_in r) name r.courses
uses_alike name f g r same =
    any_alike _ _ slots (λ p inside. ap (λ x. runs name (modules_by_slot_in r p) && is_some (up_at (replay_from x (r.courses p).pending).now)) (same p inside))

-- a child stays so by what is left in the slots
state_alike : (kept : Kept) (f g : Values) (m : MemberState) → Alike f g → state_stays kept f m ≡ state_stays kept g m
state_alike kept f g Ended same = refl
state_alike kept f g (Process q) same = ap (process_stays kept q.pid) (same q.pid.slot q.pid.inside)
state_alike kept f g (Supervisor m) same = refl

pub place_alike : (stay : Stay) (f g : Values) (o : Option Place) → Alike f g → child_stays stay f o ≡ child_stays stay g o
place_alike stay f g None same = refl
place_alike stay f g (Some p) same = state_alike (kept_at stay p.child.restart) f g p.child.state same

pub now_alike : (f g : Values) (cs : Courses) → Alike f g → Alike (now_in f cs) (now_in g cs)
now_alike f g cs same p inside = ap (λ x. replay_from x (cs p).pending) (same p inside)

pub child_alike : (f g : Values) (c : ChildCall) (r : Run) → Alike f g → child_stays_at f c r ≡ child_stays_at g c r
child_alike f g (terminates super id) r same = refl
child_alike f g (deletes super id) r same = place_alike Up (now_in f r.courses) (now_in g r.courses) (child_place super id r.apps) (now_alike f g r.courses same)
child_alike f g (restarts super id) r same = place_alike UpOrTemporary (now_in f r.courses) (now_in g r.courses) (child_place super id r.apps) (now_alike f g r.courses same)
child_alike f g no_call r same = refl

pub stays_alike : (f g : Values) (i : Instruction) (r : Run) → Alike f g → stays_at f i r ≡ stays_at g i r
stays_alike f g (apply c) r same = ap (λ (b : Bool). if is_on_child c then b else false) (child_alike f g (child_call c) r same)
stays_alike f g i r same = refl

child_fault_alike : (f g : Values) (c : ChildCall) (r : Run) → Alike f g → child_call_fault f c r ≡ child_call_fault g c r
child_fault_alike f g (terminates super id) r same = refl
child_fault_alike f g (deletes super id) r same = refl
child_fault_alike f g (restarts super id) r same =
    ap (λ (b : Bool). super_fault_or super r (restart_call_fault b super id r)) (child_alike f g (restarts super id) r same)
child_fault_alike f g no_call r same = refl

-- an instruction fails so by what is left in the slots
fault_alike : (s : Site) (f g : Values) (r : Run) (i : Instruction) → Alike f g → fault s f r i ≡ fault s g r i
fault_alike s f g r (code_change c) same = change_alike s (mode_of c.mode) c.changes f g r same
fault_alike s f g r (remove q) same = ap (λ (b : Bool). if supervises q.name r.apps || b then Some in_use else None) (uses_alike q.name f g r same)
fault_alike s f g r (apply c) same =
    ap (λ (o : Option Cause). if is_error c then error_cause c.args else if is_on_child c then o else app_call_fault s (app_call c) r) (child_fault_alike f g (child_call c) r same)
fault_alike s f g r i same = refl

-- what the handler has seen alone
pub seen_alone : (first : View) (r : Run) (v : View) → first.lent ≡ [] → r.values ≡ values_seen first → IsSeen first r v → Alike (values_seen v) (values_alone r)
seen_alone first r v none values at p inside =
    ap replay (stand_alone first.lent (seen first p) (r.courses p).blocks (seen v p) none (at p inside))
    ∙ (replay-append nothing (seen first p) (added (r.courses p).blocks)
    ∙ ap (λ (x : Values). replay_from (x p) (added (r.courses p).blocks)) (sym values))

fault_alone : (first : View) (s : Site) (r : Run) (v : View) (i : Instruction) → first.lent ≡ [] → r.values ≡ values_seen first → IsSeen first r v → fault s (values_seen v) r i ≡ fault s (values_alone r) r i
fault_alone first s r v i none values at = fault_alike s (values_seen v) (values_alone r) r i (seen_alone first r v none values at)

-- one instruction that was carried out, of which this is reported
step_is : (s : Site) (first u : View) (e b : Bool) (i : Instruction) (rest : List Instruction) (n : ℕ) (r : Run) → first.lent ≡ [] → r.values ≡ values_seen first → HasNoFaultAt s first r b i u
    → outcome_from s e n (i ∷ rest) r ≡ outcome_from s (e && not (is_point i)) (n + 1) rest (run_after s e b i r)
step_is s first u e b i rest n r none values sound =
    let here : fault s (values_alone r) r i ≡ None = sym (fault_alone first s r u i none values sound.0) ∙ sound.1 in
    let reported : stays_at (values_alone r) i r ≡ b = sym (sound.2 ∙ stays_alike (values_seen u) (values_alone r) i r (seen_alone first r u none values sound.0)) in
    ap (λ f. unless_fault f e (n + 1) (outcome_from s (e && not (is_point i)) (n + 1) rest (step_alone s e i r))) here
    ∙ ap (λ (c : Bool). outcome_from s (e && not (is_point i)) (n + 1) rest (run_after s e c i r)) reported

-- instructions that were carried out
ran_alone : (s : Site) (first since now : View) (e : Bool) (reported : List Bool) (is rest : List Instruction) (n : ℕ) (r : Run) → first.lent ≡ [] → r.values ≡ values_seen first → RanAll s first since now e reported is r
    → outcome_from s e n (is ++ rest) r ≡ outcome_from s (still_early e is) (n + length is) rest (run_through s e reported is r)
ran_alone s first since now e reported [] rest n r none values ran = ap (λ m. outcome_from s e m rest r) (omega arith)
ran_alone s first since now true reported (i ∷ is) rest n r none values ran =
    let e' = not (is_point i) in
    let r' = run_after s true false i r in
    step_is s first ran.3.0.0 true false i (is ++ rest) n r none values ran.3.0.1
    ∙ (ran_alone s first ran.1 now e' reported is rest (n + 1) r' none (step_values s true false i r ∙ values) ran.4
    ∙ ap (λ m. outcome_from s (still_early e' is) m rest (run_through s e' reported is r')) (omega arith))
ran_alone s first since now false [] (i ∷ is) rest n r none values ran = absurd ran
ran_alone s first since now false (b ∷ reported) (i ∷ is) rest n r none values ran =
    let r' = run_after s false b i r in
    step_is s first ran.3.0.0 false b i (is ++ rest) n r none values ran.3.0.1
    ∙ (ran_alone s first ran.1 now false reported is rest (n + 1) r' none (step_values s false b i r ∙ values) ran.4
    ∙ ap (λ m. outcome_from s (still_early false is) m rest (run_through s false reported is r')) (omega arith))

-- a cause that isn't memory
pub fault_is : (first : View) (s : Site) (v : View) (r : Run) (i : Instruction) (c : Cause) → c ≢ no_memory → IsFault first s v r i c → (fault s (values_seen v) r i ≡ Some c) × IsSeen first r v
fault_is first s v r i no_memory other fails = absurd (other refl)
fault_is first s v r i c other fails = fails

-- the first instruction that fails
failed_alone : (s : Site) (start : Start) (script : List Instruction) (number : ℕ) (c : Cause) (reported : List Bool) (front : List Instruction) (i : Instruction) (now v : View) → start.first.lent ≡ [] → c ≢ no_memory
    → IsInstructionAt script number front i → RanAll s start.first start.first now true reported front (began_at s start) → IsFault start.first s v (run_behind s start reported front) i c
    → outcome s (began_at s start) script ≡ fails_at (still_early true front) number c
failed_alone s start script number c reported front i now v none other at ran fails =
    let r = run_behind s start reported front in
    let is = fault_is start.first s v r i c other fails in
    let values : r.values ≡ values_seen start.first = through_values s true reported front (began_at s start) in
    ap (outcome s (began_at s start)) at.is
    ∙ (ran_alone s start.first start.first now true reported front (i ∷ at.rest) 0 (began_at s start) none refl ran
    ∙ (ap (λ f. unless_fault f (still_early true front) (0 + length front + 1) (outcome_from s (still_early true front && not (is_point i)) (0 + length front + 1) at.rest (step_alone s (still_early true front) i r)))
    (sym (fault_alone start.first s r v i none values is.1) ∙ is.0)
    ∙ ap (λ n. fails_at (still_early true front) n c) (omega (arith, at.counted))))

-- After the point of no return no instruction is refused.
never_refused : (s : Site) (n : ℕ) (is : List Instruction) (r : Run) (m : ℕ) (c : Cause) → outcome_from s false n is r ≡ refuses m c → ⊥
never_refused s n [] r m c e = absurd cc
never_refused s n (i ∷ is) r m c e = go (fault s (values_alone r) r i) e (never_refused s (n + 1) is (step_alone s false i r) m c)
  where
    later : Outcome
    later = outcome_from s false (n + 1) is (step_alone s false i r)

    go : (o : Option Cause) → unless_fault o false (n + 1) later ≡ refuses m c → (later ≡ refuses m c → ⊥) → ⊥
    go None same never = never same
    go (Some d) same never = absurd cc

-- A script that has come to its point of no return is not refused.
armed_alone : (s : Site) (start : Start) (script : List Instruction) (a : ArmedForm) (v : View) → start.first.lent ≡ [] → IsArmed s start script a v
    → (m : ℕ) (c : Cause) → outcome s (began_at s start) script ≡ refuses m c → ⊥
armed_alone s start script a v none armed m c e =
    let front = armed.point.front in
    let rest = point_of_no_return ∷ armed.point.rest in
    let r = run_behind s start [] front in
    let there : outcome s (began_at s start) script ≡ outcome_from s true (0 + length front) rest r =
    ap (outcome s (began_at s start)) armed.point.is
    ∙ (ran_alone s start.first start.first v true [] front rest 0 (began_at s start) none refl armed.ran
    ∙ ap (λ early. outcome_from s early (0 + length front) rest r) (still_before front armed.point.early)) in
    never_refused s (0 + length front + 1) armed.point.rest (step_alone s true point_of_no_return r) m c (sym there ∙ e)

pub has_one_outcome : HasOneOutcome
has_one_outcome = record {
  finished = λ s start script loaded apps v none done.
      ap (outcome s (began_at s start)) (sym (append-nil script)) ∙ ran_alone s start.first start.first v true done.reported script [] 0 (began_at s start) none refl done.ran;
  armed = armed_alone;
  refused = λ s start script number c v none other is.
      failed_alone s start script number c [] is.front is.instruction v v none other is.at is.ran is.fails ∙ ap (λ e. fails_at e number c) (still_before is.front is.early);
  broken = λ s start script number c v none other is.
      failed_alone s start script number c is.reported is.front is.instruction is.began is.then_view none other is.at is.ran is.fails ∙ ap (λ e. fails_at e number c) is.late;
}
