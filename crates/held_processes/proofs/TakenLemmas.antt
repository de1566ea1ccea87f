-- Takes of slots that a call makes: the slot of a process that is looked at is among them.
use Rattle.std.proofs.Common.{◌≡◌, ℕ, Bool, ◌&&◌, true, false, not, List, [], ◌∷◌, ◌++◌, Option, Some, None, refl, ap, sym, subst, ◌∙◌, append-nil, append_assoc}
use mathlib.Core.List.{IsPrefix}
use Rattle.proc_history.specs.Events.{HistoryEntry}
use Rattle.proc_history.proofs.Prefixes.{prefix_more, prefix_trans}
use Rattle.proc_table.specs.declared.pid.Pid.{Pid}
use Rattle.proc_table.specs.declared.view.View.{View}
use Rattle.proc_table.specs.Holds.{Holding, Released}
use Rattle.proc_table.specs.Waits.{HasTaken, HeldAtLast, at_slot}
use Rattle.proc_table.proofs.WaitLemmas.{since}
use Rattle.started_members.specs.declared.looks.Kept.{Kept}
use Rattle.started_members.specs.declared.member.MemberState.{MemberState}
use Rattle.started_members.specs.declared.member.MemberState.TheVariants.{Ended, Process, Supervisor}
use Rattle.started_members.specs.Looks.{LookedAt}
use Rattle.started_members.specs.Members.{state_process}
use Rattle.started_members.specs.Places.{Place}
use Rattle.held_processes.specs.Children.{IsChildTaken, IsStateTaken}
use Rattle.held_processes.specs.Course.{Courses, Hold, ModulesBySlot, runs}
use Rattle.held_processes.specs.Course.Hold.{not_held, until_point, until_resumed}
use Rattle.held_processes.specs.Following.{AreLonger}
use Rattle.held_processes.specs.Operations.{is_free_user, is_held}

-- A slot that is held was taken.
pub taken_at_last : (p : ℕ) (v : View) (h : Holding) (u : View) → HeldAtLast p v h u → HasTaken p v u
taken_at_last p v h u at =
    let f = (since p v h u at).found in record { before = at_slot p f.words; is = ([], append-nil ((v.found ++ at_slot p f.words) ++ (p, 0) ∷ []) ∙ sym f.is) }

-- A slot that was held was taken, also after a slot was given back.
pub held_taken : (p q : ℕ) (es : List HistoryEntry) (v : View) (h : Holding) (u w : View) → HeldAtLast p v h u → Released q es u w → HasTaken p v w
held_taken p q es v h u w at r =
    let t = taken_at_last p v h u at in record { before = t.before; is = subst (IsPrefix ((v.found ++ t.before) ++ (p, 0) ∷ [])) (sym r.found) t.is }

-- what takes found before stays in front
pub taken_found : (p : ℕ) (v w : View) → HasTaken p v w → IsPrefix v.found w.found
taken_found p v w t =
    prefix_trans v.found ((v.found ++ t.before) ++ (p, 0) ∷ []) w.found
    (prefix_trans v.found (v.found ++ t.before) ((v.found ++ t.before) ++ (p, 0) ∷ []) (prefix_more v.found t.before) (prefix_more (v.found ++ t.before) ((p, 0) ∷ []))) t.is

-- a take from before, and one from later on
pub taken_later : (p : ℕ) (v u w : View) → HasTaken p v u → AreLonger u w → HasTaken p v w
taken_later p v u w t more = record { before = t.before; is = prefix_trans ((v.found ++ t.before) ++ (p, 0) ∷ []) u.found w.found t.is more.takes }

pub taken_since : (p : ℕ) (v u w : View) → AreLonger v u → HasTaken p u w → HasTaken p v w
taken_since p v u w more t =
    let front : (v.found ++ (more.takes.0 ++ t.before)) ≡ (u.found ++ t.before) = sym (append_assoc v.found more.takes.0 t.before) ∙ ap (λ (l : List (ℕ × ℕ)). l ++ t.before) more.takes.1 in
    record { before = more.takes.0 ++ t.before; is = subst (λ (l : List (ℕ × ℕ)). IsPrefix (l ++ (p, 0) ∷ []) w.found) (sym front) t.is }

-- a look takes the slot
pub look_taken : (kept : Kept) (pid : Pid) (b : Bool) (v look w : View) → LookedAt kept pid b v look → AreLonger look w → HasTaken pid.slot v w
look_taken kept pid b v look w (h, u, at, is, r) more = taken_later pid.slot v look w (held_taken pid.slot pid.slot [] v h u look at r) more

-- what stands for a child, where it is no process
pub quiet_taken : (cs : Courses) (m : MemberState) (v w : View) → state_process m ≡ None → IsStateTaken cs m v w
quiet_taken cs Ended v w none = tt
quiet_taken cs (Process q) v w none = absurd (cc none)
quiet_taken cs (Supervisor m) v w none = tt

-- the slot of a child was taken also where more takes came since
state_later : (cs : Courses) (m : MemberState) (v u w : View) → IsStateTaken cs m v u → AreLonger u w → IsStateTaken cs m v w
state_later cs Ended v u w t more = tt
state_later cs (Process q) v u w t more = λ free. taken_later q.pid.slot v u w (t free) more
state_later cs (Supervisor m) v u w t more = tt

pub child_later : (cs : Courses) (o : Option Place) (v u w : View) → IsChildTaken cs o v u → AreLonger u w → IsChildTaken cs o v w
child_later cs None v u w t more = tt
child_later cs (Some p) v u w t more = state_later cs p.child.state v u w t more

-- a process that isn't held
free_hold : (k : Hold) → not (is_held k) ≡ true → k ≡ not_held
free_hold not_held is = refl
free_hold until_point is = absurd (cc is)
free_hold until_resumed is = absurd (cc is)

pub free_user : (users : ModulesBySlot) (name : List ℕ) (cs : Courses) (p : ℕ) → is_free_user users name cs p ≡ true → (cs p).hold ≡ not_held
free_user users name cs p is = by (runs name (users p)) is
  where
    by : (b : Bool) → (b && not (is_held (cs p).hold)) ≡ true → (cs p).hold ≡ not_held
    by true is = free_hold (cs p).hold is
    by false is = absurd (cc is)
