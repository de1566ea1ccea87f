-- The courses that the handler follows where a child of a supervisor begins again, or doesn't.
use Rattle.std.proofs.Common.{◌≡◌, ◌≢◌, ℕ, ◌<◌, ◌≤◌, ◌==◌, Bool, true, false, true≢false, if◌then◌else◌, List, [], length, Option, Some, None, Result, Ok, Err, refl, ap, sym, subst, ◌∙◌}
use Rattle.proc_history.specs.Events.Event.{given_up}
use Rattle.proc_table.specs.declared.pid.Pid.{Pid}
use Rattle.proc_table.specs.declared.view.View.{View}
use Rattle.proc_table.specs.Waits.{HasTaken}
use Rattle.mod_table.specs.Tables.{Tables}
use Rattle.sup_tree.specs.declared.error.RestartError.{RestartError}
use Rattle.sup_tree.specs.declared.error.RestartError.TheVariants.{NoSuper, NoTable, Unsupported, NoSlot, NoMemory}
use Rattle.started_members.specs.declared.looks.Kept.{Kept}
use Rattle.started_members.specs.declared.looks.Stay.TheVariants.{UpOrTemporary}
use Rattle.started_members.specs.declared.member.MemberState.{MemberState}
use Rattle.started_members.specs.declared.member.MemberState.TheVariants.{Ended, Process, Supervisor}
use Rattle.started_members.specs.declared.member.Member.{Member}
use Rattle.started_members.specs.declared.member.StartedProcess.{StartedProcess}
use Rattle.started_members.specs.Places.{ChildLookedAt, Place, in_place}
use Rattle.sup_tree.specs.Children.{apps_with, child_place, has_one_supervisor}
use Rattle.started_members.specs.Looks.{LookedAt, StateLookedAt, kept_at}
use Rattle.sup_tree.specs.Restarts.{HasNoSlot, HasRestarted, RestartsChild, RestartsUnless, super_app}
use Rattle.started_members.specs.Begins.{restart_members, members_at}
use Rattle.started_members.specs.Ends.{MemberEnded, stands}
use Rattle.sup_tree.specs.Tree.{App}
use Rattle.started_members.specs.Members.{pids_of, process_and, process_in, state_process}
use Rattle.held_processes.specs.declared.children.HeldEnd.{HeldEnd}
use Rattle.held_processes.specs.declared.children.HeldEnd.TheVariants.{Stays, GivenUp, NotHeld}
use Rattle.held_processes.specs.declared.restarts.NotRestarted.{NotRestarted}
use Rattle.held_processes.specs.Applications.{all_stopped, ended_at, known, scene_at}
use Rattle.held_processes.specs.Children.{AreSeen, ChildEndsHeld, IsStateTaken, ProcessEndsHeld, StateEndsHeld, state_stays}
use Rattle.held_processes.specs.Course.{Courses, add_alone}
use Rattle.held_processes.specs.Following.{AllFollow, AreLonger, Followed, HeldSlots}
use Rattle.held_processes.specs.Operations.{Values, give_up_at, is_held, now_in, values_seen}
use Rattle.held_processes.specs.Restarts.{IsKeptIn, IsNotRestartedIn, IsRestartedIn, IsWhyItDidNot, RestartsIn, child_ended, gives_up, is_held_state, restart_starts, was_given_up}
use Rattle.held_processes.proofs.ApplicationLemmas.{began_all, began_in_room, free_there, is_slot, legal_behind}
use Rattle.held_processes.proofs.ChangeLemmas.{really_held}
use Rattle.held_processes.proofs.ChildLemmas.{NotStaying, given, given_up_gone, later_stay, looked_follow, seen_where}
use Rattle.held_processes.proofs.FollowLemmas.{follow_same}
use Rattle.held_processes.proofs.LongerLemmas.{began_longer, look_longer}
use Rattle.held_processes.proofs.RoundLemmas.{AllLegal, free_is}
use Rattle.held_processes.proofs.SlotLemmas.{longer_both, longer_still}
use Rattle.held_processes.proofs.TakenLemmas.{look_taken}

-- an end adds nothing to a process that doesn't stand
ended_nothing : (values : Values) (pid : Pid) (cs : Courses) → stands pid (known values cs pid.slot) ≡ false → (p : ℕ) → ended_at values pid cs p ≡ cs p
ended_nothing values pid cs gone p = by (p == pid.slot) refl
  where
    by : (b : Bool) → (p == pid.slot) ≡ b → (if b then (if stands pid (known values cs p) then add_alone given_up (cs p) else cs p) else cs p) ≡ cs p
    by true is = ap (λ (c : Bool). if c then add_alone given_up (cs p) else cs p) (ap (λ q. stands pid (known values cs q)) (is_slot p pid.slot is) ∙ gone)
    by false is = refl

-- whether what stood for a child was given up while it was held
abbrev pub is_given_up : HeldEnd → Bool
is_given_up GivenUp = true
is_given_up e = false

-- it was exactly where its process was held
state_given_up : (first : View) (kept : Kept) (m : MemberState) (cs : Courses) (v : View) (e : HeldEnd) (hs : HeldSlots) (w : View) → NotStaying e → StateEndsHeld first kept m cs v e hs w → is_given_up e ≡ is_held_state m cs
state_given_up first kept (Process q) cs v Stays hs w not f = absurd not
state_given_up first kept (Process q) cs v GivenUp hs w not f = sym (really_held (cs q.pid.slot).hold f.1)
state_given_up first kept (Process q) cs v NotHeld hs w not f = sym (ap is_held f.0)
state_given_up first kept Ended cs v e hs w not f = ap is_given_up f.0
state_given_up first kept (Supervisor m) cs v e hs w not f = ap is_given_up f.0

-- what is known of what stands for a child that doesn't stay, after a look alone
pub record Looked (first : View) (kept : Kept) (cs : Courses) (m : MemberState) (e : HeldEnd) (hs : HeldSlots) (v w : View) : Type 0 where
  pub seen : View
  pub are_seen : AreSeen first cs seen
  pub reported : false ≡ state_stays kept (now_in (values_seen seen) cs) m
  pub since : AreLonger v seen
  pub longer : AreLonger seen w
  pub taken : IsStateTaken cs m v w
  pub follow : AllFollow first (if is_given_up e then all_stopped (values_seen first) (pids_of (process_and (state_process m) [])) cs else cs) hs w

process_looked : (first : View) (kept : Kept) (cs : Courses) (q : StartedProcess) (hs hs' : HeldSlots) (v u look : View) (e : HeldEnd) → NotStaying e → AllFollow first cs hs v
    → ProcessEndsHeld first kept q.pid cs v e hs' u → AreLonger v u → LookedAt kept q.pid false u look → Looked first kept cs (Process q) e hs' v look
process_looked first kept cs q hs hs' v u look Stays not before f longer looked = absurd not
process_looked first kept cs q hs hs' v u look GivenUp not before f longer looked =
    let ds = give_up_at q.pid.slot cs in
    let at = looked_follow first ds hs' u kept q.pid false look f.2 (free_there q.pid.slot cs) looked in record {
      seen = v;
      are_seen = seen_where first cs hs v before;
      reported = sym f.0;
      since = longer_still v;
      longer = longer_both v u look longer (look_longer kept (Process q) false u look looked);
      taken = λ free. absurd (f.1 free);
      follow = follow_same first ds (ended_at (values_seen first) q.pid ds) hs' look (λ p inside. sym (ended_nothing (values_seen first) q.pid ds (given_up_gone (values_seen first) q.pid cs f.1) p)) at.0;
    }
process_looked first kept cs q hs hs' v u look NotHeld not before f longer looked =
    let at = looked_follow first cs hs' u kept q.pid false look f.1 f.0 looked in
    record {
      seen = look;
      are_seen = seen_where first cs hs' look at.0;
      reported = at.1;
      since = longer_both v u look longer (look_longer kept (Process q) false u look looked);
      longer = longer_still look;
      taken = λ _. subst (λ x. HasTaken q.pid.slot x look) f.2 (look_taken kept q.pid false u look look looked (longer_still look));
      follow = at.0;
    }

state_looked : (first : View) (kept : Kept) (cs : Courses) (m : MemberState) (hs hs' : HeldSlots) (v u look : View) (e : HeldEnd) → NotStaying e → AllFollow first cs hs v
    → StateEndsHeld first kept m cs v e hs' u → AreLonger v u → StateLookedAt kept m false u look → Looked first kept cs m e hs' v look
state_looked first kept cs Ended hs hs' v u look e not before f longer looked = record {
  seen = u;
  are_seen = seen_where first cs hs' u f.1;
  reported = refl;
  since = longer;
  longer = look_longer kept Ended false u look looked;
  taken = tt;
  follow = subst (λ x. AllFollow first (if is_given_up x then cs else cs) hs' look) (sym f.0) (subst (AllFollow first cs hs') (sym looked.1) f.1);
}
state_looked first kept cs (Process q) hs hs' v u look e not before f longer looked = process_looked first kept cs q hs hs' v u look e not before f longer looked
state_looked first kept cs (Supervisor m) hs hs' v u look e not before f longer looked = absurd (true≢false (sym looked.0))

-- what was seen stays legal after a look and an end
legal_look : (kept : Kept) (m : MemberState) (b : Bool) (v w : View) → AllLegal v → StateLookedAt kept m b v w → AllLegal w
legal_look kept Ended b v w legal is = subst AllLegal (sym is.1) legal
legal_look kept (Process q) b v w legal (h, u, at, reported, r) = legal_behind q.pid.slot [] v h u w legal at r
legal_look kept (Supervisor m) b v w legal is = subst AllLegal (sym is.1) legal

legal_end : (o : Option StartedProcess) (v w : View) → AllLegal v → MemberEnded o v w → AllLegal w
legal_end None v w legal is = subst AllLegal (sym is) legal
legal_end (Some q) v w legal (h, u, at, r) = legal_behind q.pid.slot _ v h u w legal at r

-- a child that stays
kept_in : (followed : Followed) (hs hs' : HeldSlots) (v u look w : View) (apps apps' : List App) (name id : List ℕ) (e : HeldEnd) → NotStaying e → has_one_supervisor name apps ≡ true
    → AllFollow followed.first followed.courses hs v → ChildEndsHeld followed.first UpOrTemporary (child_place name id apps) followed.courses v e hs' u → AreLonger v u
    → ChildLookedAt UpOrTemporary (child_place name id apps) true u look → w ≡ look → apps' ≡ apps → IsKeptIn followed.first name id (scene_at followed apps) apps' hs' v w
kept_in followed hs hs' v u look w apps apps' name id e not one before f longer looked ended same =
    let is = given followed.first UpOrTemporary followed.courses (child_place name id apps) hs hs' v u look w e not before f longer true looked ended in
    record { one = one; stay = is.stay_is; tree = same; follow = is.follow }

-- a child that began again
begun_in : (followed : Followed) (hs hs' : HeldSlots) (v u look w : View) (apps apps' : List App) (name id : List ℕ) (tables : Tables) (p : Place) (e : HeldEnd) → NotStaying e → has_one_supervisor name apps ≡ true
    → child_place name id apps ≡ Some p → AllFollow followed.first followed.courses hs v → ChildEndsHeld followed.first UpOrTemporary (Some p) followed.courses v e hs' u → AllLegal u → AreLonger v u
    → ChildLookedAt UpOrTemporary (Some p) false u look
    → HasRestarted tables (super_app name apps) p (λ (ms : List Member). apps_with (in_place ms) name id apps) look apps' w → IsRestartedIn followed.first name id tables (scene_at followed apps) apps' hs' v w
begun_in followed hs hs' v u look w apps apps' name id tables p e not one there before f legal longer looked t =
    let first = followed.first in
    let s = scene_at followed apps in
    let cs = child_ended s (Some p) in
    let starts = restart_starts tables p in
    let app = super_app name apps in
    let is = given first UpOrTemporary followed.courses (Some p) hs hs' v u look t.after_end e not before f longer false looked t.ended in
    let legal_now = legal_end (process_in p.child) look t.after_end (legal_look (kept_at UpOrTemporary p.child.restart) p.child.state false u look legal looked) t.ended in
    let began = began_all first cs hs' app starts t.after_end t.processes w is.follow legal_now t.began in
    record {
      one = one;
      place = p;
      there = there;
      stay = later_stay first UpOrTemporary followed.courses (Some p) v t.after_end w (began_longer app starts t.after_end t.processes w t.began) is.stay_is;
      sound = t.sound;
      room = subst (λ n. length starts ≤ n) (free_is first cs hs' t.after_end is.follow legal_now) (began_in_room app starts t.after_end t.processes w t.began);
      tree = t.is ∙ ap (λ (pids : List Pid). apps_with (in_place (members_at (restart_members tables p.child) pids)) name id apps) began.places;
      follow = began.follow;
    }

-- a child for which there are too few slots
slotless_in : (followed : Followed) (hs hs' : HeldSlots) (v u look w : View) (apps apps' : List App) (name id : List ℕ) (tables : Tables) (p : Place) (e : HeldEnd) → NotStaying e → has_one_supervisor name apps ≡ true
    → child_place name id apps ≡ Some p → AllFollow followed.first followed.courses hs v → ChildEndsHeld followed.first UpOrTemporary (Some p) followed.courses v e hs' u → AllLegal u → AreLonger v u
    → ChildLookedAt UpOrTemporary (Some p) false u look → HasNoSlot tables p look w → apps' ≡ apps
    → IsNotRestartedIn followed.first name id tables (scene_at followed apps) (record { error = NoSlot; given_up = was_given_up e NoSlot }) apps' hs' v w
slotless_in followed hs hs' v u look w apps apps' name id tables p e not one there before f legal longer looked t same =
    let first = followed.first in
    let s = scene_at followed apps in
    let cs = child_ended s (Some p) in
    let is = given first UpOrTemporary followed.courses (Some p) hs hs' v u look w e not before f longer false looked t.ended in
    let legal_now = legal_end (process_in p.child) look w (legal_look (kept_at UpOrTemporary p.child.restart) p.child.state false u look legal looked) t.ended in
    record {
      one = one;
      place = p;
      there = there;
      stay = is.stay_is;
      why = (t.sound, subst (λ n. n < length (restart_starts tables p)) (free_is first cs hs' w is.follow legal_now) t.few);
      tree = same;
      given_up = given_always e;
      follow = by e is.follow;
    }
  where
    given_always : (x : HeldEnd) → was_given_up x NoSlot ≡ true
    given_always Stays = refl
    given_always GivenUp = refl
    given_always NotHeld = refl

    by : (x : HeldEnd) → AllFollow followed.first (child_ended (scene_at followed apps) (Some p)) hs' w
        → AllFollow followed.first (if was_given_up x NoSlot then child_ended (scene_at followed apps) (Some p) else followed.courses) hs' w
    by Stays g = g
    by GivenUp g = g
    by NotHeld g = g

-- a child that has a fault, or for which no memory is left
faulty_in : (followed : Followed) (hs hs' : HeldSlots) (v u look w : View) (apps apps' : List App) (name id : List ℕ) (tables : Tables) (p : Place) (e : HeldEnd) (x : RestartError) → NotStaying e
    → has_one_supervisor name apps ≡ true → child_place name id apps ≡ Some p → AllFollow followed.first followed.courses hs v → ChildEndsHeld followed.first UpOrTemporary (Some p) followed.courses v e hs' u
    → AreLonger v u → ChildLookedAt UpOrTemporary (Some p) false u look → was_given_up e x ≡ is_given_up e → gives_up x p followed.courses ≡ is_held_state p.child.state followed.courses
    → IsWhyItDidNot x tables p (scene_at followed apps) → w ≡ look → apps' ≡ apps
    → IsNotRestartedIn followed.first name id tables (scene_at followed apps) (record { error = x; given_up = was_given_up e x }) apps' hs' v w
faulty_in followed hs hs' v u look w apps apps' name id tables p e x not one there before f longer looked given_so as_held why ended same =
    let first = followed.first in
    let is = state_looked first (kept_at UpOrTemporary p.child.restart) followed.courses p.child.state hs hs' v u look e not before f longer looked in
    record {
      one = one;
      place = p;
      there = there;
      stay = (
        is.seen,
        is.are_seen,
        is.reported,
        is.since,
        subst (AreLonger is.seen) (sym ended) is.longer,
        subst (IsStateTaken followed.courses p.child.state v) (sym ended) is.taken,
        λ stays. absurd (true≢false (sym stays)),
      );
      why = why;
      tree = same;
      given_up = given_so ∙ (state_given_up first (kept_at UpOrTemporary p.child.restart) p.child.state followed.courses v e hs' u not f ∙ sym as_held);
      follow = subst (λ b. AllFollow first (if b then child_ended (scene_at followed apps) (Some p) else followed.courses) hs' w) (sym given_so)
          (subst (AllFollow first (if is_given_up e then child_ended (scene_at followed apps) (Some p) else followed.courses) hs') (sym ended) is.follow);
    }

given_alike : (e : HeldEnd) (x : RestartError) → x ≢ NoSlot → was_given_up e x ≡ is_given_up e
given_alike GivenUp x other = refl
given_alike Stays NoSuper other = refl
given_alike Stays (NoTable m) other = refl
given_alike Stays Unsupported other = refl
given_alike Stays NoSlot other = absurd (other refl)
given_alike Stays NoMemory other = refl
given_alike NotHeld NoSuper other = refl
given_alike NotHeld (NoTable m) other = refl
given_alike NotHeld Unsupported other = refl
given_alike NotHeld NoSlot other = absurd (other refl)
given_alike NotHeld NoMemory other = refl

-- the answer, with what was given up
abbrev pub reported_of : HeldEnd → Result Bool RestartError → Result Bool NotRestarted
reported_of e (Ok b) = Ok b
reported_of e (Err x) = Err (record { error = x; given_up = was_given_up e x })

module _ (followed : Followed) (hs hs' : HeldSlots) (v u w : View) (apps apps' : List App) (name id : List ℕ) (tables : Tables) (e : HeldEnd) (not : NotStaying e) (one : has_one_supervisor name apps ≡ true)
    (before : AllFollow followed.first followed.courses hs v) (legal : AllLegal u) (longer : AreLonger v u) where
  outcome_in : (o : Option Place) (stays : Bool) (look : View) (r : Result Bool RestartError) → child_place name id apps ≡ o → ChildEndsHeld followed.first UpOrTemporary o followed.courses v e hs' u
      → ChildLookedAt UpOrTemporary o stays u look
      → RestartsUnless stays tables (super_app name apps) o (λ (ms : List Member). apps_with (in_place ms) name id apps) apps look r apps' w
      → RestartsIn followed.first name id tables (scene_at followed apps) (reported_of e r) apps' hs' v w
  outcome_in o true look (Ok true) there f looked is =
      kept_in followed hs hs' v u look w apps apps' name id e not one before (subst (λ q. ChildEndsHeld followed.first UpOrTemporary q followed.courses v e hs' u) (sym there) f) longer
      (subst (λ q. ChildLookedAt UpOrTemporary q true u look) (sym there) looked) is.2 is.1
  outcome_in o true look (Ok false) there f looked is = absurd (let no = is.0 in cc no)
  outcome_in o true look (Err x) there f looked is = absurd (let no = is.0 in cc no)
  outcome_in None false look r there f looked is = absurd is
  outcome_in (Some p) false look (Ok true) there f looked is = absurd is
  outcome_in (Some p) false look (Ok false) there f looked is = begun_in followed hs hs' v u look w apps apps' name id tables p e not one there before f legal longer looked is
  outcome_in (Some p) false look (Err NoSuper) there f looked is = absurd is.0.0
  outcome_in (Some p) false look (Err NoSlot) there f looked is = slotless_in followed hs hs' v u look w apps apps' name id tables p e not one there before f legal longer looked is.0 is.1
  outcome_in (Some p) false look (Err (NoTable m)) there f looked is =
      faulty_in followed hs hs' v u look w apps apps' name id tables p e (NoTable m) not one there before f longer looked (given_alike e (NoTable m) (λ no. cc no)) refl is.0.0 is.0.1 is.1
  outcome_in (Some p) false look (Err Unsupported) there f looked is =
      faulty_in followed hs hs' v u look w apps apps' name id tables p e Unsupported not one there before f longer looked (given_alike e Unsupported (λ no. cc no)) refl is.0.0 is.0.1 is.1
  outcome_in (Some p) false look (Err NoMemory) there f looked is =
      faulty_in followed hs hs' v u look w apps apps' name id tables p e NoMemory not one there before f longer looked (given_alike e NoMemory (λ no. cc no)) refl is.0.0 is.0.1 is.1

  pub restarts_in : (r : Result Bool RestartError) → ChildEndsHeld followed.first UpOrTemporary (child_place name id apps) followed.courses v e hs' u → RestartsChild name id tables apps u r apps' w
      → RestartsIn followed.first name id tables (scene_at followed apps) (reported_of e r) apps' hs' v w
  restarts_in (Ok b) f t = outcome_in (child_place name id apps) t.1.stays t.1.look (Ok b) refl f t.1.looked t.1.outcome
  restarts_in (Err NoSuper) f t = absurd (true≢false (sym one ∙ t.0))
  restarts_in (Err (NoTable m)) f t = outcome_in (child_place name id apps) t.1.stays t.1.look (Err (NoTable m)) refl f t.1.looked t.1.outcome
  restarts_in (Err Unsupported) f t = outcome_in (child_place name id apps) t.1.stays t.1.look (Err Unsupported) refl f t.1.looked t.1.outcome
  restarts_in (Err NoSlot) f t = outcome_in (child_place name id apps) t.1.stays t.1.look (Err NoSlot) refl f t.1.looked t.1.outcome
  restarts_in (Err NoMemory) f t = outcome_in (child_place name id apps) t.1.stays t.1.look (Err NoMemory) refl f t.1.looked t.1.outcome
