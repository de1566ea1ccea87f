-- The courses that the handler follows where a child of a supervisor is terminated, or deleted.
use Rattle.std.proofs.Common.{◌≡◌, ◌≢◌, ℕ, ◌==◌, Bool, true, false, ◌&&◌, true≢false, if◌then◌else◌, List, [], ◌∷◌, ◌++◌, is_some, Option, Some, None, Result, Ok, Err, slice_index_or, refl, ap, sym, subst, subst₂, ◌∙◌, append-nil, append_assoc}
use Rattle.std.specs.List.{slice_get}
use Rattle.std.specs.Option.{option_map, option_map_or}
use Rattle.proc_history.specs.declared.value.Now.{Now}
use Rattle.proc_history.specs.declared.value.Value.{Value}
use Rattle.proc_history.specs.Events.{entry}
use Rattle.proc_history.specs.Events.Event.{given_up}
use Rattle.proc_history.specs.Histories.{replay_from}
use Rattle.proc_history.specs.Values.{after}
use Rattle.proc_history.proofs.Entries.{replay-append}
use Rattle.proc_table.specs.declared.pid.Pid.{Pid}
use Rattle.proc_table.specs.declared.view.View.{View}
use Rattle.proc_table.specs.Parts.{part_of}
use Rattle.proc_table.specs.Waits.{HasTaken}
use Rattle.started_members.specs.declared.looks.Kept.{Kept}
use Rattle.started_members.specs.declared.looks.Stay.{Stay}
use Rattle.started_members.specs.declared.looks.Stay.TheVariants.{Up}
use Rattle.started_members.specs.declared.member.Member.{Member}
use Rattle.started_members.specs.declared.member.MemberState.{MemberState}
use Rattle.started_members.specs.declared.member.MemberState.TheVariants.{Ended, Process, Supervisor}
use Rattle.started_members.specs.Places.{ChildEndedUnless, ChildLookedAt, Place, with_below}
use Rattle.sup_tree.specs.Children.{DeletesChild, TerminatesChild, child_members, child_place, has_one_supervisor}
use Rattle.started_members.specs.declared.member.StartedProcess.{StartedProcess}
use Rattle.started_members.specs.Looks.{LookedAt, StateLookedAt, kept_at, now_stays, process_stays}
use Rattle.started_members.specs.Ends.{MemberEnded, stands}
use Rattle.sup_tree.specs.Tree.{App}
use Rattle.started_members.specs.Members.{pids_of, process_and, process_in, processes_among, state_process}
use Rattle.held_processes.specs.Applications.{all_stopped, held_ended, known, scene_at}
use Rattle.held_processes.specs.Children.{AreSeen, ChildEndsHeld, DeletesIn, IsStateTaken, IsStay, ProcessEndsHeld, StateEndsHeld, ReportsStay, TerminatesIn, child_pids, held_stays, state_stays}
use Rattle.held_processes.specs.declared.children.HeldEnd.{HeldEnd}
use Rattle.held_processes.specs.declared.children.HeldEnd.TheVariants.{Stays, GivenUp, NotHeld}
use Rattle.held_processes.specs.Course.{Course, Courses, Hold, add, add_alone, added, course_after, if_held, let_go}
use Rattle.held_processes.specs.Course.Hold.{not_held, until_point, until_resumed}
use Rattle.held_processes.specs.Course.Operation.{give_up}
use Rattle.held_processes.specs.Following.{AllFollow, AreLonger, Followed, HeldForm, HeldSlots, IsAt, IsFree, IsHeld}
use Rattle.held_processes.specs.Operations.{Values, give_up_at, now_in, values_seen}
use Rattle.held_processes.proofs.ApplicationLemmas.{all_stopped_follow, ended_follow, free_there, free_where_not_held, is_slot, same_slot, stands_known}
use Rattle.held_processes.proofs.ChangeLemmas.{held_value}
use Rattle.held_processes.proofs.FollowLemmas.{at_slot, follow_same, past_of}
use Rattle.held_processes.proofs.LongerLemmas.{end_longer, look_longer, same_longer}
use Rattle.held_processes.proofs.LookLemmas.{looked_at}
use Rattle.held_processes.proofs.SlotLemmas.{gives_back, longer_both, longer_still, looked_value, free_case, held_case}
use Rattle.held_processes.proofs.TakenLemmas.{child_later, look_taken, quiet_taken}

pub terminates_in : {X E : Type 0} (followed : Followed) (hs : HeldSlots) (v : View) (apps : List App) (name id : List ℕ) (r : Result X E) (apps' : List App) (w : View) → has_one_supervisor name apps ≡ true
    → AllFollow followed.first (held_ended (pids_of (processes_among (child_members name id apps))) followed.courses) hs v → TerminatesChild name id apps v r apps' w
    → TerminatesIn followed.first name id (scene_at followed apps) r apps' hs w
terminates_in followed hs v apps name id (Ok x) apps' w one f t =
    record { one = one; tree = t.tree; follow = all_stopped_follow followed.first followed.courses hs (pids_of (processes_among (child_members name id apps))) v w f t.ended }
terminates_in followed hs v apps name id (Err e) apps' w one f t = absurd (true≢false (sym one ∙ t.0))

-- a process that is held, and one that isn't

-- whether it is held, and stays, is reported
pub reports_stay : (kept : Kept) (pid : Pid) (hs : HeldSlots) (o : Option Bool) → o ≡ option_map (process_stays kept pid) (option_map (λ (h : HeldForm). h.held.value) (slice_index_or hs pid.slot None)) → ReportsStay kept pid hs o
reports_stay kept pid hs o there first cs v f = by (slice_index_or hs pid.slot None) there (f.each pid.slot pid.inside).at
  where
    by : (place : Option HeldForm) → o ≡ option_map (process_stays kept pid) (option_map (λ (h : HeldForm). h.held.value) place)
        → IsAt pid.slot (cs pid.slot) (part_of v.parts pid.slot) place → o ≡ if_held (cs pid.slot).hold (Some (held_stays kept pid (values_seen v) cs)) None
    by None is at =
        let free : IsFree (cs pid.slot) (part_of v.parts pid.slot) = at in
        is ∙ sym (free_case (cs pid.slot).hold (Some (held_stays kept pid (values_seen v) cs)) None free.hold)
    by (Some h) is at =
        let held : IsHeld pid.slot (cs pid.slot) (part_of v.parts pid.slot) h = at in
        is ∙ (ap (λ x. Some (process_stays kept pid x)) (held_value pid.slot (cs pid.slot) (part_of v.parts pid.slot) h held)
        ∙ sym (held_case (cs pid.slot).hold (Some (held_stays kept pid (values_seen v) cs)) None held.really))

-- so it is known whether it is held
pub held_so : {X : Type 0} (k : Hold) (x y : X) → Some x ≡ if_held k (Some y) None → (k ≢ not_held) × (x ≡ y)
held_so not_held x y is = absurd cc
held_so until_point x y is = (λ e. cc e, cc is)
held_so until_resumed x y is = (λ e. cc e, cc is)

pub free_so : {X : Type 0} (k : Hold) (y : X) → None ≡ if_held k (Some y) None → k ≡ not_held
free_so not_held y is = refl
free_so until_point y is = absurd cc
free_so until_resumed y is = absurd cc

-- a look at the process of a slot that isn't held
pub looked_follow : (first : View) (cs : Courses) (hs : HeldSlots) (v : View) (kept : Kept) (pid : Pid) (stays : Bool) (look : View) → AllFollow first cs hs v → (cs pid.slot).hold ≡ not_held
    → LookedAt kept pid stays v look → AllFollow first cs hs look × (stays ≡ process_stays kept pid (now_in (values_seen look) cs pid.slot))
looked_follow first cs hs v kept pid stays look f hold (h, u, at, is, r) =
    let p = pid.slot in
    let free = free_where_not_held first cs hs v p f pid.inside hold in
    let here = at_slot first cs cs hs v p None f pid.inside refl (sym free.place) in (
      looked_at first cs hs v look p None f (sym free.place) (gives_back (past_of first cs p) p v h u look here at r),
      is ∙ ap (process_stays kept pid) (looked_value (past_of first cs p) p v h u look here at r),
    )

-- a process that stays stands
stays_stands : (kept : Kept) (pid : Pid) (x : Value) → process_stays kept pid x ≡ true → stands pid x ≡ true
stays_stands kept pid x is = by (x.round == pid.round) x.now is
  where
    by : (b : Bool) (n : Option Now) → (b && option_map_or (now_stays kept) n false) ≡ true → (b && is_some n) ≡ true
    by true None is = is
    by true (Some n) is = refl
    by false n is = is

and_false : (b : Bool) → (b && false) ≡ false
and_false true = refl
and_false false = refl

-- A process that was given up while it was held doesn't stand any more.
pub given_up_gone : (values : Values) (pid : Pid) (cs : Courses) → ((cs pid.slot).hold ≡ not_held → ⊥) → stands pid (known values (give_up_at pid.slot cs) pid.slot) ≡ false
given_up_gone values pid cs really =
    let p = pid.slot in
    let c = cs p in
    let e = entry 0 given_up in
    let course : give_up_at p cs p ≡ let_go (add given_up c) =
    ap (λ (b : Bool). if b then if_held c.hold (course_after give_up c) c else c) (same_slot p)
    ∙ (held_case c.hold (course_after give_up c) c really ∙ held_case c.hold (let_go (add given_up c)) (add_alone given_up c) really) in
    let all : added (let_go (add given_up c)).blocks ++ [] ≡ (added c.blocks ++ c.pending) ++ e ∷ [] =
    append-nil (added c.blocks ++ (c.pending ++ e ∷ [])) ∙ sym (append_assoc (added c.blocks) c.pending (e ∷ [])) in
    let value : known values (give_up_at p cs) p ≡ after (replay_from (values p) (added c.blocks ++ c.pending)) given_up =
    ap (λ (d : Course). replay_from (values p) (added d.blocks ++ d.pending)) course ∙ (ap (replay_from (values p)) all ∙ replay-append (values p) (added c.blocks ++ c.pending) (e ∷ [])) in
    ap (stands pid) value ∙ and_false ((replay_from (values p) (added c.blocks ++ c.pending)).round == pid.round)

-- A look at a process that was given up while it was held finds that it doesn't stay.
not_staying : (first : View) (cs : Courses) (hs : HeldSlots) (v : View) (kept : Kept) (pid : Pid) (stays : Bool) (look : View) → AllFollow first (give_up_at pid.slot cs) hs v
    → ((cs pid.slot).hold ≡ not_held → ⊥) → LookedAt kept pid stays v look → stays ≡ false
not_staying first cs hs v kept pid stays look f really (h, u, at, is, r) =
    let ds = give_up_at pid.slot cs in
    let free = free_where_not_held first ds hs v pid.slot f pid.inside (free_there pid.slot cs) in
    let gone : stands pid h.value ≡ false = stands_known first ds hs v pid h u f free.pending at ∙ given_up_gone (values_seen first) pid cs really in
    by stays (sym is) gone
  where
    by : (b : Bool) → process_stays kept pid h.value ≡ b → stands pid h.value ≡ false → b ≡ false
    by false is gone = refl
    by true is gone = absurd (true≢false (sym (stays_stands kept pid h.value is) ∙ gone))

-- nothing is given up where nothing is held
pub left_alone : (slot : ℕ) (cs : Courses) → (cs slot).hold ≡ not_held → (p : ℕ) → give_up_at slot cs p ≡ cs p
left_alone slot cs free p = by (p == slot) refl
  where
    by : (b : Bool) → (p == slot) ≡ b → (if b then if_held (cs p).hold (course_after give_up (cs p)) (cs p) else cs p) ≡ cs p
    by true is = free_case (cs p).hold (course_after give_up (cs p)) (cs p) (ap (λ q. (cs q).hold) (is_slot p slot is) ∙ free)
    by false is = refl

pub seen_where : (first : View) (cs : Courses) (hs : HeldSlots) (v : View) → AllFollow first cs hs v → AreSeen first cs v
seen_where first cs hs v f = λ p inside. (f.each p inside).stand

-- A report that a child doesn't stay is right still where the handler has seen more since then.
pub later_stay : (first : View) (stay : Stay) (cs : Courses) (o : Option Place) (b v w : View) → AreLonger v w → IsStay first stay cs o false b v → IsStay first stay cs o false b w
later_stay first stay cs o b v w more is = (is.0, is.1, is.2, is.3, longer_both is.0 v w is.4 more, child_later cs o b v w is.5 more, λ stays. absurd (true≢false (sym stays)))

-- What stands for a child was given up, unless it stays.
StateEnded : Bool → MemberState → View → View → Type 0
StateEnded true m v w = w ≡ v
StateEnded false m v w = MemberEnded (state_process m) v w

-- what is known of it then
record StateGiven (first : View) (kept : Kept) (cs : Courses) (m : MemberState) (stays : Bool) (hs : HeldSlots) (v w : View) : Type 0 where
  seen : View
  are_seen : AreSeen first cs seen
  reported : stays ≡ state_stays kept (now_in (values_seen seen) cs) m
  since : AreLonger v seen
  longer : AreLonger seen w
  taken : IsStateTaken cs m v w
  now : stays ≡ true → state_stays kept (now_in (values_seen w) cs) m ≡ true
  follow : AllFollow first (if stays then cs else all_stopped (values_seen first) (pids_of (process_and (state_process m) [])) cs) hs w

-- where no process stands for it, nothing happens
quiet_given : (first : View) (kept : Kept) (cs : Courses) (m : MemberState) (hs : HeldSlots) (v u look w : View) → AreLonger v u → AllFollow first cs hs u → state_process m ≡ None → look ≡ u → (stays : Bool)
    → stays ≡ state_stays kept (now_in (values_seen u) cs) m → StateEnded stays m look w → StateGiven first kept cs m stays hs v w
unfolding StateEnded
quiet_given first kept cs m hs v u look w since f none same true reported ended =
    let at : w ≡ u = ended ∙ same in record {
      seen = u;
      are_seen = seen_where first cs hs u f;
      reported = reported;
      since = since;
      longer = same_longer u w at;
      taken = quiet_taken cs m v w none;
      now = λ _. subst (λ x. state_stays kept (now_in (values_seen x) cs) m ≡ true) (sym at) (sym reported);
      follow = subst (AllFollow first cs hs) (sym at) f;
    }
quiet_given first kept cs m hs v u look w since f none same false reported ended =
    let at : w ≡ look = subst (λ o. MemberEnded o look w) none ended in record {
      seen = u;
      are_seen = seen_where first cs hs u f;
      reported = reported;
      since = since;
      longer = same_longer u w (at ∙ same);
      taken = quiet_taken cs m v w none;
      now = λ stays. absurd (true≢false (sym stays));
      follow = subst (λ o. AllFollow first (all_stopped (values_seen first) (pids_of (process_and o [])) cs) hs w) (sym none) (subst (AllFollow first cs hs) (sym (at ∙ same)) f);
    }

-- a process that isn't held
free_given : (first : View) (kept : Kept) (cs : Courses) (q : StartedProcess) (hs : HeldSlots) (v u look w : View) → u ≡ v → AreLonger v u → (cs q.pid.slot).hold ≡ not_held → AllFollow first cs hs u
    → (stays : Bool) → LookedAt kept q.pid stays u look → StateEnded stays (Process q) look w → StateGiven first kept cs (Process q) stays hs v w
unfolding StateEnded
free_given first kept cs q hs v u look w same before hold f true looked ended =
    let at = looked_follow first cs hs u kept q.pid true look f hold looked in record {
      seen = look;
      are_seen = seen_where first cs hs look at.0;
      reported = at.1;
      since = longer_both v u look before (look_longer kept (Process q) true u look looked);
      longer = same_longer look w ended;
      taken = λ _. subst (λ x. HasTaken q.pid.slot x w) same (look_taken kept q.pid true u look w looked (same_longer look w ended));
      now = λ _. subst (λ x. state_stays kept (now_in (values_seen x) cs) (Process q) ≡ true) (sym ended) (sym at.1);
      follow = subst (AllFollow first cs hs) (sym ended) at.0;
    }
free_given first kept cs q hs v u look w same before hold f false looked ended =
    let ds = give_up_at q.pid.slot cs in
    let at = looked_follow first cs hs u kept q.pid false look f hold looked in record {
      seen = look;
      are_seen = seen_where first cs hs look at.0;
      reported = at.1;
      since = longer_both v u look before (look_longer kept (Process q) false u look looked);
      longer = end_longer (Some q) look w ended;
      taken = λ _. subst (λ x. HasTaken q.pid.slot x w) same (look_taken kept q.pid false u look w looked (end_longer (Some q) look w ended));
      now = λ stays. absurd (true≢false (sym stays));
      follow = ended_follow first ds hs look q.pid w (follow_same first cs ds hs look (λ p inside. sym (left_alone q.pid.slot cs hold p)) at.0) (free_there q.pid.slot cs) ended;
    }

-- a process that is held, and doesn't stay
held_given : (first : View) (kept : Kept) (cs : Courses) (q : StartedProcess) (hs hs' : HeldSlots) (v u look w : View) → (cs q.pid.slot).hold ≢ not_held → AllFollow first cs hs v
    → held_stays kept q.pid (values_seen v) cs ≡ false → AllFollow first (give_up_at q.pid.slot cs) hs' u → AreLonger v u → (stays : Bool) → LookedAt kept q.pid stays u look
    → StateEnded stays (Process q) look w → StateGiven first kept cs (Process q) stays hs' v w
unfolding StateEnded
held_given first kept cs q hs hs' v u look w really before not_stays f longer true looked ended = absurd (true≢false (not_staying first cs hs' u kept q.pid true look f really looked))
held_given first kept cs q hs hs' v u look w really before not_stays f longer false looked ended =
    let ds = give_up_at q.pid.slot cs in
    let at = looked_follow first ds hs' u kept q.pid false look f (free_there q.pid.slot cs) looked in record {
      seen = v;
      are_seen = seen_where first cs hs v before;
      reported = sym not_stays;
      since = longer_still v;
      longer = longer_both v u w longer (longer_both u look w (look_longer kept (Process q) false u look looked) (end_longer (Some q) look w ended));
      taken = λ free. absurd (really free);
      now = λ stays. absurd (true≢false (sym stays));
      follow = ended_follow first ds hs' look q.pid w at.0 (free_there q.pid.slot cs) ended;
    }

-- The end of the process doesn't report that it stays.
abbrev pub NotStaying : HeldEnd → Type 0
NotStaying Stays = ⊥
NotStaying e = Unit {0}

pub reported_not : (e : HeldEnd) → e ≢ Stays → NotStaying e
reported_not Stays not = absurd (not refl)
reported_not GivenUp not = tt
reported_not NotHeld not = tt

process_given : (first : View) (kept : Kept) (cs : Courses) (q : StartedProcess) (hs hs' : HeldSlots) (v u look w : View) (e : HeldEnd) → NotStaying e → AllFollow first cs hs v
    → ProcessEndsHeld first kept q.pid cs v e hs' u → AreLonger v u → (stays : Bool) → LookedAt kept q.pid stays u look → StateEnded stays (Process q) look w
    → StateGiven first kept cs (Process q) stays hs' v w
process_given first kept cs q hs hs' v u look w Stays not before f longer stays looked ended = absurd not
process_given first kept cs q hs hs' v u look w GivenUp not before f longer stays looked ended = held_given first kept cs q hs hs' v u look w f.1 before f.0 f.2 longer stays looked ended
process_given first kept cs q hs hs' v u look w NotHeld not before f longer stays looked ended = free_given first kept cs q hs' v u look w f.2 longer f.0 f.1 stays looked ended

state_given : (first : View) (kept : Kept) (cs : Courses) (m : MemberState) (hs hs' : HeldSlots) (v u look w : View) (e : HeldEnd) → NotStaying e → AllFollow first cs hs v
    → StateEndsHeld first kept m cs v e hs' u → AreLonger v u → (stays : Bool) → StateLookedAt kept m stays u look → StateEnded stays m look w → StateGiven first kept cs m stays hs' v w
state_given first kept cs Ended hs hs' v u look w e not before f longer stays looked ended = quiet_given first kept cs Ended hs' v u look w longer f.1 refl looked.1 stays looked.0 ended
state_given first kept cs (Process q) hs hs' v u look w e not before f longer stays looked ended = process_given first kept cs q hs hs' v u look w e not before f longer stays looked ended
state_given first kept cs (Supervisor m) hs hs' v u look w e not before f longer stays looked ended = quiet_given first kept cs (Supervisor m) hs' v u look w longer f.1 refl looked.1 stays looked.0 ended

-- what is known of a child that stays, or that was given up
pub record Given (first : View) (stay : Stay) (cs : Courses) (o : Option Place) (stays : Bool) (hs : HeldSlots) (v w : View) : Type 0 where
  pub stay_is : IsStay first stay cs o stays v w
  pub follow : AllFollow first (if stays then cs else all_stopped (values_seen first) (child_pids o) cs) hs w

pub given : (first : View) (stay : Stay) (cs : Courses) (o : Option Place) (hs hs' : HeldSlots) (v u look w : View) (e : HeldEnd) → NotStaying e → AllFollow first cs hs v
    → ChildEndsHeld first stay o cs v e hs' u → AreLonger v u → (stays : Bool) → ChildLookedAt stay o stays u look → ChildEndedUnless stays o look w → Given first stay cs o stays hs' v w
unfolding StateEnded
given first stay cs None hs hs' v u look w e not before f longer true looked ended =
    let at : w ≡ u = ended ∙ looked.1 in record {
      stay_is = (u, seen_where first cs hs' u f.1, refl, longer, same_longer u w at, tt, λ _. refl);
      follow = subst (AllFollow first cs hs') (sym at) f.1;
    }
given first stay cs None hs hs' v u look w e not before f longer false looked ended = absurd (true≢false (sym looked.0))
given first stay cs (Some p) hs hs' v u look w e not before f longer true looked ended =
    let is = state_given first (kept_at stay p.child.restart) cs p.child.state hs hs' v u look w e not before f longer true looked ended in
    record { stay_is = (is.seen, is.are_seen, is.reported, is.since, is.longer, is.taken, is.now); follow = is.follow }
given first stay cs (Some p) hs hs' v u look w e not before f longer false looked ended =
    let is = state_given first (kept_at stay p.child.restart) cs p.child.state hs hs' v u look w e not before f longer false looked ended in
    record { stay_is = (is.seen, is.are_seen, is.reported, is.since, is.longer, is.taken, is.now); follow = is.follow }

state_held_on : (first : View) (kept : Kept) (cs : Courses) (m : MemberState) (hs : HeldSlots) (v w : View) → StateEndsHeld first kept m cs v Stays hs w
    → (true ≡ state_stays kept (now_in (values_seen v) cs) m) × AllFollow first cs hs w × (w ≡ v) × IsStateTaken cs m v w
state_held_on first kept cs Ended hs v w f = absurd (cc f.0)
state_held_on first kept cs (Process q) hs v w f = (sym f.0, f.2, f.3, λ free. absurd (f.1 free))
state_held_on first kept cs (Supervisor m) hs v w f = absurd (cc f.0)

-- a child that is held, and stays
pub held_on : (first : View) (stay : Stay) (cs : Courses) (o : Option Place) (hs hs' : HeldSlots) (v w : View) → AllFollow first cs hs v → ChildEndsHeld first stay o cs v Stays hs' w → AreLonger v w
    → Given first stay cs o true hs' v w
held_on first stay cs None hs hs' v w before f longer = absurd (cc f.0)
held_on first stay cs (Some p) hs hs' v w before f longer =
    let is = state_held_on first (kept_at stay p.child.restart) cs p.child.state hs' v w f in
    record { stay_is = (v, seen_where first cs hs v before, is.0, longer_still v, longer, is.3, λ _. subst (λ x. state_stays (kept_at stay p.child.restart) (now_in (values_seen x) cs) p.child.state ≡ true) (sym is.2) (sym is.0)); follow = is.1 }

-- a child is deleted, or stays
pub deletes_in : {E : Type 0} (followed : Followed) (hs hs' : HeldSlots) (v u : View) (apps : List App) (name id : List ℕ) (e : HeldEnd) (r : Result Bool E) (apps' : List App) (w : View) → NotStaying e
    → has_one_supervisor name apps ≡ true → AllFollow followed.first followed.courses hs v → ChildEndsHeld followed.first Up (child_place name id apps) followed.courses v e hs' u
    → AreLonger v u → DeletesChild name id apps u r apps' w → DeletesIn followed.first name id (scene_at followed apps) r apps' hs' v w
deletes_in followed hs hs' v u apps name id e (Ok stays) apps' w not one before f longer t =
    let is = given followed.first Up followed.courses (child_place name id apps) hs hs' v u t.look w e not before f longer stays t.looked t.ended in
    record { one = one; stay = is.stay_is; tree = t.tree; follow = is.follow }
deletes_in followed hs hs' v u apps name id e (Err x) apps' w not one before f longer t = absurd (true≢false (sym one ∙ t.0))

state_is : (m : MemberState) (q : StartedProcess) → state_process m ≡ Some q → m ≡ Process q
state_is Ended q is = absurd cc
state_is (Process p) q is = let same : p ≡ q = cc is in ap Process same
state_is (Supervisor m) q is = absurd cc

-- what is said of the process of the first member is said of the child
pub ends_held : (first : View) (stay : Stay) (kept : Kept) (cs : Courses) (v : View) (e : HeldEnd) (hs : HeldSlots) (w : View) (ms : List Member) (m : Member) (q : StartedProcess) → slice_get ms 0 ≡ Some m
    → process_in m ≡ Some q → kept ≡ kept_at stay m.restart → ProcessEndsHeld first kept q.pid cs v e hs w → (o : Option Place) → ms ≡ option_map_or with_below o [] → ChildEndsHeld first stay o cs v e hs w
ends_held first stay kept cs v e hs w ms m q at there such ends None is = absurd (let none = sym (ap (λ l. slice_get l 0) is) ∙ at in cc none)
ends_held first stay kept cs v e hs w ms m q at there such ends (Some p) is =
    let child : p.child ≡ m = let same = sym (ap (λ l. slice_get l 0) is) ∙ at in cc same in
    let here : StateEndsHeld first (kept_at stay m.restart) m.state cs v e hs w =
    subst₂ (λ k s. StateEndsHeld first k s cs v e hs w) such (sym (state_is m.state q there)) ends in
    subst (λ (n : Member). StateEndsHeld first (kept_at stay n.restart) n.state cs v e hs w) (sym child) here
