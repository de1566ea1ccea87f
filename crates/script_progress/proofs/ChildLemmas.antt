-- Calls on children of supervisors.
use Rattle.std.proofs.Common.{◌≡◌, ◌≢◌, ℕ, Bool, ◌&&◌, not, true, false, true≢false, List, length, if◌then◌else◌, refl, sym, ap, ap₂, subst, subst₂, ◌∙◌, Option, None, Some, Ok, Err}
use Rattle.std.specs.Prelude.{string_bytes}
use Rattle.std.proofs.lemmas.Bool.{le-ltb, lt-ltb}
use Rattle.proc_table.specs.declared.view.View.{View}
use Rattle.mod_table.specs.Tables.{Tables}
use Rattle.sup_tree.specs.Walk.{StartFault}
use Rattle.sup_tree.specs.Walk as walk
use Rattle.loaded_modules.specs.Loaded.{Modules, module_named, tables_of}
use Rattle.sup_tree.specs.declared.error.RestartError.{RestartError}
use Rattle.sup_tree.specs.declared.error.RestartError.TheVariants.{NoSuper, NoTable, Unsupported, NoSlot, NoMemory}
use Rattle.sup_tree.specs.Stay.TheVariants.{UpOrTemporary}
use Rattle.sup_tree.specs.Places.{Place}
use Rattle.sup_tree.specs.Children.{child_place, has_one_supervisor}
use Rattle.sup_tree.specs.Begins.{restart_fault}
use Rattle.sup_tree.specs.Tree.{App}
use Rattle.held_processes.specs.declared.restarts.NotRestarted.{NotRestarted}
use Rattle.held_processes.specs.Applications.{Scene, room_in, scene_at}
use Rattle.held_processes.specs.Children.{IsChildTaken, IsDeletedIn, IsTerminatedIn, child_stays, with_deleted, with_terminated}
use Rattle.held_processes.specs.Following.{AllFollow, AreLonger, HeldSlots}
use Rattle.held_processes.specs.Operations.{Values, now_in, values_seen}
use Rattle.held_processes.specs.Restarts.{IsKeptIn, IsNotRestartedIn, IsRestartedIn, FailsToRestart, IsWhyItDidNot, RestartsIn, child_ended, gives_up, restart_starts, with_restarted}
use Rattle.script_progress.specs.declared.cause.Cause.TheVariants as declared
use Rattle.script_progress.specs.declared.cause.Failure.{Failure}
use Rattle.script_progress.specs.Calls.{ChildCall}
use Rattle.script_progress.specs.Calls.ChildCall.{terminates, deletes, restarts, nothing}
use Rattle.script_progress.specs.Children.{IsMade, IsNotMade, restart_cause}
use Rattle.script_progress.specs.Fault.{Cause, child_call_fault, restart_call_fault, restart_fault_at, start_fault_or, super_fault_or}
use Rattle.script_progress.specs.Fault.Cause.{no_super}
use Rattle.script_progress.specs.InMemory.{cause_of}
use Rattle.script_progress.specs.Script.{Run, child_after, child_stays_at, child_within, restarted_at, scene_of, tables_among}
use Rattle.script_progress.specs.Steps.{HasDone, IsCause, IsSeen, Past, ProgressForm, followed_in}
use Rattle.script_progress.specs.Stops.{child_count, child_goes, is_memory, may_begin}
use Rattle.script_progress.proofs.AppLemmas.{room_fault, scene_is, tables_are}
use Rattle.script_progress.proofs.SeenLemmas.{cause_seen, seen_in, seen_of}
use Rattle.held_processes.proofs.SlotLemmas.{longer_still}

-- with one supervisor of the module there is no other fault
one_super : (super : List ℕ) (r : Run) (o : Option Cause) → has_one_supervisor super r.apps ≡ true → super_fault_or super r o ≡ o
one_super super r o one = ap (λ (b : Bool). if b then o else Some no_super) one

not_one_super : (super : List ℕ) (r : Run) (o : Option Cause) → has_one_supervisor super r.apps ≡ false → super_fault_or super r o ≡ Some no_super
not_one_super super r o none = ap (λ (b : Bool). if b then o else Some no_super) none

-- how a call fails that finds not exactly one supervisor of its module
abbrev pub superless : Failure
superless = record { cause = declared.NoSuper; modules = 0; slot = 0 }

and_false : (b : Bool) → (b && false) ≡ false
and_false true = refl
and_false false = refl

none_given_up : (seen : Values) (c : ChildCall) (r : Run) → 0 ≡ child_count seen no_super c r
none_given_up seen (terminates super id) r = refl
none_given_up seen (deletes super id) r = refl
none_given_up seen (restarts super id) r = sym (ap (λ (b : Bool). if b then 1 else 0) (and_false (may_begin seen super id r)))
none_given_up seen nothing r = refl

without_super : (past : Past) (c : ChildCall) (hs : HeldSlots) (v w : View) → AreLonger v w → ((seen : Values) → child_call_fault seen c past.run ≡ Some no_super) → AllFollow past.first past.run.courses hs w
    → AllFollow past.first (child_within c 0 past.run) hs w → IsNotMade past c superless hs v w
without_super past c hs v w since none follow partly =
    let seen = seen_of past.first past.run past.run.courses hs w (λ p. refl) follow in
    record { then_view = w; fails = (none (values_seen w), seen); asks = λ m. absurd (cc m); since = since; longer = longer_still w; taken = λ other. absurd (other refl); seen = seen; counted = none_given_up (values_seen w) c past.run; partly = partly }

-- the supervisors that are started are those of the script
none_in : (past : Past) (name : List ℕ) (a : ProgressForm) (tree : List App) (v : View) → HasDone past a tree v → has_one_supervisor name tree ≡ false → has_one_supervisor name past.run.apps ≡ false
none_in past name a tree v done none = ap (has_one_supervisor name) (sym done.apps) ∙ none

-- what was done follows the script that is run
done_as : (past : Past) (a : ProgressForm) (tree tree' : List App) (hs : HeldSlots) (v w : View) (s : Scene) → HasDone past a tree v → tree' ≡ s.apps → AllFollow past.first s.courses hs w
    → HasDone (record past { run = record past.run { apps = s.apps; courses = s.courses } }) (record a { held = hs }) tree' w
done_as past a tree tree' hs v w s done same follow = record { follow = follow; fetched = done.fetched; next = done.next; apps = same; values = done.values }

-- any other call does nothing
pub nothing_called : (past : Past) (a : ProgressForm) (tree : List App) (v : View) → HasDone past a tree v → IsMade past nothing false a tree v v
nothing_called past a tree v done = record { then_view = v; seen = seen_in past a tree v done; sound = refl; reported = refl; since = longer_still v; longer = longer_still v; taken = tt; now = λ stays. absurd (true≢false (sym stays)); done = done }

-- a child was terminated
pub terminated : (past : Past) (name id : List ℕ) (a : ProgressForm) (tree tree' : List App) (hs : HeldSlots) (v w : View) → HasDone past a tree v → AreLonger v w
    → IsTerminatedIn past.first name id (scene_at (followed_in past) tree) tree' hs w → IsMade past (terminates name id) false (record a { held = hs }) tree' v w
terminated past name id a tree tree' hs v w done longer is =
    let r = past.run in
    let here = subst (λ (s : Scene). IsTerminatedIn past.first name id s tree' hs w) (scene_is past a tree v done) is in
    record {
      then_view = v;
      seen = seen_in past a tree v done;
      sound = one_super name r None here.one;
      reported = refl;
      since = longer_still v;
      longer = longer;
      taken = tt;
      now = λ stays. absurd (true≢false (sym stays));
      done = done_as past a tree tree' hs v w (with_terminated name id (scene_of r)) done here.tree here.follow;
    }

-- a child was deleted, or stays
pub deleted : (past : Past) (name id : List ℕ) (stays : Bool) (a : ProgressForm) (tree tree' : List App) (hs : HeldSlots) (v w : View) → HasDone past a tree v
    → IsDeletedIn past.first name id (scene_at (followed_in past) tree) stays tree' hs v w → IsMade past (deletes name id) stays (record a { held = hs }) tree' v w
deleted past name id stays a tree tree' hs v w done is =
    let r = past.run in
    let here = subst (λ (s : Scene). IsDeletedIn past.first name id s stays tree' hs v w) (scene_is past a tree v done) is in
    record {
      then_view = here.stay.0;
      seen = here.stay.1;
      sound = one_super name r None here.one;
      reported = here.stay.2;
      since = here.stay.3;
      longer = here.stay.4;
      taken = here.stay.5;
      now = here.stay.6;
      done = by stays here.tree here.follow;
    }
  where
    by : (b : Bool) → tree' ≡ (if b then past.run.apps else (with_deleted name id (scene_of past.run)).apps)
        → AllFollow past.first (if b then past.run.courses else (with_deleted name id (scene_of past.run)).courses) hs w
        → HasDone (record past { run = child_after (deletes name id) b past.run }) (record a { held = hs }) tree' w
    by true same follow = done_as past a tree tree' hs v w (scene_of past.run) done same follow
    by false same follow = done_as past a tree tree' hs v w (with_deleted name id (scene_of past.run)) done same follow

-- no such call is made where the supervisor isn't there
pub not_terminated : (past : Past) (name id : List ℕ) (a : ProgressForm) (tree : List App) (hs : HeldSlots) (v w : View) → HasDone past a tree v → AreLonger v w → has_one_supervisor name tree ≡ false
    → AllFollow past.first past.run.courses hs w → IsNotMade past (terminates name id) superless hs v w
not_terminated past name id a tree hs v w done longer none follow =
    without_super past (terminates name id) hs v w longer (λ seen. not_one_super name past.run None (none_in past name a tree v done none)) follow follow

pub not_deleted : (past : Past) (name id : List ℕ) (a : ProgressForm) (tree : List App) (hs : HeldSlots) (v w : View) → HasDone past a tree v → AreLonger v w → has_one_supervisor name tree ≡ false
    → AllFollow past.first past.run.courses hs w → IsNotMade past (deletes name id) superless hs v w
not_deleted past name id a tree hs v w done longer none follow =
    without_super past (deletes name id) hs v w longer (λ seen. not_one_super name past.run None (none_in past name a tree v done none)) follow follow

-- a child that stays has no fault
stays_sound : (seen : Values) (name id : List ℕ) (r : Run) → has_one_supervisor name r.apps ≡ true → child_stays_at seen (restarts name id) r ≡ true
    → child_call_fault seen (restarts name id) r ≡ None
stays_sound seen name id r one stays =
    one_super name r (restart_call_fault (child_stays_at seen (restarts name id) r) name id r) one ∙ ap (λ (b : Bool). restart_call_fault b name id r) stays

-- one that doesn't fails by what is wrong with it, or for its room
begins_fault : (seen : Values) (name id : List ℕ) (r : Run) (p : Place) (f : Option StartFault) → has_one_supervisor name r.apps ≡ true → child_stays_at seen (restarts name id) r ≡ false
    → child_place name id r.apps ≡ Some p → restart_fault (tables_among r.modules) p.child ≡ f
    → child_call_fault seen (restarts name id) r ≡ start_fault_or f (length (restart_starts (tables_among r.modules) p)) (room_in r.values (child_ended (scene_of r) (Some p)))
begins_fault seen name id r p f one goes there is =
    one_super name r (restart_call_fault (child_stays_at seen (restarts name id) r) name id r) one
    ∙ (ap (λ (b : Bool). restart_call_fault b name id r) goes
    ∙ (ap (λ (o : Option Place). restart_fault_at o (tables_among r.modules) r) there
    ∙ ap (λ (g : Option StartFault). start_fault_or g (length (restart_starts (tables_among r.modules) p)) (room_in r.values (child_ended (scene_of r) (Some p)))) is))

-- a child that stays
kept : (past : Past) (name id : List ℕ) (a : ProgressForm) (tree tree' : List App) (hs : HeldSlots) (v w : View) → HasDone past a tree v
    → IsKeptIn past.first name id (scene_of past.run) tree' hs v w → IsMade past (restarts name id) true (record a { held = hs }) tree' v w
kept past name id a tree tree' hs v w done is = record {
  then_view = is.stay.0;
  seen = is.stay.1;
  sound = stays_sound (values_seen is.stay.0) name id past.run is.one (sym is.stay.2);
  reported = is.stay.2;
  since = is.stay.3;
  longer = is.stay.4;
  taken = is.stay.5;
  now = is.stay.6;
  done = done_as past a tree tree' hs v w (scene_of past.run) done is.tree is.follow;
}

-- a child that began again
begun : (past : Past) (name id : List ℕ) (a : ProgressForm) (tree tree' : List App) (hs : HeldSlots) (v w : View) → HasDone past a tree v
    → IsRestartedIn past.first name id (tables_among past.run.modules) (scene_of past.run) tree' hs v w → IsMade past (restarts name id) false (record a { held = hs }) tree' v w
begun past name id a tree tree' hs v w done is =
    let r = past.run in
    let tables = tables_among r.modules in
    let p = is.place in
    let seen = values_seen is.stay.0 in
    let goes : false ≡ child_stays_at seen (restarts name id) r = is.stay.2 ∙ ap (child_stays UpOrTemporary (now_in seen r.courses)) (sym is.there) in
    let room = room_fault (length (restart_starts tables p)) (room_in r.values (child_ended (scene_of r) (Some p))) false (le-ltb _ _ is.room) in
    record {
      then_view = is.stay.0;
      seen = is.stay.1;
      sound = begins_fault seen name id r p None is.one (sym goes) is.there is.sound ∙ room;
      reported = goes;
      since = is.stay.3;
      longer = is.stay.4;
      taken = subst (λ (o : Option Place). IsChildTaken r.courses o v w) (sym is.there) is.stay.5;
      now = λ stays. absurd (true≢false (sym stays));
      done = subst (λ (o : Option Place). HasDone (record past { run = restarted_at name id o r }) (record a { held = hs }) tree' w) (sym is.there)
          (done_as past a tree tree' hs v w (with_restarted name id tables p (scene_of r)) done is.tree is.follow);
    }

-- a child began again, or stays
pub restarted : (past : Past) (name id : List ℕ) (stays : Bool) (a : ProgressForm) (tree tree' : List App) (hs : HeldSlots) (v w : View) (next : Modules) → HasDone past a tree v
    → ((m : List ℕ) → next m ≡ module_named m a.next) → RestartsIn past.first name id (tables_of next) (scene_at (followed_in past) tree) (Ok stays) tree' hs v w
    → IsMade past (restarts name id) stays (record a { held = hs }) tree' v w
restarted past name id stays a tree tree' hs v w next done listed is =
    by stays (subst₂ (λ (t : Tables) (s : Scene). RestartsIn past.first name id t s (Ok stays) tree' hs v w) (tables_are past a tree v next done listed) (scene_is past a tree v done) is)
  where
    by : (b : Bool) → RestartsIn past.first name id (tables_among past.run.modules) (scene_of past.run) (Ok b) tree' hs v w → IsMade past (restarts name id) b (record a { held = hs }) tree' v w
    by true here = kept past name id a tree tree' hs v w done here
    by false here = begun past name id a tree tree' hs v w done here

-- why it didn't is the fault of the call
why_not : (past : Past) (name id : List ℕ) (seen : Values) (p : Place) (x : RestartError) → has_one_supervisor name past.run.apps ≡ true → child_stays_at seen (restarts name id) past.run ≡ false
    → child_place name id past.run.apps ≡ Some p → IsWhyItDidNot x (tables_among past.run.modules) p (scene_of past.run) → IsCause (child_call_fault seen (restarts name id) past.run) (restart_cause x)
why_not past name id seen p NoSuper one goes there why = absurd why
why_not past name id seen p (NoTable m) one goes there why = begins_fault seen name id past.run p (Some (walk.StartFault.no_table (string_bytes m))) one goes there why
why_not past name id seen p Unsupported one goes there why = begins_fault seen name id past.run p (Some walk.StartFault.unsupported) one goes there why
why_not past name id seen p NoSlot one goes there why =
    begins_fault seen name id past.run p None one goes there why.0
    ∙ room_fault (length (restart_starts (tables_among past.run.modules) p)) (room_in past.run.values (child_ended (scene_of past.run) (Some p))) true (lt-ltb _ _ why.1)
why_not past name id seen p NoMemory one goes there why = tt

-- what stood for it is given up, or not
given_up_as : (past : Past) (name id : List ℕ) (p : Place) (given_up : Bool) (hs : HeldSlots) (w : View) → child_place name id past.run.apps ≡ Some p
    → AllFollow past.first (if given_up then child_ended (scene_of past.run) (Some p) else past.run.courses) hs w → AllFollow past.first (child_within (restarts name id) (if given_up then 1 else 0) past.run) hs w
given_up_as past name id p true hs w there follow = subst (λ (o : Option Place). AllFollow past.first (child_ended (scene_of past.run) o) hs w) (sym there) follow
given_up_as past name id p false hs w there follow = follow

-- which is what the call counts
goes_as : (x : RestartError) (p : Place) (r : Run) → gives_up x p r.courses ≡ child_goes (restart_cause x) (Some p) r
goes_as NoSuper p r = refl
goes_as (NoTable m) p r = refl
goes_as Unsupported p r = refl
goes_as NoSlot p r = refl
goes_as NoMemory p r = refl

-- a child didn't begin again
pub not_restarted : (past : Past) (name id : List ℕ) (x : NotRestarted) (e : Failure) (a : ProgressForm) (tree tree' : List App) (hs : HeldSlots) (v w : View) (next : Modules) → HasDone past a tree v → AreLonger v w
    → ((m : List ℕ) → next m ≡ module_named m a.next) → cause_of e.cause ≡ restart_cause x.error → e.modules ≡ (if x.given_up then 1 else 0)
    → RestartsIn past.first name id (tables_of next) (scene_at (followed_in past) tree) (Err x) tree' hs v w → IsNotMade past (restarts name id) e hs v w
not_restarted past name id x e a tree tree' hs v w next done whole listed caused counted is =
    by x.error refl (subst₂ (λ (t : Tables) (s : Scene). RestartsIn past.first name id t s (Err x) tree' hs v w) (tables_are past a tree v next done listed) (scene_is past a tree v done) is)
  where
    its : (c : Cause) (n : ℕ) → c ≡ cause_of e.cause → n ≡ e.modules → (u : View) → n ≡ child_count (values_seen u) c (restarts name id) past.run → IsSeen past.first past.run u → IsCause (child_call_fault (values_seen u) (restarts name id) past.run) c → (is_memory c ≡ true → may_begin (values_seen u) name id past.run ≡ true) → AreLonger v u → AreLonger u w
        → (c ≢ no_super → IsChildTaken past.run.courses (child_place name id past.run.apps) v w) → AllFollow past.first (child_within (restarts name id) n past.run) hs w → IsNotMade past (restarts name id) e hs v w
    its c n same number u counts seen fails asks since longer taken follow = record {
      then_view = u;
      fails = cause_seen past.first u past.run (child_call_fault (values_seen u) (restarts name id) past.run) (cause_of e.cause)
          (subst (IsCause (child_call_fault (values_seen u) (restarts name id) past.run)) same fails) seen;
      asks = λ m. asks (ap is_memory same ∙ m);
      since = since;
      longer = longer;
      taken = λ other. taken (λ is. other (sym same ∙ is));
      seen = seen;
      counted = sym number ∙ (counts ∙ ap (λ (k : Cause). child_count (values_seen u) k (restarts name id) past.run) same);
      partly = subst (λ (m : ℕ). AllFollow past.first (child_within (restarts name id) m past.run) hs w) number follow;
    }

    gone : IsNotRestartedIn past.first name id (tables_among past.run.modules) (scene_of past.run) x tree' hs v w → IsNotMade past (restarts name id) e hs v w
    gone f =
        let u = f.stay.0 in
        let goes : false ≡ child_stays_at (values_seen u) (restarts name id) past.run = f.stay.2 ∙ ap (child_stays UpOrTemporary (now_in (values_seen u) past.run.courses)) (sym f.there) in
        let given : x.given_up ≡ child_goes (restart_cause x.error) (child_place name id past.run.apps) past.run =
        f.given_up ∙ (goes_as x.error f.place past.run ∙ ap (λ (o : Option Place). child_goes (restart_cause x.error) o past.run) (sym f.there)) in
        let begins : may_begin (values_seen u) name id past.run ≡ true = ap₂ (λ (one stays : Bool). one && not stays) f.one (sym goes) in
        let counts : child_goes (restart_cause x.error) (child_place name id past.run.apps) past.run
        ≡ (may_begin (values_seen u) name id past.run && child_goes (restart_cause x.error) (child_place name id past.run.apps) past.run) =
        ap (λ (b : Bool). b && child_goes (restart_cause x.error) (child_place name id past.run.apps) past.run) (sym begins) in
        its (restart_cause x.error) (if x.given_up then 1 else 0) (sym caused) (sym counted) u (ap (λ (b : Bool). if b then 1 else 0) (given ∙ counts)) f.stay.1 (why_not past name id (values_seen u) f.place x.error f.one (sym goes) f.there f.why) (λ _. begins) f.stay.3 f.stay.4
        (λ _. subst (λ (o : Option Place). IsChildTaken past.run.courses o v w) (sym f.there) f.stay.5)
        (given_up_as past name id f.place x.given_up hs w f.there f.follow)

    by : (k : RestartError) → x.error ≡ k → FailsToRestart k past.first name id (tables_among past.run.modules) (scene_of past.run) x tree' hs v w → IsNotMade past (restarts name id) e hs v w
    by NoSuper named f =
        its no_super 0 (sym (caused ∙ ap restart_cause named)) (sym (counted ∙ ap (λ (b : Bool). if b then 1 else 0) f.1)) w (none_given_up (values_seen w) (restarts name id) past.run) (seen_of past.first past.run past.run.courses hs w (λ p. refl) f.3)
        (not_one_super name past.run (restart_call_fault (child_stays_at (values_seen w) (restarts name id) past.run) name id past.run) f.0) (λ m. absurd (cc m)) whole (longer_still w) (λ other. absurd (other refl)) f.3
    by (NoTable m) named f = gone f
    by Unsupported named f = gone f
    by NoSlot named f = gone f
    by NoMemory named f = gone f
