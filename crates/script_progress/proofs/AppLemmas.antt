-- Calls that start applications.
use Rattle.std.proofs.Common.{◌≡◌, ℕ, Bool, true, false, not, nat_lt, List, length, if◌then◌else◌, sym, ap, subst, subst₂, ◌∙◌, Option, None, Some, is_some, Ok}
use Rattle.std.proofs.lemmas.Bool.{le-ltb, lt-ltb}
use Rattle.std.specs.Option.{option_and_then}
use Rattle.library.specs.Library.{Library}
use Rattle.proc_table.specs.declared.view.View.{View}
use Rattle.mod_table.specs.Tables.{Tables}
use Rattle.held_processes.specs.Operations.{values_seen}
use Rattle.held_processes.specs.Applications.{IsStartedIn, Scene, room_in, scene_at, with_started}
use Rattle.sup_tree.specs.declared.error.StartError.{StartError}
use Rattle.sup_tree.specs.declared.error.StartError.TheVariants.{AlreadyStarted, NoTable, Unsupported, NoSlot, NoMemory}
use Rattle.loaded_modules.specs.Loaded.{Module, Modules, module_named, tables_of}
use Rattle.sup_tree.specs.Starts.{IsWhy}
use Rattle.sup_tree.specs.Tree.{App, app_named}
use Rattle.sup_tree.specs.Walk.{StartFault, app_fault, app_starts}
use Rattle.script_progress.specs.Apps.{StartsFrom, start_cause}
use Rattle.script_progress.specs.Fault.{Cause, app_start_fault, start_fault, start_fault_or}
use Rattle.script_progress.specs.Fault.Cause.{no_table, no_slot, unsupported, no_memory}
use Rattle.script_progress.specs.Script.{Run, scene_of, started_from, tables_among, with_scene}
use Rattle.script_progress.specs.Steps.{HasDone, IsCause, Past, ProgressForm, followed_in}
use Rattle.script_progress.specs.Stops.{may_start}

-- what is loaded is found as it is listed
pub tables_are : (past : Past) (a : ProgressForm) (tree : List App) (v : View) (next : Modules) → HasDone past a tree v → ((name : List ℕ) → next name ≡ module_named name a.next)
    → tables_of next ≡ tables_among past.run.modules
tables_are past a tree v next done listed = λ j name. option_and_then (λ (m : Module). m.table) ((listed name ∙ ap (module_named name) done.next) j)

-- the applications and processes are those of the script
pub scene_is : (past : Past) (a : ProgressForm) (tree : List App) (v : View) → HasDone past a tree v → scene_at (followed_in past) tree ≡ scene_of past.run
scene_is past a tree v done =
    let values = sym done.values in
    λ j. record { values = values j; apps = done.apps j; courses = past.run.courses }

-- one that isn't started fails by its children and its room
new_fault : (l : Library) (r : Run) → app_named l.app.name r.apps ≡ None → start_fault (Some l) r ≡ app_start_fault l.app.top (tables_among r.modules) r
new_fault l r new = ap (λ (o : Option App). if is_some o then None else app_start_fault l.app.top (tables_among r.modules) r) new

sound_fault : (top : Option (List ℕ)) (tables : Tables) (r : Run) (f : Option StartFault) → app_fault tables top ≡ f
    → app_start_fault top tables r ≡ start_fault_or f (length (app_starts tables top)) (room_in r.values r.courses)
sound_fault top tables r f is = ap (λ (g : Option StartFault). start_fault_or g (length (app_starts tables top)) (room_in r.values r.courses)) is

pub room_fault : (need room : ℕ) (b : Bool) → nat_lt room need ≡ b → start_fault_or None need room ≡ (if b then Some no_slot else None)
room_fault need room b is = ap (λ (c : Bool). if c then Some no_slot else None) is

-- the application is started
pub started_well : (past : Past) (l : Library) (a : ProgressForm) (tree tree' : List App) (v w : View) (next : Modules) → HasDone past a tree v → ((name : List ℕ) → next name ≡ module_named name a.next)
    → IsStartedIn past.first l.app.name l.app.top (tables_of next) (scene_at (followed_in past) tree) tree' a.held w → StartsFrom {X = Unit {0}} (Some l) past (Ok tt) a tree' w
started_well past l a tree tree' v w next done listed started =
    let r = past.run in
    let tables = tables_among r.modules in
    let here : IsStartedIn past.first l.app.name l.app.top tables (scene_of r) tree' a.held w =
    subst₂ (λ (t : Tables) (s : Scene). IsStartedIn past.first l.app.name l.app.top t s tree' a.held w) (tables_are past a tree v next done listed) (scene_is past a tree v done) started in
    let run : started_from (Some l) r ≡ with_scene r (with_started l.app.name l.app.top tables (scene_of r)) =
    ap (λ (o : Option App). if is_some o then r else with_scene r (with_started l.app.name l.app.top tables (scene_of r))) here.new in (
      new_fault l r here.new ∙ (sound_fault l.app.top tables r None here.sound ∙ room_fault (length (app_starts tables l.app.top)) (room_in r.values r.courses) false (le-ltb _ _ here.room)),
      subst (λ (q : Run). HasDone (record past { run = q }) a tree' w) (sym run)
          (record { follow = here.follow; fetched = done.fetched; next = done.next; apps = here.tree; values = done.values }),
    )

-- why it isn't
why_not : (past : Past) (l : Library) (e : StartError) (c : Cause)
    → IsWhy e l.app.name l.app.top (tables_among past.run.modules) past.run.apps (room_in past.run.values past.run.courses) → start_cause e ≡ Some c
    → IsCause (start_fault (Some l) past.run) c
why_not past l AlreadyStarted c why is = absurd (cc is)
why_not past l (NoTable m) c why is =
    let same : no_table ≡ c = cc is in
    subst (IsCause (start_fault (Some l) past.run)) same (new_fault l past.run why.0 ∙ sound_fault l.app.top (tables_among past.run.modules) past.run _ why.1)
why_not past l Unsupported c why is =
    let same : unsupported ≡ c = cc is in
    subst (IsCause (start_fault (Some l) past.run)) same (new_fault l past.run why.0 ∙ sound_fault l.app.top (tables_among past.run.modules) past.run _ why.1)
why_not past l NoSlot c why is =
    let same : no_slot ≡ c = cc is in
    let r = past.run in
    subst (IsCause (start_fault (Some l) r)) same
    (new_fault l r why.0 ∙ (sound_fault l.app.top (tables_among r.modules) r None why.1 ∙ room_fault (length (app_starts (tables_among r.modules) l.app.top)) (room_in r.values r.courses) true (lt-ltb _ _ why.2)))
why_not past l NoMemory c why is =
    let same : no_memory ≡ c = cc is in
    subst (IsCause (start_fault (Some l) past.run)) same tt

-- one that fails wasn't started yet
was_new : (name : List ℕ) (top : Option (List ℕ)) (tables : Tables) (apps : List App) (room : ℕ) (e : StartError) (c : Cause) → IsWhy e name top tables apps room → start_cause e ≡ Some c
    → app_named name apps ≡ None
was_new name top tables apps room AlreadyStarted c why is = absurd (cc is)
was_new name top tables apps room (NoTable m) c why is = why.0
was_new name top tables apps room Unsupported c why is = why.0
was_new name top tables apps room NoSlot c why is = why.0
was_new name top tables apps room NoMemory c why is = why

pub start_asks : (past : Past) (l : Library) (a : ProgressForm) (tree : List App) (v : View) (tables : Tables) (room : ℕ) (e : StartError) (c : Cause) → HasDone past a tree v
    → IsWhy e l.app.name l.app.top tables tree room → start_cause e ≡ Some c → may_start (Some l) past.run ≡ true
start_asks past l a tree v tables room e c done why is =
    ap (λ (o : Option App). not (is_some o)) (ap (app_named l.app.name) (sym done.apps) ∙ was_new l.app.name l.app.top tables tree room e c why is)

pub start_fails : (past : Past) (l : Library) (a : ProgressForm) (tree : List App) (v : View) (next : Modules) (e : StartError) (c : Cause) → HasDone past a tree v → ((name : List ℕ) → next name ≡ module_named name a.next)
    → IsWhy e l.app.name l.app.top (tables_of next) tree (room_in (values_seen past.first) past.run.courses) → start_cause e ≡ Some c → IsCause (start_fault (Some l) past.run) c
start_fails past l a tree v next e c done listed why is =
    why_not past l e c
    (subst₂ (λ (t : Tables) (s : Scene). IsWhy e l.app.name l.app.top t s.apps (room_in s.values s.courses)) (tables_are past a tree v next done listed) (scene_is past a tree v done) why) is
