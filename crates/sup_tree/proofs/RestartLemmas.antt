-- A child that begins again, or why it doesn't.
use Rattle.std.proofs.Common.{◌≡◌, ◌∙◌, ℕ, Bool, true, false, List, Option, Some, None, Result, Ok, Err, slice_index_or, refl, ap, subst, subst₂}
use Rattle.std.specs.Prelude.{Vec}
use Rattle.std.specs.Option.{option_map_or}
use Rattle.std.specs.Result.{result_map_both}
use Rattle.std.specs.declared.alloc.Global.{Global}
use Rattle.proc_table.specs.declared.view.View.{View}
use Rattle.started_members.specs.Tables.{Tables}
use Rattle.sup_tree.specs.declared.error.RestartError.{RestartError}
use Rattle.sup_tree.specs.declared.error.RestartError.TheVariants.{NoSuper, NoTable, Unsupported, NoSlot, NoMemory}
use Rattle.started_members.specs.declared.begins.Preparation.{Preparation}
use Rattle.started_members.specs.declared.looks.Stay.TheVariants.{UpOrTemporary}
use Rattle.started_members.specs.declared.member.Member.{Member}
use Rattle.started_members.specs.Places.{AreAt, IsRange, Place, in_place, replaced}
use Rattle.sup_tree.specs.Children.{apps_with, child_place, has_one_supervisor}
use Rattle.started_members.specs.Looks.{StateLookedAt, kept_at}
use Rattle.sup_tree.specs.Restarts.{BeginsAgain, Prepares, RestartFaultIs, Restarts, RestartsChild, RestartsUnless, app_at, super_app}
use Rattle.started_members.specs.Begins.{restart_fault, restart_members, members_at}
use Rattle.started_members.specs.Ends.{MemberEnded}
use Rattle.sup_tree.specs.Tree.{App}
use Rattle.started_members.specs.Members.{pids_of, process_in}
use Rattle.started_members.proofs.PlaceLemmas.{first_is}

-- of a child that was prepared as it stands there, or why it wasn't
pub child_prepared : (tables : Tables) (app name : List ℕ) (p : Place) (ms : List Member) (start end : ℕ) (m : Member) (r : Result (Vec Preparation Global) RestartError) → IsRange ms p start end → m ≡ slice_index_or ms start m → name ≡ app
    → Prepares tables name m r → Prepares tables app p.child r
child_prepared tables app name p ms start end m r at is named = subst₂ (λ (n : List ℕ) (c : Member). Prepares tables n c r) named (first_is p ms start end m at is)

-- what stood for a child was given up, where its member was read once there was room for more
pub child_ended : (p : Place) (ms ns : List Member) (start end : ℕ) (m : Member) (v w : View) → IsRange ms p start end → ns ≡ ms → m ≡ slice_index_or ns start m → MemberEnded (process_in m) v w → MemberEnded (process_in p.child) v w
child_ended p ms ns start end m v w at same is = subst (λ (c : Member). MemberEnded (process_in c) v w) (first_is p ms start end m at (is ∙ ap (λ (l : List Member). slice_index_or l start m) same))

-- nothing was done
pub not_begun : {A : Type 0} (tables : Tables) (app : List ℕ) (p : Place) (change : List Member → A) (old : A) (v : View) (e : RestartError) → RestartFaultIs e (restart_fault tables p.child)
    → BeginsAgain {A = A} {X = Unit {0}} tables app p change old v (Err e) old v
not_begun tables app p change old v NoSuper fault = absurd fault
not_begun tables app p change old v (NoTable m) fault = ((fault, refl), refl)
not_begun tables app p change old v Unsupported fault = ((fault, refl), refl)
not_begun tables app p change old v NoSlot fault = absurd fault
not_begun tables app p change old v NoMemory fault = ((tt, refl), refl)

-- where the child is there, and doesn't stay by a look at what stands for it, what is said of its place is said of the application
pub begun_again : (tables : Tables) (app : App) (o : Option Place) (start end : ℕ) (m : Member) (v look : View) (r : Result Unit RestartError) (new : App) (w : View)
    → AreAt o app.members (Some (start, end)) → m ≡ slice_index_or app.members start m → StateLookedAt (kept_at UpOrTemporary m.restart) m.state false v look
    → ((p : Place) → IsRange app.members p start end → BeginsAgain tables app.name p (app_at p app) app look r new w)
    → Restarts tables app.name o (λ (ms : List Member). record app { members = option_map_or (replaced (in_place ms)) o app.members }) app v (result_map_both (λ x. false) (λ e. e) r) new w
begun_again tables app None start end m v look r new w at is looked begun = absurd at
begun_again tables app (Some p) start end m v look r new w at is looked begun = record {
  stays = false;
  look = look;
  looked = subst (λ (c : Member). StateLookedAt (kept_at UpOrTemporary c.restart) c.state false v look) (first_is p app.members start end m at is) looked;
  outcome = by r (begun p at);
}
  where
    by : (r : Result Unit RestartError) → BeginsAgain tables app.name p (app_at p app) app look r new w → RestartsUnless false tables app.name (Some p) (app_at p app) app look (result_map_both (λ x. false) (λ e. e) r) new w
    by (Ok x) here = here
    by (Err e) here = here

-- what is said of an application is said of the tree, where that changes with it
pub lifted : {A B : Type 0} (tables : Tables) (app : List ℕ) (o : Option Place) (change : List Member → A) (change' : List Member → B) (old new : A) (old' new' : B) (v : View) (r : Result Bool RestartError) (w : View)
    → (new ≡ old → new' ≡ old') → ((ms : List Member) → new ≡ change ms → new' ≡ change' ms) → Restarts tables app o change old v r new w → Restarts tables app o change' old' v r new' w
lifted {A} {B} tables app o change change' old new old' new' v r w same changed is =
    record { stays = is.stays; look = is.look; looked = is.looked; outcome = by is.stays o r is.outcome }
  where
    by : (stays : Bool) (o : Option Place) (r : Result Bool RestartError) → RestartsUnless {A = A} stays tables app o change old is.look r new w → RestartsUnless {A = B} stays tables app o change' old' is.look r new' w
    by true o r (answer, here, seen) = (answer, same here, seen)
    by false None r here = absurd here
    by false (Some p) (Ok true) here = absurd here
    by false (Some p) (Ok false) here =
        record { sound = here.sound; after_end = here.after_end; ended = here.ended; processes = here.processes; began = here.began; is = changed (members_at (restart_members tables p.child) (pids_of here.processes)) here.is }
    by false (Some p) (Err e) here = (here.0, same here.1)

-- where exactly one supervisor of the module is started, its lack isn't reported
pub with_one : (name id : List ℕ) (tables : Tables) (apps : List App) (v : View) (r : Result Bool RestartError) (apps' : List App) (w : View) → has_one_supervisor name apps ≡ true
    → Restarts tables (super_app name apps) (child_place name id apps) (λ (ms : List Member). apps_with (in_place ms) name id apps) apps v r apps' w → RestartsChild name id tables apps v r apps' w
with_one name id tables apps v (Ok b) apps' w one is = (one, is)
with_one name id tables apps v (Err (NoTable m)) apps' w one is = (one, is)
with_one name id tables apps v (Err Unsupported) apps' w one is = (one, is)
with_one name id tables apps v (Err NoSlot) apps' w one is = (one, is)
with_one name id tables apps v (Err NoMemory) apps' w one is = (one, is)
with_one name id tables apps v (Err NoSuper) apps' w one is = absurd (by is.stays (child_place name id apps) is.outcome)
  where
    by : (stays : Bool) (o : Option Place) → RestartsUnless stays tables (super_app name apps) o (λ (ms : List Member). apps_with (in_place ms) name id apps) apps is.look (Err NoSuper) apps' w → ⊥
    by true o (answer, here, seen) = cc answer
    by false None here = here
    by false (Some p) here = here.0.0
