-- What a crash leaves of a handler that works starts no one-shot.
use Rattle.std.proofs.Common.{◌≡◌, inl, inr, Bool, true, false, cond, find, [], ◌∷◌, Contains, Option, Some, None, refl, sym, ap, ◌∙◌, subst, true≢false}
use Rattle.std.specs.Option.{option_map, option_or}
use Rattle.rel_check.proofs.Members.{first_member, later_member}
use Rattle.rel_disk.specs.declared.disk.Disk.{Ghosts}
use Rattle.rel_files.specs.Release.{Release}
use Rattle.rel_list.specs.declared.status.Status.{Status}
use Rattle.rel_list.specs.declared.status.Status.TheVariants.{Unpacked, Current, Old, Permanent, OneShot}
use Rattle.rel_list.specs.Status.{is_current, is_permanent}
use Rattle.rel_list.specs.Event.{recorded, recorded_status}
use Rattle.rel_list.specs.Releases.{Entry, Releases, has_one_shot, running, permanent}
use Rattle.rel_list.proofs.OneShotLaws.{none_recorded}
use Rattle.rel_records.proofs.EventRecords.{recorded-twice}
use Rattle.node_store.specs.State.{list_in, is_dead, IsSound}
use Rattle.rel_handler.specs.NodeStore.{NodeStore}
use Rattle.rel_handler.proofs.BootMoments.{image_alike}
use Rattle.node_store.proofs.Commits.{image_now}
use Rattle.node_start.specs.Running.{IsRunOut, IsSettledStatus, RunsOnce}

abbrev as_recorded : Entry → Entry
as_recorded e = record e { status = recorded_status e.status }

-- the first release whose status passes a test, in the list as records report it
found_recorded : (test : Status → Bool) (es : Releases) (e : Entry) → find (λ (f : Entry). test f.status) es ≡ Some e → Contains (recorded es) (as_recorded e) × (test e.status ≡ true)
found_recorded test [] e is = cc is
found_recorded test (f ∷ es) e is = go (test f.status) refl is (found_recorded test es e)
  where
    go : (b : Bool) → test f.status ≡ b → cond b (Some f) (find (λ (f : Entry). test f.status) es) ≡ Some e
        → (find (λ (f : Entry). test f.status) es ≡ Some e → Contains (recorded es) (as_recorded e) × (test e.status ≡ true))
        → Contains (recorded (f ∷ es)) (as_recorded e) × (test e.status ≡ true)
    go true passes is later =
        let same : f ≡ e = cc is in
        (subst (λ x. Contains (recorded (f ∷ es)) (as_recorded x)) same (first_member (as_recorded f) (recorded es)), ap (λ (x : Entry). test x.status) (sym same) ∙ passes)
    go false passes is later = (later_member (as_recorded f) (recorded es) (as_recorded e) (later is).0, (later is).1)

settled_current : (s : Status) → is_current s ≡ true → IsSettledStatus (recorded_status s)
settled_current Unpacked is = inr refl
settled_current Current is = inr refl
settled_current Old is = absurd (true≢false (sym is))
settled_current Permanent is = inl refl
settled_current OneShot is = absurd (true≢false (sym is))

settled_permanent : (s : Status) → is_permanent s ≡ true → IsSettledStatus (recorded_status s)
settled_permanent Unpacked is = inr refl
settled_permanent Current is = inr refl
settled_permanent Old is = absurd (true≢false (sym is))
settled_permanent Permanent is = inl refl
settled_permanent OneShot is = absurd (true≢false (sym is))

-- the release that runs is permanent there, or unpacked
module _ (es : Releases) (r : Release) (none : has_one_shot es ≡ false) where
  of_entry : (e : Entry) → e.release ≡ r → Contains (recorded es) (as_recorded e) → IsSettledStatus (recorded_status e.status) → IsRunOut r (recorded es)
  of_entry e same listed settled = record { free = none_recorded es none; entry = as_recorded e; listed = listed; of_release = same; settled = settled }

  by_permanent : (o : Option Entry) → find (λ (e : Entry). is_permanent e.status) es ≡ o → option_map (λ (e : Entry). e.release) o ≡ Some r → IsRunOut r (recorded es)
  by_permanent None found is = cc is
  by_permanent (Some e) found is =
      let (listed, passes) = found_recorded is_permanent es e found in
      of_entry e (let same : e.release ≡ r = cc is in same) listed (settled_permanent e.status passes)

  by_current : (o : Option Entry) → find (λ (e : Entry). is_current e.status) es ≡ o → option_or (option_map (λ (e : Entry). e.release) o) (permanent es) ≡ Some r → IsRunOut r (recorded es)
  by_current None found is = by_permanent (find (λ (e : Entry). is_permanent e.status) es) refl is
  by_current (Some e) found is =
      let (listed, passes) = found_recorded is_current es e found in
      of_entry e (let same : e.release ≡ r = cc is in same) listed (settled_current e.status passes)

  pub run_out : running es ≡ Some r → IsRunOut r (recorded es)
  run_out is = by_current (find (λ (e : Entry). is_current e.status) es) refl is

pub runs_once : {D : Type 0} (v : Ghosts D) (h : NodeStore D) → IsSound v.seen v.may_leave h → is_dead h ≡ false → RunsOnce v.may_leave h
runs_once v h sound alive r is c now =
    let es = list_in h in (
      recorded es,
      image_alike c es (recorded es) (sym (recorded-twice es)) (λ one. recorded-twice es) (image_now v h (sound.ready alive) c now).image_of,
      recorded-twice es,
      run_out es r (sound.free alive) is,
    )
