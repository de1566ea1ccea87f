-- What an image makes of an empty list, events make of it, and then statuses.
use Rattle.std.proofs.Common.{◌≡◌, ◌⊎◌, ℕ, inl, inr, true, List, [], ◌∷◌, length, map, take, drop, Some, refl, sym, ap, ◌∙◌, subst}
use Rattle.std.specs.Prelude.{◌&&◌, ◌==◌, nat_lt}
use Rattle.std.specs.Option.{option_and_then}
use Rattle.rel_files.proofs.Options.{chained, passed}
use Rattle.library.specs.Library.{Library}
use Rattle.rel_list.specs.declared.status.Status.TheVariants.{Current, Old, OneShot, Permanent, Unpacked}
use Rattle.rel_list.specs.Releases.{Releases, entry}
use Rattle.rel_list.specs.Event.{Event, recorded, list_after, list_assigned, list_from, step}
use Rattle.rel_list.specs.Event.Event.{made, unpacked}
use Rattle.rel_list.specs.Change.{may_be_given}
use Rattle.rel_list.specs.declared.status.Status.{Status}
use Rattle.rel_records.specs.Limits.{has_one_permanent, is_small, most_releases}
use Rattle.rel_records.specs.Lists.{all_come_in, assign_all, assigned, comes_in, count_new, may_be_assigned, own_status}
use Rattle.rel_records.specs.Record.{Assignment, Imaged, adds, images, makes}
use Rattle.rel_records.proofs.EventRecords.{one-push}
use Rattle.rel_records.proofs.RecordPlaces.{assigned_so, event_of_record, pushed_last, settled_behind}

-- A release of an image comes in by an event, and leaves one release permanent.
record ComesBy (es next : Releases) : Type 0 where
  event : Event
  leads : step event es ≡ Some next
  one : has_one_permanent next ≡ true

-- there is no release yet, or one is permanent
abbrev IsOrderly : Releases → Type 0
IsOrderly es = (es ≡ []) ⊎ (has_one_permanent es ≡ true)

comes_by : (x : Imaged) (ls : List Library) (es next : Releases) → IsOrderly es → comes_in x ls es ≡ Some next → ComesBy es next
comes_by x ls [] next orderly e =
    let (p, of, is) = event_of_record made (is_small x.release) x.release ls x.relup [] next e in
    let same : entry p Permanent ∷ [] ≡ next = cc is in
    record { event = made p; leads = is; one = ap has_one_permanent (sym same) }
comes_by x ls (f ∷ es) next (inl none) e = cc none
comes_by x ls (f ∷ es) next (inr one) e =
    let (p, of, is) = event_of_record unpacked (is_small x.release && nat_lt (length (f ∷ es)) most_releases) x.release ls x.relup (f ∷ es) next e in
    record {
      event = unpacked p;
      leads = is;
      one = ap has_one_permanent (sym (pushed_last p (f ∷ es) next is)) ∙ ap (λ l. length l == 1) (one-push (f ∷ es) (entry p Unpacked) refl) ∙ one;
    }

comes_settled : (x : Imaged) (ls : List Library) (es next : Releases) → comes_in x ls es ≡ Some next → recorded es ≡ es → recorded next ≡ next
comes_settled x ls [] next e same = settled_behind (makes x.release ls x.relup) [] next e same
comes_settled x ls (f ∷ es) next e same = settled_behind (adds x.release ls x.relup) (f ∷ es) next e same

-- All of them come in by events.
record ComeBy (es next : Releases) : Type 0 where
  events : List Event
  leads : list_from es events ≡ Some next
  settled : recorded next ≡ next
  orderly : IsOrderly next

come_by : (xs : List Imaged) (ls : List Library) (es next : Releases) → recorded es ≡ es → IsOrderly es → all_come_in xs ls es ≡ Some next → ComeBy es next
come_by [] [] es next same orderly e =
    let here : es ≡ next = cc e in record { events = []; leads = e; settled = subst (λ l. recorded l ≡ l) here same; orderly = subst IsOrderly here orderly }
come_by [] (l ∷ ls) es next same orderly e = absurd cc
come_by (x ∷ xs) ls es next same orderly e =
    let n = count_new es x.release.apps in
    let (mid, came, rest) = chained (all_come_in xs (drop n ls)) (comes_in x (take n ls) es) next e in
    let first = comes_by x (take n ls) es mid orderly came in
    let later = come_by xs (drop n ls) mid next (comes_settled x (take n ls) es mid came same) (inr first.one) rest in
    record {
      events = first.event ∷ later.events;
      leads = ap (option_and_then (λ l. list_from l later.events)) first.leads ∙ later.leads;
      settled = later.settled;
      orderly = later.orderly;
    }

-- no status makes a release
none_set : (given : List Assignment) (next : Releases) → assign_all given [] ≡ Some next → next ≡ []
none_set [] next e = cc e
none_set (a ∷ given) next e =
    let (may, rest) = passed (may_be_assigned a []) (assign_all given (list_assigned a.vsn a.status [])) next e in
    absurd (nobody a.status a.vsn may)
  where
    nobody : (s : Status) (v : List ℕ) → may_be_given s v [] ≡ true → ⊥
    nobody Unpacked v may = cc
    nobody Current v may = cc
    nobody Old v may = cc
    nobody Permanent v may = cc
    nobody OneShot v may = cc

-- Events lead to a list with one permanent release and none that is current, of which the statuses make the list of the image.
pub record IsRestoredBy (xs : List Imaged) (next : Releases) : Type 0 where
  pub before : Releases
  pub events : List Event
  pub leads : list_after events ≡ Some before
  pub settled : recorded before ≡ before
  pub one : has_one_permanent before ≡ true
  pub set : assign_all (map own_status xs) before ≡ Some next

pub restored_by : (xs : List Imaged) (ls : List Library) (next : Releases) → assigned (images xs ls) [] ≡ Some next → IsRestoredBy xs next
restored_by xs ls next taken =
    let (is, one) = assigned_so (images xs ls) [] next taken in
    let (before, came, set) = chained (assign_all (map own_status xs)) (all_come_in xs ls []) next is in
    let all = come_by xs ls [] before refl (inl refl) came in
    record { before = before; events = all.events; leads = all.leads; settled = all.settled; one = permanent before set all.orderly one; set = set }
  where
    permanent : (before : Releases) → assign_all (map own_status xs) before ≡ Some next → IsOrderly before → has_one_permanent next ≡ true → has_one_permanent before ≡ true
    permanent before set (inr one) also = one
    permanent before set (inl none) also =
        let empty : next ≡ [] = none_set (map own_status xs) next (subst (λ l. assign_all (map own_status xs) l ≡ Some next) none set) in
        cc (also, ap has_one_permanent empty)
