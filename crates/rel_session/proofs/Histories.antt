-- The events after a list that a store's records make.
use Rattle.std.proofs.Common.{◌≡◌, ◌⊎◌, inl, inr, ℕ, true, List, [], ◌∷◌, ◌++◌, length, map, Some, refl, sym, ap, ◌∙◌, arith}
use Rattle.std.specs.Prelude.{◌&&◌, ◌==◌, nat_lt}
use Rattle.std.specs.Option.{option_and_then}
use Rattle.std.proofs.lemmas.Bool.Decides.{nat_tests}
use Rattle.rel_list.specs.Keyed.{IsOrderly}
use Rattle.rel_list.specs.Laws.{bundles_of, IsRecorded}
use Rattle.rel_list.specs.Releases.{Releases, of_status}
use Rattle.rel_list.specs.Status.{is_permanent}
use Rattle.rel_list.specs.Event.{Event, recorded, step, list_from, list_after}
use Rattle.rel_list.specs.Event.Event.{made, unpacked, removed}
use Rattle.rel_list.proofs.EventLaws.{list_from-append, orderly-after}
use Rattle.rel_list.proofs.RestLaws.{recorded_reached}
use Rattle.rel_records.specs.Limits.{has_one_permanent, is_small, most_releases}
use Rattle.rel_records.specs.Lists.{assign_all, assigned, own_status, set_by, MakesFrom}
use Rattle.rel_records.specs.Record.{Record, makes, adds, assigns, removes, images}
use Rattle.rel_records.proofs.FormatLemmas.{allowed_so}
use Rattle.rel_records.proofs.ImageEvents.{restored_by}
use Rattle.rel_records.proofs.OrderlyLemmas.{statuses_orderly}
use Rattle.rel_records.proofs.RecordPlaces.{assigned_so, event_of_record, settled_behind}
use Rattle.rel_records.proofs.StatusRecords.{bundles-assign_all, set_so}
use Rattle.rel_store.specs.Layout.{format_of}
use Rattle.node_store.specs.Events.{Events}
use Rattle.node_store.specs.Image.{IsImageOf}

is_one : (n : ℕ) → (n == 1) ≡ true → n ≡ 1
is_one n e = grind (arith, nat_tests)

as_reported : (es : Releases) → IsOrderly es → recorded es ≡ es → has_one_permanent es ≡ true → IsRecorded es
as_reported es orderly still one = record {
  distinct = orderly.distinct;
  as_recorded = still;
  one_permanent = is_one (length (of_status is_permanent es)) one;
  one_temporary = orderly.one_temporary;
}

-- events that lead from the one list to the other
abbrev Leads : Releases → Releases → Type 0
Leads es next = (more : Events) × (list_from es more ≡ Some next)

one_event : (e : Event) (es next : Releases) → step e es ≡ Some next → Leads es next
one_event e es next is = (e ∷ [], ap (option_and_then (λ (l : Releases). Some l)) is)

-- a list without releases has no permanent one
none_permanent : (next : Releases) → bundles_of next ≡ [] → has_one_permanent next ≡ true → ⊥
none_permanent [] same one = cc one
none_permanent (e ∷ next) same one = cc same

-- What a record makes of a list, events make of it.
behind_record : (r : Record) (es next : Releases) → IsOrderly es → recorded es ≡ es → (es ≡ []) ⊎ (has_one_permanent es ≡ true) → assigned r es ≡ Some next → Leads es next
behind_record (makes x ls o) es next orderly still one taken =
    let (p, of, is) = event_of_record made (is_small x) x ls o es next (assigned_so (makes x ls o) es next taken).0 in one_event (made p) es next is
behind_record (adds x ls o) es next orderly still one taken =
    let (p, of, is) = event_of_record unpacked (is_small x && nat_lt (length es) most_releases) x ls o es next (assigned_so (adds x ls o) es next taken).0 in one_event (unpacked p) es next is
behind_record (removes v) es next orderly still one taken = one_event (removed v) es next (assigned_so (removes v) es next taken).0
behind_record (images xs ls) (f ∷ es) next orderly still one taken = absurd cc
behind_record (images xs ls) [] next orderly still one taken =
    let (is, permanent) = assigned_so (images xs ls) [] next taken in
    let by = restored_by xs ls next taken in
    let before = orderly-after by.events by.before by.leads in
    let so = statuses_orderly (map own_status xs) by.before next by.set before in
    let (more, reached) = recorded_reached by.before next (as_reported by.before before by.settled by.one) (as_reported next so (settled_behind (images xs ls) [] next is refl) permanent) (bundles-assign_all (map own_status xs) by.before next by.set) in
    (by.events ++ more, list_from-append [] by.events more by.before next by.leads reached)
behind_record (assigns given) es next orderly still one taken = by_one one
  where
    taken_there : set_by given es ≡ Some next
    taken_there = (assigned_so (assigns given) es next taken).0

    assigned_there : assign_all given es ≡ Some next
    assigned_there = (set_so given es next taken_there).0

    by_one : (es ≡ []) ⊎ (has_one_permanent es ≡ true) → Leads es next
    by_one (inl none) = absurd (none_permanent next (bundles-assign_all given es next assigned_there ∙ ap bundles_of none) (assigned_so (assigns given) es next taken).1)
    by_one (inr permanent) =
        recorded_reached es next (as_reported es orderly still permanent)
        (as_reported next (statuses_orderly given es next assigned_there orderly) (settled_behind (assigns given) es next taken_there still) (assigned_so (assigns given) es next taken).1)
        (bundles-assign_all given es next assigned_there)

events_behind : (format : ℕ) (events : Events) (es : Releases) (bodies : List (List ℕ)) (end : Releases) → list_after events ≡ Some es → recorded es ≡ es → (es ≡ []) ⊎ (has_one_permanent es ≡ true)
    → MakesFrom format es bodies end → (all : Events) × (list_after all ≡ Some end)
events_behind format events es [] end after still one is = (events, after ∙ ap (λ l. Some l) (sym is))
events_behind format events es (body ∷ bodies) end after still one (r, between, spelled, stands, rest) =
    let taken = (allowed_so format r es between stands).1 in
    let (more, leads) = behind_record r es between (orderly-after events es after) still one taken in
    let (next, permanent) = assigned_so r es between taken in
    events_behind format (events ++ more) between bodies end (list_from-append [] events more es between after leads) (settled_behind r es between next still) (inr permanent) rest

-- A list that a disk stands for is one after events, where it is as records report it.
pub events_of_image : (image : List ℕ) (es : Releases) → IsImageOf image es → recorded es ≡ es → (events : Events) × (list_after events ≡ Some es)
events_of_image image es of still =
    let (events, after) = events_behind (format_of image) [] [] of.bodies (recorded es) refl refl (inl refl) of.list.makes.0 in
    (events, after ∙ ap (λ l. Some l) still)
