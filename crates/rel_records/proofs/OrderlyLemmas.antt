-- No version stands twice in a list that records make, and at most one release is a one-shot.
use Rattle.std.proofs.Common.{◌≡◌, ℕ, List, [], ◌∷◌, Option, Some, subst}
use Rattle.std.specs.Prelude.{◌&&◌, nat_lt, length}
use Rattle.std.specs.List.{AllByRecursion}
use Rattle.rel_files.specs.Release.{Release}
use Rattle.relup_file.specs.Relup.{RelupForm}
use Rattle.library.specs.Library.{Library, IsLibrary}
use Rattle.rel_files.proofs.Options.{passed}
use Rattle.rel_list.specs.Keyed.{IsOrderly}
use Rattle.rel_list.specs.Releases.{Releases}
use Rattle.rel_list.specs.Event.{list_assigned, step}
use Rattle.rel_list.specs.Event.Event.{made, removed, unpacked}
use Rattle.rel_list.proofs.EventLaws.{orderly-assigned, orderly-empty, orderly-step}
use Rattle.rel_records.specs.Limits.{is_small, most_releases}
use Rattle.rel_records.specs.Lists.{Makes, added_by, assign_all, made_by, may_be_assigned}
use Rattle.rel_records.specs.Record.{Assignment}
use Rattle.rel_records.proofs.MadeLemmas.{AreSaid, kept_made}
use Rattle.rel_records.proofs.RecordPlaces.{event_of_record}

first_orderly : (r : Release) (ls : List Library) (o : Option RelupForm) (es next : Releases) → AreSaid r o → AllByRecursion IsLibrary ls → made_by r ls o es ≡ Some next → IsOrderly es → IsOrderly next
first_orderly r ls o es next said all e orderly =
    let (p, of, is) = event_of_record made (is_small r) r ls o es next e in orderly-step (made p) es next orderly is

further_orderly : (r : Release) (ls : List Library) (o : Option RelupForm) (es next : Releases) → AreSaid r o → AllByRecursion IsLibrary ls → added_by r ls o es ≡ Some next → IsOrderly es → IsOrderly next
further_orderly r ls o es next said all e orderly =
    let (p, of, is) = event_of_record unpacked (is_small r && nat_lt (length es) most_releases) r ls o es next e in orderly-step (unpacked p) es next orderly is

pub statuses_orderly : (given : List Assignment) (es next : Releases) → assign_all given es ≡ Some next → IsOrderly es → IsOrderly next
statuses_orderly [] es next is orderly = let same : es ≡ next = cc is in subst IsOrderly same orderly
statuses_orderly (a ∷ given) es next is orderly =
    let (may, rest) = passed (may_be_assigned a es) (assign_all given (list_assigned a.vsn a.status es)) next is in
    statuses_orderly given (list_assigned a.vsn a.status es) next rest (orderly-assigned a.vsn a.status es may orderly)

left_orderly : (v : List ℕ) (es next : Releases) → step (removed v) es ≡ Some next → IsOrderly es → IsOrderly next
left_orderly v es next is orderly = orderly-step (removed v) es next orderly is

pub orderly_made : (format : ℕ) (bodies : List (List ℕ)) (es : Releases) → Makes format bodies es → IsOrderly es
orderly_made = kept_made IsOrderly first_orderly further_orderly statuses_orderly left_orderly orderly-empty
