-- The image of a new node.
use Rattle.std.proofs.Common.{◌≡◌, inl, inr, ℕ, true, List, [], ◌∷◌, ◌++◌, Some, refl, sym, ap, ◌∙◌}
use Rattle.std.specs.Prelude.{is_some, if◌then◌else◌}
use Rattle.std.proofs.lemmas.List.{append-nil}
use Rattle.rel_files.specs.File.{HasVersions}
use Rattle.rel_list.specs.declared.status.Status.TheVariants.{Permanent}
use Rattle.rel_list.specs.Releases.{Bundle, Releases}
use Rattle.rel_list.specs.Event.{Event, entry, list_after, step}
use Rattle.rel_list.specs.Event.Event.{made}
use Rattle.rel_list.proofs.EventLaws.{orderly-empty}
use Rattle.rel_records.specs.Reading.{Spells}
use Rattle.rel_records.specs.Writing.{record_of, IsWithinLimits}
use Rattle.rel_records.proofs.EventRecords.{reports}
use Rattle.rel_records.proofs.FormatLemmas.{allows_without, stands_so}
use Rattle.rel_store.specs.Creation.{IsNoneOrNew}
use Rattle.rel_store.specs.Layout.{format_of, slot_with}
use Rattle.rel_store.proofs.Whole.{sound}
use Rattle.node_store.specs.Events.{log_with_doubt, IsNoneOrOfPrefix, IsOfPrefix, IsPrefix}
use Rattle.node_store.specs.Image.{AreRecordsOf, extent_of, holds_a_store, IsImageOf, IsStarted, start_bytes}
use Rattle.node_store.specs.Start.{start_of_release, start_text}
use Rattle.node_store.proofs.Images.{no_boot_space, none_beside, started_by_text}
use Rattle.node_store.proofs.Lists.{list_after-push}

-- the events with the one in doubt are a prefix, where the list allows it
pub prefix_with : (events : List Event) (e : Event) (es : Releases) → list_after (events ++ e ∷ []) ≡ Some es → IsPrefix (log_with_doubt events e) (events ++ e ∷ [])
prefix_with events e es after = record { lacks = []; of_accepted = ap (λ o. if is_some o then events ++ e ∷ [] else events) after ∙ none; more = e ∷ []; holds = refl }
  where
    none : events ++ e ∷ [] ≡ (events ++ e ∷ []) ++ []
    none = sym (append-nil _)

-- An image of the list after the event in doubt is an image of a prefix of the accepted events.
pub as_after : (events : List Event) (e : Event) (es end : Releases) (c : List ℕ) → list_after events ≡ Some es → step e es ≡ Some end → IsImageOf c end → IsOfPrefix (log_with_doubt events e) c
as_after events e es end c after next image =
    let all = list_after-push events e es end after next in
    record { events = events ++ e ∷ []; prefix = prefix_with events e end all; list = end; after = all; image_of = image }

-- the first record is that of its release
pub first_record : (format : ℕ) (p : Bundle) (body : List ℕ) → IsWithinLimits (made p) [] → Spells body (record_of (made p) []) → AreRecordsOf format (body ∷ []) (entry p Permanent ∷ [])
first_record format p body fits spelled = record {
  makes = ((record_of (made p) [], entry p Permanent ∷ [], spelled, stands_so format (record_of (made p) []) [] (entry p Permanent ∷ []) (allows_without format (record_of (made p) []) refl) (reports (made p) [] (entry p Permanent ∷ []) orderly-empty tt refl fits refl), refl), refl);
  alone = none_beside (entry p Permanent ∷ []) refl;
}

-- In a new node, a slot with the start text of its only release has the start record of the permanent release.
pub started_new : (p : Bundle) (start c : List ℕ) → HasVersions p.release → start ≡ start_text p.release → start_bytes c ≡ slot_with start → IsStarted (entry p Permanent ∷ []) c
started_new p start c versions is slot =
    started_by_text (entry p Permanent ∷ []) p.release (start_of_release p.release) c (versions.erts, versions.own) refl refl (slot ∙ ap slot_with is)

-- A creation leaves no store or one of a prefix.
pub while_creating : (p : Bundle) (body start : List ℕ) → IsWithinLimits (made p) [] → HasVersions p.release → start ≡ start_text p.release → Spells body (record_of (made p) []) → (c : List ℕ) → IsNoneOrNew body start c → IsNoneOrOfPrefix (log_with_doubt [] (made p)) c
unfolding as_after
while_creating p body start fits versions is spelled c (inl none) = inl none
while_creating p body start fits versions is spelled c (inr stands) =
    inr (
      as_after [] (made p) [] (entry p Permanent ∷ []) c refl refl (record { bodies = body ∷ []; store = stands.records; list = first_record (format_of c) p body fits spelled; room = no_boot_space (extent_of c) (entry p Permanent ∷ []) refl }),
      record {
        before = made p ∷ [];
        later = [];
        is = refl;
        last = tt;
        since = (made p ∷ [], refl);
        starts = (entry p Permanent ∷ [], refl, started_new p start c versions is stands.start);
      },
    )

-- bytes that stand for a list hold a store
pub has_a_store : (bytes : List ℕ) (es : Releases) → IsImageOf bytes es → holds_a_store bytes ≡ true
has_a_store bytes es image = (sound bytes image.bodies image.store).begins
