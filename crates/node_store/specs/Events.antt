-- Crash safety: which lists a node may boot to.
use Rattle.std.specs.Prelude.{◌≡◌, ◌⊎◌, ℕ, List, [], ◌∷◌, ◌++◌, is_some, if◌then◌else◌, Option, None, Some, Err}
use Rattle.rel_list.specs.Releases.{Releases}
use Rattle.rel_list.specs.Event.{Event, list_after}
use Rattle.rel_list.specs.Event.Event.{boot}
use Rattle.rel_store.specs.Records.{records_of}
use Rattle.rel_store.specs.declared.error.StoreError.TheVariants.{NotAStore}
use Rattle.node_store.specs.Compaction.{compacted_extent}
use Rattle.node_store.specs.Image.{Extent, booted_extent, extent_after, extent_of, IsImageOf, IsStarted}

abbrev pub Events : Type 0
Events = List Event

-- What is known of a node's events: those whose commands were answered Ok, in order, and the one that is in doubt, if
-- there is one, since its command wasn't answered yet or the device failed in it. And the events after which the start record
-- was last sure to be that of the permanent release, as it is wherever a node runs, and after each command that was Ok.
pub record EventLog : Type 0 where
  pub ran : Events
  pub acknowledged : Events
  pub in_doubt : Option Event

-- what is known of a node with these events, after which its start record is right, and with none in doubt
abbrev pub log_without_doubt : Events → EventLog
log_without_doubt events = record { ran = events; acknowledged = events; in_doubt = None }

-- what is known of a node with these events, after which its start record was right, and with this one in doubt after them
abbrev pub log_with_doubt : Events → Event → EventLog
log_with_doubt events e = record { ran = events; acknowledged = events; in_doubt = Some e }

-- the events with the one in doubt
abbrev pub with_doubt : Events → Option Event → Events
with_doubt events None = events
with_doubt events (Some e) = events ++ e ∷ []

-- the accepted events: the acknowledged ones, and the one in doubt where the list allows it
abbrev pub accepted : EventLog → Events
accepted k = if is_some (list_after (with_doubt k.acknowledged k.in_doubt)) then with_doubt k.acknowledged k.in_doubt else k.acknowledged

-- a prefix of the accepted events that holds every acknowledged one
pub record IsPrefix (k : EventLog) (events : Events) : Type 0 where
  pub lacks : Events
  pub of_accepted : accepted k ≡ events ++ lacks
  pub more : Events
  pub holds : events ≡ k.acknowledged ++ more

-- The bytes stand for the list of a prefix of the accepted events that holds every acknowledged one.
pub record IsOfPrefix (k : EventLog) (image : List ℕ) : Type 0 where
  pub events : Events
  pub prefix : IsPrefix k events
  pub list : Releases
  pub after : list_after events ≡ Some list
  pub image_of : IsImageOf image list

-- The start record in these bytes is that of the release that is permanent after these events.
abbrev pub StartsAfter : Events → List ℕ → Type 0
StartsAfter events image = (es : Releases) × (list_after events ≡ Some es) × IsStarted es image

-- The second events begin with the first.
abbrev pub BeginWith : Events → Events → Type 0
BeginWith first events = (more : Events) × (events ≡ first ++ more)

-- The events are boots, each of them.
abbrev pub AreBoots : Events → Type 0
AreBoots [] = Unit {0}
AreBoots (boot ∷ events) = AreBoots events
AreBoots (e ∷ events) = ⊥

-- There is no event; or there is one, and after it only boots.
abbrev pub IsAtMostOneEventAndBoots : Events → Type 0
IsAtMostOneEventAndBoots [] = Unit {0}
IsAtMostOneEventAndBoots (last ∷ boots) = AreBoots boots

-- The start record in these bytes names the release that is permanent after the events, or after all of them but the last;
-- boots at the end don't count. It is never older than `ran`, the events after which it was last sure to be right.
pub record HasRecentStart (ran events : Events) (image : List ℕ) : Type 0 where
  pub before : Events
  pub later : Events
  pub is : events ≡ before ++ later
  pub last : IsAtMostOneEventAndBoots later
  pub since : BeginWith ran before
  pub starts : StartsAfter before image

-- The bytes are no store; or they stand for the list of a prefix of the accepted events that holds every acknowledged one, and
-- have a start record of that prefix.
abbrev pub IsNoneOrOfPrefix : EventLog → List ℕ → Type 0
IsNoneOrOfPrefix k image =
    (records_of image ≡ Err NotAStore) ⊎ ((of : IsOfPrefix k image) × HasRecentStart k.ran of.events image)

-- What is known of a node's store: its events, and how far it reaches after the acknowledged ones; with the one in doubt,
-- before and after a compaction.
pub record StoreState : Type 0 where
  pub known : EventLog
  pub extent : Extent
  pub appended : Extent
  pub compacted : Extent

-- a store with these events, none of them in doubt, that reaches so far; its start record was last right after some of them
abbrev pub at_rest_since : Events → Events → Extent → StoreState
at_rest_since ran events x = record {
  known = record { ran = ran; acknowledged = events; in_doubt = None };
  extent = x;
  appended = x;
  compacted = x;
}

-- what is known of the store of a node that runs: its events, none of them in doubt, its extent, and that its start record is
-- right
abbrev pub store_without_doubt : Events → Extent → StoreState
store_without_doubt events x = at_rest_since events events x

-- how far a store that reached so far reaches after a compaction, where its events lead to a list
abbrev pub compacted_or_same : Extent → Option Releases → Extent
compacted_or_same x None = x
compacted_or_same x (Some es) = compacted_extent x es

-- What is known of a store while a command commits an event: the events before it, how far the store reached then, and that
-- this event is in doubt, whose record has a body of so many bytes.
abbrev pub store_with_doubt : Events → Extent → Event → ℕ → StoreState
store_with_doubt events x e size =
    let behind = extent_after x size in
    record {
      known = log_with_doubt events e;
      extent = x;
      appended = behind;
      compacted = compacted_or_same behind (list_after (events ++ e ∷ []));
    }

-- how far a store reaches after a boot, where its events lead to a list
abbrev pub booted_or_same : Extent → Option Releases → Extent
booted_or_same x None = x
booted_or_same x (Some es) = booted_extent x es

-- What is known of a store while it is booted: the events before the boot, how far the store reached then, and that the boot is
-- in doubt. The start record was last right after some of the events. No compaction follows a boot.
abbrev pub store_with_boot_in_doubt : Events → Events → Extent → StoreState
store_with_boot_in_doubt ran events x =
    let behind = booted_or_same x (list_after events) in
    record {
      known = record { ran = ran; acknowledged = events; in_doubt = Some boot };
      extent = x;
      appended = behind;
      compacted = behind;
    }

-- The store has these events and reaches so far: the acknowledged ones, or those with the one in doubt.
abbrev pub MayHoldEvents : StoreState → Events → Extent → Type 0
MayHoldEvents s events x =
    BeginWith s.known.ran events
    × (((events ≡ s.known.acknowledged) × (x ≡ s.extent))
    ⊎ ((events ≡ with_doubt s.known.acknowledged s.known.in_doubt) × ((x ≡ s.appended) ⊎ (x ≡ s.compacted))))

-- A crash may leave these bytes of a store: they stand for the list of events that the store may have, reach as far as a store
-- with these events may, and have a start record of these events.
pub record IsCrashImageOf (s : StoreState) (image : List ℕ) : Type 0 where
  pub events : Events
  pub has : MayHoldEvents s events (extent_of image)
  pub list : Releases
  pub after : list_after events ≡ Some list
  pub image_of : IsImageOf image list
  pub start : HasRecentStart s.known.ran events image
