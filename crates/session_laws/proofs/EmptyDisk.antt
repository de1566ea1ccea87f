-- A session on an empty disk.
use Rattle.std.proofs.Common.{Option, None, Some, ◌≡◌, ◌≢◌, ◌⊎◌, inl, inr, ⊎_elim, ℕ, true, false, List, [], ◌∷◌, ◌++◌, refl, sym, ap, ◌∙◌, subst, append_assoc}
use Rattle.rel_list.specs.Releases.{Bundle}
use Rattle.rel_list.specs.Event.Event.{made, boot as booting}
use Rattle.node_store.specs.Events.{EventLog, log_without_doubt}
use Rattle.session_input.specs.Commands.{Command}
use Rattle.rel_session.specs.Device.{Device}
use Rattle.session_input.specs.Feed.{Feed}
use Rattle.node_command.specs.Files.{bundle_brought, made_size}
use Rattle.node_command.specs.Place.{own_refusal}
use Rattle.rel_unpack.specs.Refusal.{Refusal}
use Rattle.rel_unpack.specs.Unpacking.{Brought}
use Rattle.rel_unpack.specs.Source.{Source}
use Rattle.rel_session.specs.Files.{Files, files_behind, source_of}
use Rattle.rel_session.specs.Node.{DiskState, Reply}
use Rattle.rel_session.specs.Node.DiskState.{unknown_bytes}
use Rattle.rel_session.specs.Run.{CommandsRun, AreReplies, Ending}
use Rattle.session_laws.specs.RunLaws.{known_at, BecomesKnown, NoneFails, NoneAcknowledged, BeginsWithAMaking}
use Rattle.rel_session.specs.Transition
use Rattle.rel_session.specs.Transition.Action.{answers, makes_node, changes_node, installs, reboots_node, boots_node, reports_start, calls}
use Rattle.session_laws.proofs.AcknowledgedEvents.{first_answered, loses_nothing}
use Rattle.rel_session.proofs.DeviceLemmas.{IsDevice}
use Rattle.rel_session.specs.Booting.Lack.{device_failed, memory_refused}

-- A reply on an empty disk leaves it empty, or the device failed, or a release was made.
pub record IsMade (a : Reply) : Type 0 where
  pub bundle : Bundle
  pub acknowledged : a.outcome.acknowledged ≡ made bundle ∷ booting ∷ []
  pub after : known_at a.after ≡ log_without_doubt (made bundle ∷ booting ∷ [])

abbrev OnEmpty : Reply → Type 0
OnEmpty a = ((a.outcome.acknowledged ≡ []) × ((a.after ≡ unknown_bytes []) ⊎ (a.outcome.failed ≡ true))) ⊎ IsMade a

on_empty_as : (a b : Reply) → a ≡ b → OnEmpty b → OnEmpty a
on_empty_as a b is of = subst OnEmpty (sym is) of

makes_with : (p : Bundle) (size : ℕ) (why : Option Refusal) (a : Reply) → Transition.MakesWith [] p size why a → OnEmpty a
makes_with p size (Some why) a is = on_empty_as a _ is (inl (refl, inl refl))
makes_with p size None a (inl (fits, inl is)) = on_empty_as a _ is (inr (record { bundle = p; acknowledged = refl; after = refl }))
makes_with p size None a (inl (fits, inr is)) = on_empty_as a _ is (inr (record { bundle = p; acknowledged = refl; after = refl }))
makes_with p size None a (inr (over_it, is)) = on_empty_as a _ is (inl (refl, inl refl))

makes_fails : (p : Bundle) (why : Option Refusal) (a : Reply) → Transition.FailsToMake [] p why a → OnEmpty a
makes_fails p (Some why) a is = on_empty_as a _ is (inl (refl, inl refl))
makes_fails p None a (torn, kept, is) = on_empty_as a _ is (inl (refl, inr refl))

makes : (b : Brought) (a : Reply) → Transition.MakesNode (unknown_bytes []) b a → OnEmpty a
makes b a (inl is) = makes_with (bundle_brought b) (made_size b) (own_refusal b) a is
makes b a (inr is) = makes_fails (bundle_brought b) (own_refusal b) a is

boots : (a : Reply) → Transition.BootsBytes [] a → OnEmpty a
boots a (inl (events, list, extent, after, image, is)) = cc image.image_of.store
boots a (inr (inl (why, reported, is))) = on_empty_as a _ is (inl (refl, inl refl))
boots a (inr (inr (device_failed, torn, left, is))) = on_empty_as a _ is (inl (refl, inr refl))
boots a (inr (inr (memory_refused, torn, inl same, is))) = on_empty_as a _ is (inl (refl, inl (ap (λ bytes. unknown_bytes bytes) same)))
boots a (inr (inr (memory_refused, torn, inr left, is))) = cc left.was.store

acts : (does : Transition.Action) (a : Reply) → Transition.NodeReplies (unknown_bytes []) does a → OnEmpty a
acts (answers text) a is = on_empty_as a _ is (inl (refl, inl refl))
acts (makes_node found) a is = makes found a is
acts (changes_node change) a is = on_empty_as a _ is (inl (refl, inl refl))
acts (installs vsn) a is = on_empty_as a _ is (inl (refl, inl refl))
acts (reboots_node vsn) a is = on_empty_as a _ is (inl (refl, inl refl))
acts boots_node a is = boots a is
acts reports_start a is = on_empty_as a _ is (inl (refl, inl refl))
acts (calls c) a is = on_empty_as a _ is (inl (refl, inl refl))

left_on_empty : (source : Source) (p : DiskState) (c : Command) (a : Reply) → p ≡ unknown_bytes [] → Transition.Transition source p c a → OnEmpty a
left_on_empty source p c a empty (does, comes, is) = acts does a (subst (λ q. Transition.NodeReplies q does a) empty is)

-- where it was left empty
still_empty : (a : Reply) → OnEmpty a → a.outcome.failed ≡ false → a.outcome.acknowledged ≡ [] → a.after ≡ unknown_bytes []
still_empty a (inl (none, inl there)) works nothing = there
still_empty a (inl (none, inr failed)) works nothing = let lost : true ≡ false = sym failed ∙ works in absurd cc
still_empty a (inr of) works nothing = let lost : made of.bundle ∷ booting ∷ [] ≡ [] = sym of.acknowledged ∙ nothing in absurd cc

-- the first reply that acknowledges an event
pub first_event : (base : Source) (files : Files) (p : DiskState) (commands : Feed Command) (ending : Ending) (first : List Reply) (a : Reply) (rest : List Reply) → p ≡ unknown_bytes []
    → AreReplies base files p commands ending (first ++ a ∷ rest) → NoneFails first → NoneAcknowledged first → a.outcome.acknowledged ≢ [] → IsMade a
first_event base files p commands ending [] a rest empty right works none some =
    let n = first_answered base files p commands ending a rest right in
    ⊎_elim (λ (nothing : (a.outcome.acknowledged ≡ []) × ((a.after ≡ unknown_bytes []) ⊎ (a.outcome.failed ≡ true))). absurd (some nothing.0)) (λ (of : IsMade a). of)
    (left_on_empty (source_of base files) p n.command a empty n.is)
first_event base files p commands ending (b ∷ first) a rest empty right (worked, works) (nothing, none) some =
    let n = first_answered base files p commands ending b (first ++ a ∷ rest) right in
    let there = still_empty b (left_on_empty (source_of base files) p n.command b empty n.is) worked nothing in
    first_event base (files_behind files n.command) b.after n.rest ending first a rest there n.right works none some

-- the store is known after such a reply
pub becomes_known : (p : DiskState) (first : List Reply) (a : Reply) → a.outcome.acknowledged ≢ [] → BecomesKnown p (first ++ a ∷ [])
becomes_known p [] a some = inl (inr some)
becomes_known p (b ∷ first) a some = inr (becomes_known b.after first a some)

module _ {D : Type 0} (v : Device D) (laws : IsDevice v) where
  pub begins_with_a_making : (base : Source) → BeginsWithAMaking v base
  begins_with_a_making base files commands ending first a rest old new right empty leads works none some =
      let of = first_event base files (unknown_bytes []) commands ending first a rest refl right works none some in
      let same : first ++ a ∷ rest ≡ (first ++ a ∷ []) ++ rest = sym (append_assoc first (a ∷ []) rest) in (
        of.bundle,
        of.acknowledged,
        ap (λ (k : EventLog). k.acknowledged) of.after,
        loses_nothing v laws base files (unknown_bytes []) commands ending (first ++ a ∷ []) rest old new (subst (AreReplies base files (unknown_bytes []) commands ending) same right) empty
            (subst (λ l. CommandsRun v (unknown_bytes []) l old new) same leads) (becomes_known (unknown_bytes []) first a some),
      )
