-- What is known of a store, and the prefixes of its events.
use Rattle.std.proofs.Common.{◌≡◌, ◌⊎◌, inl, inr, ⊎_elim, ℕ, Bool, true, false, List, [], ◌∷◌, ◌++◌, Option, Some, None, refl, sym, ap, ◌∙◌, subst}
use Rattle.std.specs.Option.{option_and_then}
use Rattle.std.specs.Prelude.{is_some, if◌then◌else◌}
use Rattle.std.proofs.lemmas.List.{append-nil, append_assoc}
use Rattle.rel_list.specs.Releases.{Releases}
use Rattle.rel_list.specs.Event.{Event, list_after, step}
use Rattle.rel_list.specs.Event.Event.{boot}
use Rattle.node_store.specs.Events.{Events, EventLog, log_without_doubt, with_doubt, accepted, IsPrefix, StoreState, store_without_doubt, store_with_doubt, store_with_boot_in_doubt, MayHoldEvents, HasRecentStart, IsCrashImageOf}
use Rattle.node_store.specs.Image.{Extent, IsImageWithExtent, IsStarted}
use Rattle.rel_handler.specs.Moments.{KeepsStore}
use Rattle.rel_session.specs.Device.{Device, LeavesOnly}
use Rattle.rel_session.specs.Run.{StandsForPrefix}
use Rattle.node_store.proofs.Beginnings.{with_themselves, has_start_since}
use Rattle.rel_session.proofs.DeviceLemmas.{weakened}
use Rattle.rel_session.proofs.ListLemmas.{list_after-more}

abbrev doubt_of : Option Event → Events
doubt_of None = []
doubt_of (Some e) = e ∷ []

with_doubt-append : (events : Events) (doubt : Option Event) → with_doubt events doubt ≡ events ++ doubt_of doubt
with_doubt-append events None = sym (append-nil events)
with_doubt-append events (Some e) = refl

-- the events that a store may have are a prefix of the accepted ones
prefix_so : (ran known : Events) (doubt : Option Event) (events : Events) (list : Releases) → (events ≡ known) ⊎ (events ≡ with_doubt known doubt) → list_after events ≡ Some list
    → IsPrefix (record { ran = ran; acknowledged = known; in_doubt = doubt }) events
prefix_so ran known doubt events list (inl is) after = go (is_some (list_after (with_doubt known doubt))) refl
  where
    go : (b : Bool) → is_some (list_after (with_doubt known doubt)) ≡ b → IsPrefix (record { ran = ran; acknowledged = known; in_doubt = doubt }) events
    go true allowed = record {
      lacks = doubt_of doubt;
      of_accepted = ap (λ b. if b then with_doubt known doubt else known) allowed ∙ with_doubt-append known doubt ∙ ap (λ (l : Events). l ++ doubt_of doubt) (sym is);
      more = [];
      holds = is ∙ sym (append-nil known);
    }
    go false refused = record {
      lacks = [];
      of_accepted = ap (λ b. if b then with_doubt known doubt else known) refused ∙ sym is ∙ sym (append-nil events);
      more = [];
      holds = is ∙ sym (append-nil known);
    }
prefix_so ran known doubt events list (inr is) after = record {
  lacks = [];
  of_accepted = ap (λ (o : Option Releases). if is_some o then with_doubt known doubt else known) (ap list_after (sym is) ∙ after) ∙ sym is ∙ sym (append-nil events);
  more = doubt_of doubt;
  holds = is ∙ with_doubt-append known doubt;
}

pub prefix_of : (s : StoreState) (events : Events) (extent : Extent) (list : Releases) → MayHoldEvents s events extent → list_after events ≡ Some list → IsPrefix s.known events
prefix_of s events extent list (since, inl (is, at)) after = prefix_so s.known.ran s.known.acknowledged s.known.in_doubt events list (inl is) after
prefix_of s events extent list (since, inr (is, at)) after = prefix_so s.known.ran s.known.acknowledged s.known.in_doubt events list (inr is) after

none_or_all : (more lacks : Events) (doubt : Option Event) → more ++ lacks ≡ doubt_of doubt → (more ≡ []) ⊎ (more ≡ doubt_of doubt)
none_or_all [] lacks doubt is = inl refl
none_or_all (e ∷ more) lacks None is = absurd cc
none_or_all (e ∷ []) lacks (Some d) is = inr cc
none_or_all (e ∷ f ∷ more) lacks (Some d) is = absurd cc

same_behind : (events a b : Events) → events ++ a ≡ events ++ b → a ≡ b
same_behind [] a b is = is
same_behind (e ∷ events) a b is = same_behind events a b cc

accepted_is : (k : EventLog) → (accepted k ≡ k.acknowledged ++ []) ⊎ (accepted k ≡ k.acknowledged ++ doubt_of k.in_doubt)
accepted_is k = go (is_some (list_after (with_doubt k.acknowledged k.in_doubt)))
  where
    go : (b : Bool) → ((if b then with_doubt k.acknowledged k.in_doubt else k.acknowledged) ≡ k.acknowledged ++ [])
        ⊎ ((if b then with_doubt k.acknowledged k.in_doubt else k.acknowledged) ≡ k.acknowledged ++ doubt_of k.in_doubt)
    go true = inr (with_doubt-append k.acknowledged k.in_doubt)
    go false = inl (sym (append-nil k.acknowledged))

all_behind : (k : EventLog) (events accepted_more : Events) (prefix : IsPrefix k events) → accepted k ≡ k.acknowledged ++ accepted_more → prefix.more ++ prefix.lacks ≡ accepted_more
all_behind k events accepted_more prefix are = same_behind k.acknowledged (prefix.more ++ prefix.lacks) accepted_more
    (sym (append_assoc k.acknowledged prefix.more prefix.lacks) ∙ ap (λ (l : Events). l ++ prefix.lacks) (sym prefix.holds) ∙ sym prefix.of_accepted ∙ are)

-- a prefix of the accepted events with every acknowledged one has nothing else, or the one in doubt
pub prefix_is : (k : EventLog) (events : Events) → IsPrefix k events → (events ≡ k.acknowledged) ⊎ (events ≡ with_doubt k.acknowledged k.in_doubt)
prefix_is k events prefix =
    let none : prefix.more ≡ [] → (events ≡ k.acknowledged) ⊎ (events ≡ with_doubt k.acknowledged k.in_doubt) =
    λ is. inl (prefix.holds ∙ ap (λ (l : Events). k.acknowledged ++ l) is ∙ append-nil k.acknowledged) in
    let all : prefix.more ≡ doubt_of k.in_doubt → (events ≡ k.acknowledged) ⊎ (events ≡ with_doubt k.acknowledged k.in_doubt) =
    λ is. inr (prefix.holds ∙ ap (λ (l : Events). k.acknowledged ++ l) is ∙ sym (with_doubt-append k.acknowledged k.in_doubt)) in
    ⊎_elim (λ are. ⊎_elim none none (none_or_all prefix.more prefix.lacks None (all_behind k events [] prefix are)))
    (λ are. ⊎_elim none all (none_or_all prefix.more prefix.lacks k.in_doubt (all_behind k events (doubt_of k.in_doubt) prefix are))) (accepted_is k)

-- an image of a store is reached by each command on it, before it has done anything
pub reached : (s : StoreState) (command : Events) (c : List ℕ) → IsCrashImageOf s c → StandsForPrefix s.known command c
reached s command c of = record {
  events = of.events;
  prefix = prefix_of s of.events _ of.list of.has of.after;
  more = [];
  left = command;
  begins = refl;
  list = of.list;
  after = ap list_after (append-nil of.events) ∙ of.after;
  image_of = of.image_of;
  start = subst (λ l. HasRecentStart s.known.ran l c) (sym (append-nil of.events)) of.start;
}

settled_accepted : (l : Events) → accepted (log_without_doubt l) ≡ l ++ []
settled_accepted l = go (is_some (list_after l))
  where
    go : (b : Bool) → (if b then l else l) ≡ l ++ []
    go true = sym (append-nil l)
    go false = sym (append-nil l)

-- What a crash may leave while a command commits an event stands for a prefix of the events before it and this one.
pub reached_with : (events : Events) (extent : Extent) (e : Event) (size : ℕ) (c : List ℕ) → IsCrashImageOf (store_with_doubt events extent e size) c → StandsForPrefix (log_without_doubt events) (e ∷ []) c
reached_with events extent e size c of = by_events _ of.has
  where
    by_events : (n : Extent) → MayHoldEvents (store_with_doubt events extent e size) of.events n → StandsForPrefix (log_without_doubt events) (e ∷ []) c
    by_events n (since, inl (is, at)) = record {
      events = events;
      prefix = prefix_so events events None events of.list (inl refl) (subst (λ (l : Events). list_after l ≡ Some of.list) is of.after);
      more = [];
      left = e ∷ [];
      begins = refl;
      list = of.list;
      after = ap list_after (append-nil events ∙ sym is) ∙ of.after;
      image_of = of.image_of;
      start = subst (λ l. HasRecentStart events l c) (is ∙ sym (append-nil events)) of.start;
    }
    by_events n (since, inr (is, at)) = record {
      events = events;
      prefix = record { lacks = []; of_accepted = settled_accepted events; more = []; holds = sym (append-nil events) };
      more = e ∷ [];
      left = [];
      begins = refl;
      list = of.list;
      after = ap list_after (sym is) ∙ of.after;
      image_of = of.image_of;
      start = subst (λ l. HasRecentStart events l c) is of.start;
    }

-- the events in front of a boot have a list
list_before : (events : Events) (end : Releases) → list_after (events ++ boot ∷ []) ≡ Some end → (list : Releases) × (list_after events ≡ Some list)
list_before events end after = go (list_after events) refl (sym (list_after-more events boot) ∙ after)
  where
    go : (o : Option Releases) → list_after events ≡ o → option_and_then (step boot) o ≡ Some end → (list : Releases) × (list_after events ≡ Some list)
    go None is never = cc never
    go (Some list) is after_boot = (list, is)

-- what is reached where a boot is in doubt
reached_with_boot : (s : StoreState) (events : Events) (extent : Extent) → MayHoldEvents s events extent → (c : List ℕ) → IsCrashImageOf (store_with_boot_in_doubt s.known.ran events extent) c → StandsForPrefix s.known (boot ∷ []) c
reached_with_boot s events extent has c of = by_events _ of.has
  where
    by_events : (n : Extent) → MayHoldEvents (store_with_boot_in_doubt s.known.ran events extent) of.events n → StandsForPrefix s.known (boot ∷ []) c
    by_events n (since, inl (is, at)) = record {
      events = events;
      prefix = prefix_of s events extent of.list has (ap list_after (sym is) ∙ of.after);
      more = [];
      left = boot ∷ [];
      begins = refl;
      list = of.list;
      after = ap list_after (append-nil events ∙ sym is) ∙ of.after;
      image_of = of.image_of;
      start = subst (λ l. HasRecentStart s.known.ran l c) (is ∙ sym (append-nil events)) of.start;
    }
    by_events n (since, inr (is, at)) =
        let (list, before) = list_before events of.list (ap list_after (sym is) ∙ of.after) in
        record {
          events = events;
          prefix = prefix_of s events extent list has before;
          more = boot ∷ [];
          left = [];
          begins = refl;
          list = of.list;
          after = ap list_after (sym is) ∙ of.after;
          image_of = of.image_of;
          start = subst (λ l. HasRecentStart s.known.ran l c) is of.start;
        }

-- At each moment of a boot of a store a crash leaves a prefix of its events, with the boot's own or without.
pub reached_booting : {D : Type 0} (v : Device D) (s : StoreState) (old new : D) → KeepsStore v s old new → LeavesOnly v old new (StandsForPrefix s.known (boot ∷ []))
reached_booting v s old new (inl all) = weakened v old new (IsCrashImageOf s) _ (reached s (boot ∷ [])) all
reached_booting v s old new (inr k) =
    weakened v old new _ _ (λ c. ⊎_elim (reached s (boot ∷ []) c) (reached_with_boot s k.events k.extent k.has c)) k.any_moment

nothing_behind : (l more : Events) → l ≡ l ++ more → more ≡ []
nothing_behind [] more is = sym is
nothing_behind (e ∷ l) more is = nothing_behind l more (let same : l ≡ l ++ more = cc in same)

no_first : (first more : Events) → first ++ more ≡ [] → first ≡ []
no_first [] more none = refl
no_first (e ∷ first) more none = absurd cc

-- where none is in doubt, there is one prefix
only_prefix : (l events : Events) → IsPrefix (log_without_doubt l) events → events ≡ l
only_prefix l events of =
    let all : l ≡ l ++ (of.more ++ of.lacks) = sym (append-nil l) ∙ sym (settled_accepted l) ∙ of.of_accepted ∙ ap (λ (es : Events). es ++ of.lacks) of.holds ∙ append_assoc l of.more of.lacks in
    of.holds ∙ ap (λ (es : Events). l ++ es) (no_first of.more of.lacks (nothing_behind l _ all)) ∙ append-nil l

-- Bytes that stand for a prefix with some events of a command stand for one where further events follow.
pub reached_sooner : (k : EventLog) (first more : Events) (c : List ℕ) → StandsForPrefix k first c → StandsForPrefix k (first ++ more) c
reached_sooner k first more c of = record {
  events = of.events;
  prefix = of.prefix;
  more = of.more;
  left = of.left ++ more;
  begins = sym (append_assoc of.more of.left more) ∙ ap (λ (es : Events). es ++ more) of.begins;
  list = of.list;
  after = of.after;
  image_of = of.image_of;
  start = of.start;
}

-- Bytes that stand for a prefix with a command's events, after an event, stand for one with a command that has it in front.
pub reached_behind : (events : Events) (e : Event) (command : Events) (c : List ℕ) → StandsForPrefix (log_without_doubt (events ++ e ∷ [])) command c → StandsForPrefix (log_without_doubt events) (e ∷ command) c
reached_behind events e command c of =
    let same : of.events ++ of.more ≡ events ++ (e ∷ of.more) = ap (λ (es : Events). es ++ of.more) (only_prefix (events ++ e ∷ []) of.events of.prefix) ∙ append_assoc events (e ∷ []) of.more in
    record {
      events = events;
      prefix = record { lacks = []; of_accepted = settled_accepted events; more = []; holds = sym (append-nil events) };
      more = e ∷ of.more;
      left = of.left;
      begins = ap (λ (es : Events). e ∷ es) of.begins;
      list = of.list;
      after = ap list_after (sym same) ∙ of.after;
      image_of = of.image_of;
      start = subst (λ l. HasRecentStart events l c) same (has_start_since events (events ++ e ∷ []) _ c (e ∷ [], refl) of.start);
    }

-- an image of a handler's list is a store of its events
pub stored : (events : Events) (extent : Extent) (list : Releases) (c : List ℕ) → list_after events ≡ Some list → IsImageWithExtent c list extent → IsStarted list c → IsCrashImageOf (store_without_doubt events extent) c
stored events extent list c after image started =
    record {
      events = events;
      has = (with_themselves events, inl (refl, image.reaches));
      list = list;
      after = after;
      image_of = image.image_of;
      start = record { before = events; later = []; is = sym (append-nil events); last = tt; since = with_themselves events; starts = (list, after, started) };
    }
