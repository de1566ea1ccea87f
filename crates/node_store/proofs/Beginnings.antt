-- Events that begin with others, and the start record that may stand after them.
use Rattle.std.proofs.Common.{ℕ, List, [], ◌∷◌, ◌++◌, refl, sym, ap, ◌∙◌, append-nil, append_assoc}
use Rattle.rel_list.specs.Event.{Event}
use Rattle.rel_list.specs.Event.Event.{boot}
use Rattle.node_store.specs.Events.{Events, BeginWith, AreBoots, IsAtMostOneEventAndBoots, HasRecentStart}

pub with_themselves : (events : Events) → BeginWith events events
with_themselves events = ([], sym (append-nil events))

pub with_first : (first mid events : Events) → BeginWith first mid → BeginWith mid events → BeginWith first events
with_first first mid events (more, is) (rest, are) = (more ++ rest, are ∙ (ap (λ (l : Events). l ++ rest) is ∙ append_assoc first more rest))

-- and so with one event more
pub with_one_more : (first events : Events) (e : Event) → BeginWith first events → BeginWith first (events ++ e ∷ [])
with_one_more first events e begins = with_first first events (events ++ e ∷ []) begins (e ∷ [], refl)

-- One boot more stands after one event and boots.
boots-push : (events : Events) → AreBoots events → AreBoots (events ++ boot ∷ [])
boots-push [] are = tt
boots-push (boot ∷ events) are = boots-push events are
boots-push (e ∷ events) are = absurd are

pub one_and_boots-push : (events : Events) → IsAtMostOneEventAndBoots events → IsAtMostOneEventAndBoots (events ++ boot ∷ [])
one_and_boots-push [] are = tt
one_and_boots-push (last ∷ boots) are = boots-push boots are

-- A start record that was right after some events was right after the first of them.
pub has_start_since : (ran later events : Events) (image : List ℕ) → BeginWith ran later → HasRecentStart later events image → HasRecentStart ran events image
has_start_since ran later events image begins has = record {
  before = has.before;
  later = has.later;
  is = has.is;
  last = has.last;
  since = with_first ran later has.before begins has.since;
  starts = has.starts;
}
