-- Where the disk of a node stands, and what a command's reply says.
use Rattle.std.specs.Prelude.{ℕ, Bool, true, false, List, [], ◌∷◌, ◌++◌, Option, None, Some}
use Rattle.rel_list.specs.Releases.{Releases}
use Rattle.rel_list.specs.Event.{Event, list_after}
use Rattle.node_store.specs.Events.{Events, StoreState, store_without_doubt}
use Rattle.node_store.specs.Image.{Extent}
use Rattle.node_processes.specs.Fresh.{fresh_processes}
use Rattle.node_processes.specs.Processes.{Processes}
use Rattle.node_answer.specs.Refusals.{NodeRefusal, refusal_line}
use Rattle.node_answer.specs.Refusals.NodeRefusal.{device}

-- Where a node's disk stands.
pub data DiskState : Type 0 where
  -- No node is known on the disk: these bytes are what a read gives. The empty disk is `unknown_bytes []`.
  unknown_bytes : List ℕ → DiskState
  -- a store whose node was not booted
  not_booted : StoreState → DiskState
  -- a node with these events, whose store reaches so far, and with these processes
  running : Events → Extent → Processes → DiskState
  -- a node that answers Dead until a boot: the device failed it, or a script failed after its point of no return
  dead : StoreState → DiskState

abbrev pub list_or_none : Option Releases → Releases
list_or_none None = []
list_or_none (Some es) = es

-- the releases after these events
abbrev pub releases_after : Events → Releases
releases_after events = list_or_none (list_after events)

-- a node with these events, whose store reaches so far, right after a boot
abbrev pub just_booted : Events → Extent → DiskState
just_booted events extent = running events extent (fresh_processes (releases_after events))

-- where the disk stands once no node runs on it
abbrev pub at_rest : DiskState → DiskState
at_rest (unknown_bytes bytes) = unknown_bytes bytes
at_rest (not_booted s) = not_booted s
at_rest (running events extent ps) = not_booted (store_without_doubt events extent)
at_rest (dead s) = not_booted s

-- What a command did: the events that its answer acknowledges, the one that is in doubt after them, and whether the
-- device failed in it.
pub record CommandOutcome : Type 0 where
  pub acknowledged : Events
  pub in_doubt : Option Event
  pub failed : Bool

abbrev pub no_outcome : CommandOutcome
no_outcome = record { acknowledged = []; in_doubt = None; failed = false }

abbrev pub commit_outcome : Events → CommandOutcome
commit_outcome events = record { acknowledged = events; in_doubt = None; failed = false }

abbrev pub failure_outcome : Option Event → CommandOutcome
failure_outcome doubt = record { acknowledged = []; in_doubt = doubt; failed = true }

-- A command's reply: the answer, what it did, and where the disk stands then.
pub record Reply : Type 0 where
  pub answer : List ℕ
  pub outcome : CommandOutcome
  pub after : DiskState

abbrev pub reply : List ℕ → CommandOutcome → DiskState → Reply
reply answer outcome after = record { answer = answer; outcome = outcome; after = after }

-- the reply where this event was committed before it
abbrev pub after_commit : Event → Reply → Reply
after_commit e a =
    let outcome : CommandOutcome = record {
      acknowledged = e ∷ a.outcome.acknowledged;
      in_doubt = a.outcome.in_doubt;
      failed = a.outcome.failed;
    } in
    reply a.answer outcome a.after

-- the reply whose answer stands after this text
abbrev pub with_text : List ℕ → Reply → Reply
with_text text a = reply (text ++ a.answer) a.outcome a.after

-- a refusal: nothing was done
abbrev pub refusal_reply : NodeRefusal → DiskState → Reply
refusal_reply why p = reply (refusal_line why) no_outcome p

-- the device failed, and this is in doubt
abbrev pub failure_reply : Option Event → DiskState → Reply
failure_reply doubt p = reply (refusal_line device) (failure_outcome doubt) p
