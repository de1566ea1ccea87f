-- The entries of a release.
use Rattle.std.specs.Prelude.{◌≡◌, ℕ, List, [], ◌∷◌, map, IsSome, Option, Some, None}
use Rattle.erl_term.specs.Value.{value_of}
use Rattle.mod_table.specs.InMemory.{old_of}
use Rattle.proc_history.specs.declared.value.Value.{Value}
use Rattle.proc_history.specs.declared.value.Now.{Now}
use Rattle.proc_history.specs.declared.entry.Entry.{Entry}
use Rattle.proc_history.specs.declared.entry.Entry.TheVariants.{Begin, Loaded, Changed, Stopped, Started, GivenUp}
use Rattle.proc_history.specs.Events as event
use Rattle.proc_history.specs.Events.{HistoryEntry, entry}
use Rattle.proc_history.specs.Events.Event.{begin, loaded, changed, stopped, started, given_up}

-- what a process that stands begins with
abbrev pub begin_of : ℕ → Option Now → event.Event
begin_of round (Some n) = begin round (record { app = n.app; id = n.id; restart = n.restart; table = n.table })
begin_of round None = given_up

-- the event of an entry, at the value that is released
abbrev pub event_of : Value → Entry → event.Event
event_of v Begin = begin_of v.round v.now
event_of v (Loaded t) = loaded t.now
event_of v (Changed old extra) = changed (old_of old) (value_of extra.now)
event_of v Stopped = stopped
event_of v Started = started
event_of v GivenUp = given_up

abbrev pub entries_of : Value → List Entry → List HistoryEntry
entries_of v es = map (λ e. entry 0 (event_of v e)) es

-- a process begins at the end of the list alone, and stands there then
abbrev pub BeginsLast : Value → List Entry → Type 0
BeginsLast v [] = Unit {0}
BeginsLast v (Begin ∷ es) = (es ≡ []) × IsSome v.now
BeginsLast v (e ∷ es) = BeginsLast v es
