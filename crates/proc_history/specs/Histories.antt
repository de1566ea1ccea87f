-- The history of a slot: what it leaves, and whether it is legal.
use Rattle.std.specs.Prelude.{List, [], ◌∷◌}
use Rattle.proc_history.specs.declared.value.Value.{Value}
use Rattle.proc_history.specs.Events.{HistoryEntry, MayDo}
use Rattle.proc_history.specs.Values.{nothing, after, MayCome}

abbrev pub replay_from : Value → List HistoryEntry → Value
replay_from v [] = v
replay_from v (e ∷ es) = replay_from (after v e.event) es

-- what stands in the slot after this history
abbrev pub replay : List HistoryEntry → Value
replay h = replay_from nothing h

abbrev pub LegalFrom : Value → List HistoryEntry → Type 0
LegalFrom v [] = Unit {0}
LegalFrom v (e ∷ es) = MayDo e.by e.event × MayCome v e.event × LegalFrom (after v e.event) es

-- each entry may come where it stands, and is of one who may do that
abbrev pub IsLegal : List HistoryEntry → Type 0
IsLegal h = LegalFrom nothing h
