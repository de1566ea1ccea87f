-- Processes that are given up.
use Rattle.std.specs.Prelude.{◌≡◌, ◌==◌, Bool, ◌&&◌, List, [], ◌∷◌, is_some, Option, Some, None, if◌then◌else◌}
use Rattle.proc_table.specs.Value.{Value}
use Rattle.proc_table.specs.Events.{HistoryEntry, entry}
use Rattle.proc_table.specs.Events.Event.{given_up}
use Rattle.proc_table.specs.declared.view.View.{View}
use Rattle.proc_table.specs.declared.pid.Pid.{Pid}
use Rattle.proc_table.specs.Holds.{Holding, Released}
use Rattle.proc_table.specs.Waits.{HeldAtLast}
use Rattle.started_members.specs.declared.member.StartedProcess.{StartedProcess}

-- whether the process stands there, in its round
abbrev pub stands : Pid → Value → Bool
stands pid x = (x.round == pid.round) && is_some x.now

-- the entry of a process that is given up; none where it was given up before
abbrev pub ending : Pid → Value → List HistoryEntry
ending pid x = if stands pid x then entry 0 given_up ∷ [] else []

-- The slot was held, and its process given up.
abbrev pub EndedAt : Pid → View → View → Type 0
EndedAt pid v w = (h : Holding) × (u : View) × HeldAtLast pid.slot v h u × Released pid.slot (ending pid h.value) u w

-- The process of a member was given up, where one stands for it.
abbrev pub MemberEnded : Option StartedProcess → View → View → Type 0
MemberEnded None v w = w ≡ v
MemberEnded (Some p) v w = EndedAt p.pid v w

-- The processes were given up one after another.
abbrev pub EndedInOrder : List Pid → View → View → Type 0
EndedInOrder [] v w = w ≡ v
EndedInOrder (p ∷ ps) v w = (u : View) × EndedAt p v u × EndedInOrder ps u w
