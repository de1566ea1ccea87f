-- Laws of processes that begin, and of members that change.
use Rattle.std.specs.Prelude.{◌≡◌, ℕ, suc, ◌+◌, ◌<◌, ◌≤◌, List, [], ◌∷◌, length, None, Some, IsPermutation}
use Rattle.proc_table.specs.Histories.{replay}
use Rattle.proc_table.specs.Values.{begun}
use Rattle.proc_table.specs.declared.view.View.{View}
use Rattle.proc_table.specs.Agrees.{slots}
use Rattle.proc_table.specs.Views.{seen, handler_view}
use Rattle.proc_table.specs.Free.{next_in}
use Rattle.started_members.specs.declared.member.StartedProcess.{StartedProcess}
use Rattle.app_members.specs.Walk.{Start}
use Rattle.mod_table.specs.Table.{ChildSpec}
use Rattle.started_members.specs.declared.member.Member.{Member}
use Rattle.started_members.specs.Changes.{members_changed}
use Rattle.started_members.specs.Members.{processes_among}
use Rattle.started_members.specs.Begins.{beginning_of, BeganInOrder}

-- Each stands where it began, with the names of its application and its id, in the first state of its table.
abbrev pub Stand : List ℕ → List Start → List StartedProcess → View → Type 0
Stand app (s ∷ ss) (p ∷ ps) v = (replay (seen v p.pid.slot) ≡ record { round = p.pid.round; now = Some (begun (beginning_of app s)) }) × Stand app ss ps v
Stand app ss ps v = Unit {0}

-- Processes that began stand.
abbrev pub WhatBeganStands : Type 0
WhatBeganStands = (app : List ℕ) (ss : List Start) (v w : View) (ps : List StartedProcess) → BeganInOrder app ss v ps w → Stand app ss ps w

-- A process can begin in each slot from this one on, with round 1, and in none below.
pub record FreeFrom (n : ℕ) (v : View) : Type 0 where
  pub below : (q : ℕ) → q < n → next_in v q ≡ None
  pub from : (q : ℕ) → n ≤ q → q < slots → next_in v q ≡ Some 1

-- The processes are in the slots from this one on, with round 1.
abbrev pub AreFrom : ℕ → List StartedProcess → Type 0
AreFrom n [] = Unit {0}
AreFrom n (p ∷ ps) = (p.pid.slot ≡ n) × (p.pid.round ≡ 1) × AreFrom (suc n) ps

-- In a new table all slots are free. Where all from one on are, what is started lies in them in order.
abbrev pub FirstSlots : Type 0
FirstSlots = FreeFrom 0 (handler_view slots)
    × ((app : List ℕ) (ss : List Start) (n : ℕ) (v w : View) (ps : List StartedProcess) → FreeFrom n v → BeganInOrder app ss v ps w
    → AreFrom n ps × FreeFrom (n + length ps) w)

-- Where the supervisors of a module get other children, the processes are those from before, in another order: none is lost, and
-- none stands twice.
abbrev pub KeepsProcesses : Type 0
KeepsProcesses = (name : List ℕ) (cs : List ChildSpec) (ms : List Member)
    → IsPermutation (processes_among ms) (processes_among (members_changed name cs ms))
