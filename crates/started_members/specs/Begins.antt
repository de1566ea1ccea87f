-- How members begin, and what stands for them then.
use Rattle.std.specs.Prelude.{◌≡◌, ℕ, List, [], ◌∷◌, Option, Ok}
use Rattle.mod_table.specs.declared.table.Table.{Table}
use Rattle.mod_table.specs.declared.table.Table.TheVariants.{Worker, Super}
use Rattle.mod_table.specs.Table.{ChildSpec}
use Rattle.proc_table.specs.Beginning.{Beginning}
use Rattle.proc_table.specs.declared.view.View.{View}
use Rattle.proc_table.specs.declared.pid.Pid.{Pid}
use Rattle.proc_table.specs.Free.{BeganLowest}
use Rattle.mod_table.specs.Tables.{Tables}
use Rattle.started_members.specs.declared.member.Member.{Member}
use Rattle.started_members.specs.declared.member.MemberState.{MemberState}
use Rattle.started_members.specs.declared.member.MemberState.TheVariants.{Ended, Process, Supervisor}
use Rattle.started_members.specs.declared.member.StartedProcess.{StartedProcess}
use Rattle.app_members.specs.Walk.{NewMember, Start, StartFault, lone_fault, lone_members}

-- what a process of this application begins with
abbrev pub beginning_of : List ℕ → Start → Beginning
beginning_of app s = record { app = app; id = s.child.id; restart = s.child.restart; table = s.table }

abbrev pub process_of : Start → Pid → StartedProcess
process_of s pid = record { id = s.child.id; «module» = s.child.start; pid = pid }

-- The processes began one after another, each in the lowest slot in which one could.
abbrev pub BeganInOrder : List ℕ → List Start → View → List StartedProcess → View → Type 0
BeganInOrder app [] v [] w = w ≡ v
BeganInOrder app (s ∷ ss) v (p ∷ ps) w = (u : View) × BeganLowest (beginning_of app s) v (Ok p.pid) u × (p ≡ process_of s p.pid) × BeganInOrder app ss u ps w
BeganInOrder app ss v ps w = ⊥

-- a member for which this stands
abbrev pub member_with : NewMember → MemberState → Member
member_with m s = record { depth = m.depth; id = m.child.id; «module» = m.child.start; restart = m.child.restart; kind = m.child.kind; state = s }

-- what stands for a child whose module has this table, where processes have these places: the first, if it is a process
abbrev pub state_at : Table → ChildSpec → List Pid → MemberState
state_at (Worker w) c [] = Ended
state_at (Worker w) c (pid ∷ pids) = Process (process_of (record { child = c; table = w }) pid)
state_at (Super s) c pids = Supervisor c.start

-- the places that are left to those after it
abbrev pub left_behind : Table → List Pid → List Pid
left_behind (Worker w) [] = []
left_behind (Worker w) (pid ∷ pids) = pids
left_behind (Super s) pids = pids

-- what stands for a member before its process begins
abbrev pub state_before : NewMember → MemberState
state_before m = state_at m.table m.child []

-- the members where their processes have these places, in their order
abbrev pub members_at : List NewMember → List Pid → List Member
members_at [] pids = []
members_at (m ∷ ms) pids = member_with m (state_at m.table m.child pids) ∷ members_at ms (left_behind m.table pids)

-- the child specification of a member
abbrev pub specification : Member → ChildSpec
specification m = record { id = m.id; start = m.«module»; restart = m.restart; kind = m.kind }

-- what is wrong with it, and the members with which it begins again
abbrev pub restart_fault : Tables → Member → Option StartFault
restart_fault tables m = lone_fault tables m.depth (specification m)

abbrev pub restart_members : Tables → Member → List NewMember
restart_members tables m = lone_members tables m.depth (specification m)
