-- Members for which all memory is there, before their processes begin and after it.
use Rattle.std.specs.Prelude.{◌≡◌, ℕ, List, [], ◌∷◌, Option, None, Some, Ok}
use Rattle.mod_table.specs.declared.table.Table.{Table}
use Rattle.mod_table.specs.declared.table.Table.TheVariants.{Worker, Super}
use Rattle.mod_table.specs.Table.{ChildSpec}
use Rattle.proc_table.specs.declared.pid.Pid.{Pid}
use Rattle.proc_table.specs.declared.view.View.{View}
use Rattle.proc_table.specs.Free.{BeganLowest}
use Rattle.started_members.specs.declared.begins.NewProcess.{NewProcess}
use Rattle.started_members.specs.declared.begins.Preparation.{Preparation}
use Rattle.started_members.specs.declared.member.Member.{Member}
use Rattle.started_members.specs.declared.member.MemberState.TheVariants.{Process}
use Rattle.app_members.specs.Walk.{NewMember}
use Rattle.started_members.specs.Members.{process_and}
use Rattle.started_members.specs.Begins.{beginning_of, state_before, member_with}

abbrev pub process_in_table : List ℕ → ChildSpec → Table → Option NewProcess
process_in_table app c (Worker w) = Some (record { begins = beginning_of app (record { child = c; table = w }); id = c.id; «module» = c.start })
process_in_table app c (Super s) = None

-- the process that a member of this application is, where it is one
abbrev pub new_process_of : List ℕ → NewMember → Option NewProcess
new_process_of app m = process_in_table app m.child m.table

abbrev pub preparation_of : List ℕ → NewMember → Preparation
preparation_of app m = record { member = member_with m (state_before m); process = new_process_of app m }

-- the processes that are to begin
abbrev pub to_begin : List Preparation → List NewProcess
to_begin [] = []
to_begin (p ∷ ps) = process_and p.process (to_begin ps)

-- a member for which this process stands
abbrev pub begun_with : Member → NewProcess → Pid → Member
begun_with m p pid = record m { state = Process (record { id = p.id; «module» = p.«module»; pid = pid }) }

-- The process of a member began in the lowest slot, where it is one.
abbrev pub IsBegunWith : Option NewProcess → Member → View → Member → View → Type 0
IsBegunWith None m v n w = (n ≡ m) × (w ≡ v)
IsBegunWith (Some p) m v n w =
    (pid : Pid) × BeganLowest p.begins v (Ok pid) w × (n ≡ begun_with m p pid)

abbrev pub IsBegun : Preparation → View → Member → View → Type 0
IsBegun p v n w = IsBegunWith p.process p.member v n w

-- The processes of the prepared members began one after another.
abbrev pub AllBegan : List Preparation → View → List Member → View → Type 0
AllBegan [] v [] w = w ≡ v
AllBegan (p ∷ ps) v (m ∷ ms) w = (u : View) × IsBegun p v m u × AllBegan ps u ms w
AllBegan ps v ms w = ⊥
