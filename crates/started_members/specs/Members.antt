-- The members of started applications, and their processes.
use Rattle.std.specs.Prelude.{ℕ, ◌≡◌, ◌==◌, Bool, false, List, [], ◌∷◌, map, nat_le, slice_index_or, Option, Some, None, if◌then◌else◌}
use Rattle.std.specs.List.{find, filter, list_any}
use Rattle.std.specs.Option.{option_map, option_map_or}
use Rattle.std.specs.Str.{bytes_eq}
use Rattle.proc_table.specs.declared.pid.Pid.{Pid}
use Rattle.started_members.specs.declared.member.Member.{Member}
use Rattle.started_members.specs.declared.member.MemberState.{MemberState}
use Rattle.started_members.specs.declared.member.MemberState.TheVariants.{Process, Supervisor}
use Rattle.started_members.specs.declared.member.StartedProcess.{StartedProcess}

-- the process that stands for a member, where one does
abbrev pub state_process : MemberState → Option StartedProcess
state_process (Process p) = Some p
state_process s = None

abbrev pub process_in : Member → Option StartedProcess
process_in m = state_process m.state

abbrev pub process_and : {P : Type 0} → Option P → List P → List P
process_and None more = more
process_and (Some p) more = p ∷ more

-- the processes of these members
abbrev pub processes_among : List Member → List StartedProcess
processes_among [] = []
processes_among (m ∷ ms) = process_and (process_in m) (processes_among ms)

abbrev pub pids_of : List StartedProcess → List Pid
pids_of ps = map (λ (p : StartedProcess). p.pid) ps

-- of two places the one in the lower slot
abbrev pub lower : Option Pid → Option Pid → Option Pid
lower None o = o
lower o None = o
lower (Some p) (Some q) = Some (if nat_le p.slot q.slot then p else q)

-- the process with this id: of several the one in the lowest slot
abbrev pub lowest_with : List ℕ → List StartedProcess → Option Pid
lowest_with id [] = None
lowest_with id (p ∷ ps) = if bytes_eq p.id id then lower (Some p.pid) (lowest_with id ps) else lowest_with id ps

-- those that run this module
abbrev pub using_among : List ℕ → List StartedProcess → List Pid
using_among module' ps = pids_of (filter (λ (p : StartedProcess). bytes_eq p.module module') ps)

-- the module that the process of these runs which began in this slot, where one did
abbrev pub module_among : ℕ → List StartedProcess → Option (List ℕ)
module_among slot ps = option_map (λ (p : StartedProcess). p.module) (find (λ (p : StartedProcess). p.pid.slot == slot) ps)

-- The note of a slot: whether the first of these processes that began in it runs this module. Where none did, its earlier note.
abbrev pub note_of : List ℕ → List StartedProcess → List Bool → ℕ → Bool
note_of name ps before p = option_map_or (bytes_eq name) (module_among p ps) (slice_index_or before p false)

-- Each slot has its note.
abbrev pub Notes : List ℕ → List StartedProcess → List Bool → List Bool → Type 0
Notes name ps before after = (p : ℕ) → slice_index_or after p false ≡ note_of name ps before p

-- whether a supervisor of this module stands for a member
abbrev pub is_supervisor : List ℕ → MemberState → Bool
is_supervisor module' (Supervisor m) = bytes_eq m module'
is_supervisor module' s = false

abbrev pub supervises_in : List ℕ → List Member → Bool
supervises_in module' ms = list_any (λ (m : Member). is_supervisor module' m.state) ms

-- the supervisors of this module among these members
abbrev pub supervisors_in : List ℕ → List Member → List Member
supervisors_in name ms = filter (λ (m : Member). is_supervisor name m.state) ms
