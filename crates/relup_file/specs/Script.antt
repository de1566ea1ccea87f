-- What may stand where in a script, and why a script isn't run (OTP: appup(4); what stands before the point is this project's own).
use Rattle.std.specs.Prelude.{◌≡◌, ◌⊎◌, ℕ, ◌+◌, ◌<◌, ◌^◌, nat_lt, Bool, true, false, ◌&&◌, ◌||◌, ◌==◌, not, IsTrue, List, [], ◌∷◌, ◌++◌, length, Option, None, Some, is_some, codes, if◌then◌else◌}
use Rattle.std.specs.List.{AllByRecursion, list_any}
use Rattle.std.specs.Option.{option_map, option_or}
use Rattle.std.specs.Str.{bytes_eq}
use Rattle.erl_term.specs.Value.{Values}
use Rattle.erl_term.specs.Value.Value.{atom}
use Rattle.erl_term.specs.Value.Values.{no_values, value}
use Rattle.relup_file.specs.declared.script_fault.ScriptFault.{ScriptFault}
use Rattle.relup_file.specs.declared.script_fault.ScriptFault.TheVariants.{NoPoint, TwoPoints, Misplaced, Unsupported}
use Rattle.relup_file.specs.declared.script.Side.{Side}
use Rattle.relup_file.specs.declared.script.Side.TheVariants.{Early, Late}
use Rattle.relup_instruction.specs.Instruction.{CallForm, Instruction}
use Rattle.relup_instruction.specs.Instruction.Instruction.{load_object_code, point_of_no_return, suspend, load, code_change, apply, sync_nodes, restart_new_emulator, restart_emulator}

-- [Application]
abbrev pub is_app : Values → Bool
is_app (value (atom app) no_values) = true
is_app vs = false

-- a type with which an application is started
abbrev pub is_start_word : List ℕ → Bool
is_start_word s = bytes_eq s (codes "permanent") || bytes_eq s (codes "transient") || bytes_eq s (codes "temporary")

-- [Application, Type]
abbrev pub is_typed_app : Values → Bool
is_typed_app (value (atom app) (value (atom start) no_values)) = is_start_word start
is_typed_app vs = false

-- erlang:error/1
abbrev pub has_one : Values → Bool
has_one (value v no_values) = true
has_one vs = false

abbrev pub is_error : CallForm → Bool
is_error c = bytes_eq c.name (codes "erlang") && (bytes_eq c.function (codes "error") && has_one c.args)

-- application:start/1, start/2, stop/1, load/1 and unload/1
abbrev pub is_one_app_word : List ℕ → Bool
is_one_app_word s = bytes_eq s (codes "start") || bytes_eq s (codes "stop") || bytes_eq s (codes "load") || bytes_eq s (codes "unload")

abbrev pub is_application : CallForm → Bool
is_application c =
    bytes_eq c.name (codes "application")
    && ((is_one_app_word c.function && is_app c.args) || (bytes_eq c.function (codes "start") && is_typed_app c.args))

-- [Module, Id]
abbrev pub is_child : Values → Bool
is_child (value (atom super) (value (atom id) no_values)) = true
is_child vs = false

-- supervisor:terminate_child/2, delete_child/2 and restart_child/2
abbrev pub is_child_word : List ℕ → Bool
is_child_word s = bytes_eq s (codes "terminate_child") || bytes_eq s (codes "delete_child") || bytes_eq s (codes "restart_child")

abbrev pub is_child_call : CallForm → Bool
is_child_call c = bytes_eq c.name (codes "supervisor") && (is_child_word c.function && is_child c.args)

-- a call that a script can make
abbrev pub is_supported_call : CallForm → Bool
is_supported_call c = is_error c || (is_application c || is_child_call c)

abbrev pub is_point : Instruction → Bool
is_point point_of_no_return = true
is_point i = false

-- what is run at all
abbrev pub is_supported : Instruction → Bool
is_supported (apply c) = is_supported_call c
is_supported (sync_nodes vs) = false
is_supported restart_new_emulator = false
is_supported i = true

-- what may stand before the point of no return
abbrev pub may_precede : Instruction → Bool
may_precede (load_object_code f) = true
may_precede (suspend ss) = true
may_precede (load p) = true
may_precede (code_change c) = true
may_precede (apply c) = is_error c
may_precede i = false

-- what may stand after it
abbrev pub may_follow : Instruction → Bool
may_follow (load_object_code f) = false
may_follow point_of_no_return = false
may_follow i = true

-- it asks for a restart of the runtime system
abbrev pub is_restart : Instruction → Bool
is_restart restart_emulator = true
is_restart i = false

-- One of these does.
abbrev pub restarts : List Instruction → Bool
restarts = list_any is_restart

-- A restart stands at the end of a script alone.
abbrev pub may_stand : Side → Bool → Instruction → Bool
may_stand Early is_last i = may_precede i
may_stand Late is_last i = may_follow i && (is_last || not (is_restart i))

-- The instruction is run on this side of the point, as the last one of the side or as another.
abbrev pub IsRight : Side → Bool → Instruction → Type 0
IsRight side is_last i = IsTrue (is_supported i && may_stand side is_last i)

-- an instruction with these after it is the last one
abbrev pub is_end : List Instruction → Bool
is_end is = length is == 0

-- Each of these instructions of a side is run there.
abbrev pub AreRight : Side → List Instruction → Type 0
AreRight side [] = Unit {0}
AreRight side (i ∷ is) = IsRight side (is_end is) i × AreRight side is

-- how many points of no return there are
abbrev pub points : List Instruction → ℕ
points [] = 0
points (i ∷ is) = (if is_point i then 1 else 0) + points is

-- The script has one point of no return, and each of its instructions stands on its side of it.
pub record IsRunnable (script : List Instruction) : Type 0 where
  pub before : List Instruction
  pub after : List Instruction
  pub is : script ≡ before ++ (point_of_no_return ∷ after)
  pub early : AreRight Early before
  pub late : AreRight Late after

-- The instruction at a place, counted from 1, has the place for its number. A number is a word of 32 bits, and the instructions
-- after that have its last one.
abbrev pub number_at : ℕ → ℕ
number_at n = if nat_lt n (2 ^ 32) then n else 4294967295

-- what is wrong with an instruction at this place
abbrev pub fault_at : Side → Bool → ℕ → Instruction → Option ScriptFault
fault_at side is_last n i =
    if is_supported i then (if may_stand side is_last i then None else Some (Misplaced (number_at n)))
    else Some (Unsupported (number_at n))

-- The first instruction at fault on this side, which begins after so many instructions, has this fault.
pub record IsFirstFault (side : Side) (n : ℕ) (part : List Instruction) (f : ScriptFault) : Type 0 where
  pub front : List Instruction
  pub wrong : Instruction
  pub rest : List Instruction
  pub is : part ≡ front ++ (wrong ∷ rest)
  pub right : AllByRecursion (IsRight side false) front
  pub fault : fault_at side (is_end rest) (n + (length front + 1)) wrong ≡ Some f

-- The script has one point of no return, and an instruction before it has this fault, or none and one after it.
pub record HasWrong (script : List Instruction) (f : ScriptFault) : Type 0 where
  pub before : List Instruction
  pub after : List Instruction
  pub is : script ≡ before ++ (point_of_no_return ∷ after)
  pub one : points script ≡ 1
  pub first : IsFirstFault Early 0 before f ⊎ (AreRight Early before × IsFirstFault Late (length before + 1) after f)

-- The fault of a script: of several the first in the order of their kinds; of instructions the first one's.
abbrev pub IsScriptFault : List Instruction → ScriptFault → Type 0
IsScriptFault script NoPoint = points script ≡ 0
IsScriptFault script TwoPoints = 1 < points script
IsScriptFault script f = HasWrong script f

-- how it is found: what stands before and after the first point
abbrev pub split_point : List Instruction → Option (List Instruction × List Instruction)
split_point [] = None
split_point (i ∷ is) = if is_point i then Some ([], is) else option_map (λ p. (i ∷ p.0, p.1)) (split_point is)

-- the first fault on a side, after so many instructions
abbrev pub part_fault : Side → ℕ → List Instruction → Option ScriptFault
part_fault side n [] = None
part_fault side n (i ∷ is) = option_or (fault_at side (is_end is) (n + 1) i) (part_fault side (n + 1) is)

abbrev pub split_fault : Option (List Instruction × List Instruction) → Option ScriptFault
split_fault None = Some NoPoint
split_fault (Some p) =
    if is_some (split_point p.1) then Some TwoPoints
    else option_or (part_fault Early 0 p.0) (part_fault Late (length p.0 + 1) p.1)

abbrev pub script_fault : List Instruction → Option ScriptFault
script_fault script = split_fault (split_point script)
