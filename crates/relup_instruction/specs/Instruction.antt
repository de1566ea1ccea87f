-- Instructions and scripts without where they lie in memory.
use Rattle.std.specs.Prelude.{ℕ, List, Option, map, string_bytes}
use Rattle.erl_term.specs.Value.{Value, Values, value_of, members_of}
use Rattle.relup_instruction.specs.declared.instruction.Direction.{Direction}
use Rattle.relup_instruction.specs.declared.instruction.Timeout.{Timeout}
use Rattle.relup_instruction.specs.declared.instruction.PurgeMode.{PurgeMode}
use Rattle.relup_instruction.specs.declared.instruction.Fetch.{Fetch}
use Rattle.relup_instruction.specs.declared.instruction.Suspension.{Suspension}
use Rattle.relup_instruction.specs.declared.instruction.Purging.{Purging}
use Rattle.relup_instruction.specs.declared.instruction.Change.{Change}
use Rattle.relup_instruction.specs.declared.instruction.Conversion.{Conversion}
use Rattle.relup_instruction.specs.declared.instruction.Call.{Call}
use Rattle.relup_instruction.specs.declared.instruction.Instr.{Instr}
use Rattle.relup_instruction.specs.declared.instruction.Instr.TheVariants as instr

-- modules of a library
pub record FetchForm : Type 0 where
  pub app : List ℕ
  pub vsn : List ℕ
  pub modules : List (List ℕ)

pub record SuspensionForm : Type 0 where
  pub name : List ℕ
  pub timeout : Option Timeout

pub record PurgingForm : Type 0 where
  pub name : List ℕ
  pub pre : PurgeMode
  pub post : PurgeMode

pub record ChangeForm : Type 0 where
  pub name : List ℕ
  pub extra : Value

pub record ConversionForm : Type 0 where
  pub mode : Option Direction
  pub changes : List ChangeForm

pub record CallForm : Type 0 where
  pub name : List ℕ
  pub function : List ℕ
  pub args : Values

-- an instruction (OTP: appup(4), low-level instructions)
pub data Instruction : Type 0 where
  load_object_code : FetchForm → Instruction
  point_of_no_return : Instruction
  suspend : List SuspensionForm → Instruction
  load : PurgingForm → Instruction
  code_change : ConversionForm → Instruction
  resume : List (List ℕ) → Instruction
  remove : PurgingForm → Instruction
  purge : List (List ℕ) → Instruction
  stop : List (List ℕ) → Instruction
  start : List (List ℕ) → Instruction
  apply : CallForm → Instruction
  sync_nodes : Values → Instruction
  restart_new_emulator : Instruction
  restart_emulator : Instruction

abbrev pub fetch_of : Fetch → FetchForm
fetch_of f = record { app = string_bytes f.app; vsn = string_bytes f.vsn; modules = map string_bytes f.modules.items }

abbrev pub suspension_of : Suspension → SuspensionForm
suspension_of s = record { name = string_bytes s.name; timeout = s.timeout }

abbrev pub purging_of : Purging → PurgingForm
purging_of p = record { name = string_bytes p.name; pre = p.pre; post = p.post }

abbrev pub change_of : Change → ChangeForm
change_of c = record { name = string_bytes c.name; extra = value_of c.extra }

abbrev pub conversion_of : Conversion → ConversionForm
conversion_of c = record { mode = c.mode; changes = map change_of c.changes.items }

abbrev pub call_of : Call → CallForm
call_of c = record { name = string_bytes c.name; function = string_bytes c.function; args = members_of c.args.items }

abbrev pub instruction_of : Instr → Instruction
instruction_of (instr.LoadObjectCode f) = load_object_code (fetch_of f)
instruction_of instr.PointOfNoReturn = point_of_no_return
instruction_of (instr.Suspend v) = suspend (map suspension_of v.items)
instruction_of (instr.Load p) = load (purging_of p)
instruction_of (instr.CodeChange c) = code_change (conversion_of c)
instruction_of (instr.Resume v) = resume (map string_bytes v.items)
instruction_of (instr.Remove p) = remove (purging_of p)
instruction_of (instr.Purge v) = purge (map string_bytes v.items)
instruction_of (instr.Stop v) = stop (map string_bytes v.items)
instruction_of (instr.Start v) = start (map string_bytes v.items)
instruction_of (instr.Apply c) = apply (call_of c)
instruction_of (instr.SyncNodes v) = sync_nodes (members_of v.items)
instruction_of instr.RestartNewEmulator = restart_new_emulator
instruction_of instr.RestartEmulator = restart_emulator

abbrev pub script_of : List Instr → List Instruction
script_of = map instruction_of
