-- Instructions of appups, and appups, without where they lie in memory.
use Rattle.std.specs.Prelude.{ℕ, List, map, string_bytes}
use Rattle.erl_term.specs.Value.{Value, value_of}
use Rattle.rel_files.specs.declared.release.StartType.{StartType}
use Rattle.relup_instruction.specs.declared.instruction.Timeout.{Timeout}
use Rattle.relup_instruction.specs.declared.instruction.PurgeMode.{PurgeMode}
use Rattle.relup_instruction.specs.Instruction.{Instruction, instruction_of}
use Rattle.appup_file.specs.declared.instruction.ModType.{ModType}
use Rattle.appup_file.specs.declared.instruction.StateChange.{StateChange}
use Rattle.appup_file.specs.declared.instruction.StateChange.TheVariants.{Soft, Advanced}
use Rattle.appup_file.specs.declared.instruction.Update.{Update}
use Rattle.appup_file.specs.declared.instruction.ModuleLoad.{ModuleLoad}
use Rattle.appup_file.specs.declared.instruction.Dependent.{Dependent}
use Rattle.appup_file.specs.declared.instruction.AddedApp.{AddedApp}
use Rattle.appup_file.specs.declared.instruction.AppupInstr.{AppupInstr}
use Rattle.appup_file.specs.declared.instruction.AppupInstr.TheVariants as instr
use Rattle.appup_file.specs.declared.appup.OtherVersion.{OtherVersion}
use Rattle.appup_file.specs.declared.appup.OtherVersion.TheVariants.{Text, Pattern}
use Rattle.appup_file.specs.declared.appup.AppupEntry.{AppupEntry}
use Rattle.appup_file.specs.declared.appup.Appup.{Appup}

-- what an update asks of processes
pub data ChangeForm : Type 0 where
  soft : ChangeForm
  advanced : Value → ChangeForm

pub record UpdateForm : Type 0 where
  pub name : List ℕ
  pub mod_type : ModType
  pub timeout : Timeout
  pub change : ChangeForm
  pub pre : PurgeMode
  pub post : PurgeMode
  pub dep_mods : List (List ℕ)

pub record LoadForm : Type 0 where
  pub name : List ℕ
  pub pre : PurgeMode
  pub post : PurgeMode
  pub dep_mods : List (List ℕ)

-- a module that is added or deleted
pub record DependentForm : Type 0 where
  pub name : List ℕ
  pub dep_mods : List (List ℕ)

pub record AddedForm : Type 0 where
  pub name : List ℕ
  pub start : StartType

-- an instruction of an appup (OTP: appup(4))
pub data AppupInstruction : Type 0 where
  update : UpdateForm → AppupInstruction
  load_module : LoadForm → AppupInstruction
  add_module : DependentForm → AppupInstruction
  delete_module : DependentForm → AppupInstruction
  add_application : AddedForm → AppupInstruction
  remove_application : List ℕ → AppupInstruction
  restart_application : List ℕ → AppupInstruction
  low_level : Instruction → AppupInstruction

-- the version at the other end of an entry: a text, or the bytes of a regular expression
pub data VersionForm : Type 0 where
  text : List ℕ → VersionForm
  pattern : List ℕ → VersionForm

pub record AppupEntryForm : Type 0 where
  pub vsn : VersionForm
  pub instrs : List AppupInstruction

pub record AppupForm : Type 0 where
  pub vsn : List ℕ
  pub ups : List AppupEntryForm
  pub downs : List AppupEntryForm

abbrev pub change_of : StateChange → ChangeForm
change_of Soft = soft
change_of (Advanced t) = advanced (value_of t)

abbrev pub update_of : Update → UpdateForm
update_of u = record {
  name = string_bytes u.name;
  mod_type = u.mod_type;
  timeout = u.timeout;
  change = change_of u.change;
  pre = u.pre;
  post = u.post;
  dep_mods = map string_bytes u.dep_mods.items;
}

abbrev pub load_of : ModuleLoad → LoadForm
load_of l = record { name = string_bytes l.name; pre = l.pre; post = l.post; dep_mods = map string_bytes l.dep_mods.items }

abbrev pub dependent_of : Dependent → DependentForm
dependent_of d = record { name = string_bytes d.name; dep_mods = map string_bytes d.dep_mods.items }

abbrev pub added_of : AddedApp → AddedForm
added_of a = record { name = string_bytes a.name; start = a.start }

abbrev pub appup_instruction_of : AppupInstr → AppupInstruction
appup_instruction_of (instr.Update u) = update (update_of u)
appup_instruction_of (instr.LoadModule l) = load_module (load_of l)
appup_instruction_of (instr.AddModule d) = add_module (dependent_of d)
appup_instruction_of (instr.DeleteModule d) = delete_module (dependent_of d)
appup_instruction_of (instr.AddApplication a) = add_application (added_of a)
appup_instruction_of (instr.RemoveApplication s) = remove_application (string_bytes s)
appup_instruction_of (instr.RestartApplication s) = restart_application (string_bytes s)
appup_instruction_of (instr.LowLevel i) = low_level (instruction_of i)

-- instructions in a row
abbrev pub row_of : List AppupInstr → List AppupInstruction
row_of = map appup_instruction_of

abbrev pub version_of : OtherVersion → VersionForm
version_of (Text s) = text (string_bytes s)
version_of (Pattern v) = pattern v.items

abbrev pub entry_of : AppupEntry → AppupEntryForm
entry_of e = record { vsn = version_of e.vsn; instrs = row_of e.instrs.items }

abbrev pub appup_of : Appup → AppupForm
appup_of a = record { vsn = string_bytes a.vsn; ups = map entry_of a.ups.items; downs = map entry_of a.downs.items }
