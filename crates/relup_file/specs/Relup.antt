-- Relups without where they lie in memory.
use Rattle.std.specs.Prelude.{ℕ, List, map, string_bytes}
use Rattle.erl_term.specs.Value.{Value, value_of}
use Rattle.relup_instruction.specs.Instruction.{Instruction, script_of}
use Rattle.relup_file.specs.declared.relup.RelupEntry.{RelupEntry}
use Rattle.relup_file.specs.declared.relup.Relup.{Relup}

pub record EntryForm : Type 0 where
  pub vsn : List ℕ
  pub descr : Value
  pub script : List Instruction

pub record RelupForm : Type 0 where
  pub vsn : List ℕ
  pub ups : List EntryForm
  pub downs : List EntryForm

abbrev pub entry_of : RelupEntry → EntryForm
entry_of e = record { vsn = string_bytes e.vsn; descr = value_of e.descr; script = script_of e.script.items }

abbrev pub relup_of : Relup → RelupForm
relup_of r = record { vsn = string_bytes r.vsn; ups = map entry_of r.ups.items; downs = map entry_of r.downs.items }
