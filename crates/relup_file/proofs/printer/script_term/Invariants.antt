use Rattle.std.proofs.Common.{◌≡◌, map, take}
use Rattle.erl_term.specs.Value.{value_of}
use Rattle.relup_instruction.specs.Instruction.{instruction_of}
use Rattle.relup_instruction.specs.Form.{instruction_term}
use Rattle.relup_file.proofs.printer.script_term.Given as goal

abbrev pub invariant-loop-instr : goal.invariant-loop-instr
invariant-loop-instr l = map value_of l.terms.items ≡ map instruction_term (map instruction_of (take l.instr-index l.script))
