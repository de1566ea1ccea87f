use Rattle.std.proofs.Common.{refl}
use Rattle.relup_instruction.specs.declared.instruction.Instr.TheVariants.{CodeChange}
use Rattle.relup_instruction.specs.Instruction.{conversion_of, instruction_of}
use Rattle.relup_instruction.specs.Instruction.Instruction.{code_change}
use Rattle.relup_instruction.proofs.Wrapped.{wrapped}
use Rattle.relup_instruction.proofs.steps.tagged_in.Goals as goal

pub returns-in_ok-conversion_in-in-code_change : goal.returns-in_ok-conversion_in-in-code_change
returns-in_ok-conversion_in-in-code_change c =
    rw (c.in-code_change.is, ← c.in_ok-conversion_in-in-code_change.ensures) (wrapped instruction_of conversion_of CodeChange code_change (λ a. refl) c.in_ok-conversion_in-in-code_change.field-0 c.map.result c.map.ensures.cases)
