use Rattle.std.proofs.Common.{refl}
use Rattle.relup_instruction.specs.declared.instruction.Instr.TheVariants.{Load, Remove, Apply}
use Rattle.relup_instruction.specs.Instruction.{purging_of, call_of, instruction_of}
use Rattle.relup_instruction.specs.Instruction.Instruction.{load, remove, apply}
use Rattle.relup_instruction.proofs.Wrapped.{wrapped}
use Rattle.relup_instruction.proofs.steps.other_single_in.Goals as goal

pub returns-in_ok-purging_in-in-load : goal.returns-in_ok-purging_in-in-load
returns-in_ok-purging_in-in-load c =
    rw (c.in-load.is, ← c.in_ok-purging_in-in-load.ensures) (wrapped instruction_of purging_of Load load (λ a. refl) c.in_ok-purging_in-in-load.field-0 c.map.result c.map.ensures.cases)

pub returns-in_ok-purging_in-in-remove : goal.returns-in_ok-purging_in-in-remove
returns-in_ok-purging_in-in-remove c =
    rw (c.in-remove.is, ← c.in_ok-purging_in-in-remove.ensures) (wrapped instruction_of purging_of Remove remove (λ a. refl) c.in_ok-purging_in-in-remove.field-0 c.map-in-remove.result c.map-in-remove.ensures.cases)

pub returns-in_ok-call_in-in-apply : goal.returns-in_ok-call_in-in-apply
returns-in_ok-call_in-in-apply c =
    rw (c.in-apply.is, ← c.in_ok-call_in-in-apply.ensures) (wrapped instruction_of call_of Apply apply (λ a. refl) c.in_ok-call_in-in-apply.field-0 c.map-in-apply.result c.map-in-apply.ensures.cases)
