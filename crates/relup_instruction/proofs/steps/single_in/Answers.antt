use Rattle.std.proofs.Common.{Vec, Global, map, refl}
use Rattle.relup_instruction.specs.declared.instruction.Suspension.{Suspension}
use Rattle.relup_instruction.specs.declared.instruction.Instr.TheVariants.{LoadObjectCode, Suspend}
use Rattle.relup_instruction.specs.Instruction.{fetch_of, suspension_of, instruction_of}
use Rattle.relup_instruction.specs.Instruction.Instruction.{load_object_code, suspend}
use Rattle.relup_instruction.proofs.Wrapped.{wrapped}
use Rattle.relup_instruction.proofs.steps.single_in.Goals as goal

pub returns-in_ok-fetch_in-in-load_object_code : goal.returns-in_ok-fetch_in-in-load_object_code
returns-in_ok-fetch_in-in-load_object_code c =
    rw (c.in-load_object_code.is, ← c.in_ok-fetch_in-in-load_object_code.ensures) (wrapped instruction_of fetch_of LoadObjectCode load_object_code (λ a. refl) c.in_ok-fetch_in-in-load_object_code.field-0 c.map.result c.map.ensures.cases)

pub returns-in_ok-suspensions_in-in-suspend : goal.returns-in_ok-suspensions_in-in-suspend
returns-in_ok-suspensions_in-in-suspend c =
    rw (c.in-suspend.is, ← c.in_ok-suspensions_in-in-suspend.ensures) (wrapped instruction_of (λ (v : Vec Suspension Global). map suspension_of v.items) Suspend suspend (λ a. refl) c.in_ok-suspensions_in-in-suspend.field-0 c.map-in-suspend.result c.map-in-suspend.ensures.cases)
