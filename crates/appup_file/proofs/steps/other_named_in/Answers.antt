use Rattle.std.proofs.Common.{refl}
use Rattle.appup_file.specs.declared.instruction.AppupInstr.TheVariants.{DeleteModule, AddApplication}
use Rattle.appup_file.specs.Instruction.{dependent_of, added_of, appup_instruction_of}
use Rattle.appup_file.specs.Instruction.AppupInstruction.{delete_module, add_application}
use Rattle.relup_instruction.proofs.Wrapped.{wrapped}
use Rattle.appup_file.proofs.steps.other_named_in.Goals as goal

pub returns-in_ok-dependent_in : goal.returns-in_ok-dependent_in
returns-in_ok-dependent_in c =
    rw (← c.if-eq.ensures, ← c.in_ok-dependent_in.ensures) (wrapped appup_instruction_of dependent_of DeleteModule delete_module (λ d. refl) c.in_ok-dependent_in.field-0 c.map.result c.map.ensures.cases)

pub returns-in_ok-added_in : goal.returns-in_ok-added_in
returns-in_ok-added_in c =
    rw (← c.if-eq.ensures, ← c.if-eq-2.ensures, ← c.in_ok-added_in.ensures)
    (wrapped appup_instruction_of added_of AddApplication add_application (λ a. refl) c.in_ok-added_in.field-0 c.map-then-eq-2.result c.map-then-eq-2.ensures.cases)

pub returns-else-eq-2 : goal.returns-else-eq-2
returns-else-eq-2 c = rw (← c.if-eq.ensures, ← c.if-eq-2.ensures) c.app_in.ensures
