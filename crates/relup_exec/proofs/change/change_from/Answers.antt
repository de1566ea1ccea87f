use Rattle.std.proofs.Common.{refl, sym}
use Rattle.worker_table.specs.InMemory.{old_of}
use Rattle.relup_instruction.specs.Instruction.{change_of}
use Rattle.script_progress.specs.declared.cause.Cause.TheVariants.{NoChange}
use Rattle.script_progress.specs.Steps.{progress_of}
use Rattle.relup_exec.proofs.StepLemmas.{changed_by_row, changed_without_row}
use Rattle.relup_exec.proofs.change.change_from.Goals as goal

pub returns-in-Ok : goal.returns-in-Ok
returns-in-Ok c = λ s mode past v done there.
    changed_by_row s past mode c.args.number (change_of c.args.change.now) c.args.progress.now.tree c.as_str.result.now (old_of c.args.old.now) (progress_of c.args.progress.now) c.change.new.self v c.change.result
    c.as_str.ensures.value (sym there) done c.change.ensures c.in-Ok.is

pub returns-in-Err : goal.returns-in-Err
returns-in-Err c = λ s mode past v done there.
    changed_without_row s past mode c.args.number (change_of c.args.change.now) c.args.progress.now.tree c.as_str.result.now (old_of c.args.old.now) (progress_of c.args.progress.now) c.change.new.self v c.change.result c.in-Err.undone
    (record { cause = NoChange; modules = c.args.number; slot = c.in-Err.undone.slot })
    c.as_str.ensures.value (sym there) done c.change.ensures c.in-Err.is refl refl refl
