use Rattle.std.proofs.Common.{map}
use Rattle.relup_instruction.specs.Instruction.{suspension_of}
use Rattle.script_progress.specs.Steps.{progress_of}
use Rattle.relup_exec.proofs.StepLemmas.{suspended}
use Rattle.relup_exec.proofs.suspend.suspend.Goals as goal

pub returns-clause-carried : goal.returns-clause-carried
returns-clause-carried g c = λ s early.
    suspended s g.past early (map suspension_of c.args.suspensions.now) c.hold_all.result (progress_of c.args.progress.now) c.args.progress.now.tree c.hold_all.new.held c.args.access.now c.hold_all.new.access
    c.requires.1.1 c.hold_all.ensures.longer c.hold_all.ensures.done
