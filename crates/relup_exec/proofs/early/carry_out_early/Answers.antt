use Rattle.std.proofs.Common.{ap}
use Rattle.relup_instruction.specs.Instruction.{call_of, instruction_of}
use Rattle.script_progress.specs.InMemory.{site_of}
use Rattle.script_progress.specs.Steps.{progress_of}
use Rattle.script_progress.specs.Fault.{error_cause}
use Rattle.script_progress.proofs.CallLemmas.{raised_cause}
use Rattle.relup_exec.proofs.FailLemmas.{raises_early}
use Rattle.relup_exec.proofs.early.carry_out_early.Goals as goal

pub returns-in-Apply-clause-carried : goal.returns-in-Apply-clause-carried
returns-in-Apply-clause-carried g c =
    raises_early (site_of c.args.sources.now) g.past (instruction_of c.args.instr.now) (call_of c.in-Apply.call) c.raise.result (progress_of c.args.progress.now) c.args.progress.now.tree c.args.access.now
    (ap instruction_of c.in-Apply.is) c.requires.1.1.0 c.requires.1.1.1
    (raised_cause (error_cause (call_of c.in-Apply.call).args) c.error_term.result _ c.error_term.ensures c.raise.ensures.copied c.raise.ensures.memory)
