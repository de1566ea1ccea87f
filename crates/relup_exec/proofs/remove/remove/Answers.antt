use Rattle.std.proofs.Common.{ap}
use Rattle.relup_instruction.specs.Instruction.{purging_of}
use Rattle.script_progress.specs.declared.cause.Failure.{Failure}
use Rattle.script_progress.specs.InMemory.{cause_of}
use Rattle.script_progress.specs.Steps.{progress_of}
use Rattle.relup_exec.proofs.RemoveLemmas.{refusal_looks, removal_looks, removed_well}
use Rattle.relup_exec.proofs.remove.remove.Goals as goal

pub returns-clause-carried : goal.returns-clause-carried
returns-clause-carried g c = λ s.
    removed_well s g.past (purging_of c.args.purging.now) c.as_str.result.now (progress_of c.args.progress.now) _ c.args.progress.now.tree c.args.access.now c.is_in_use.new.access c.is_in_use.result
    c.requires.1.1 c.is_in_use.ensures.longer c.is_in_use.ensures.follow c.as_str.ensures.value c.is_in_use.ensures.reported c.if-is_in_use.false c.remove.ensures

pub returns-clause-looked : goal.returns-clause-looked
returns-clause-looked g c =
    removal_looks g.past (purging_of c.args.purging.now) (progress_of c.args.progress.now) c.args.progress.now.tree c.args.access.now c.is_in_use.new.access c.requires.1.1 c.is_in_use.ensures.looked

pub returns-then-is_in_use-clause-looked : goal.returns-then-is_in_use-clause-looked
returns-then-is_in_use-clause-looked g c =
    refusal_looks g.past (purging_of c.args.purging.now) c.failure_at_start.result (progress_of c.args.progress.now) c.args.progress.now.tree c.args.access.now c.is_in_use.new.access c.is_in_use.result c.requires.1.1
    c.is_in_use.ensures.looked c.is_in_use.ensures.reported c.if-is_in_use.true (ap (λ (e : Failure). cause_of e.cause) c.failure_at_start.ensures)
