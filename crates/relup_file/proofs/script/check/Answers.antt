use Rattle.std.proofs.Common.{Err, ap, refl, sym}
use Rattle.relup_instruction.specs.Instruction.{script_of}
use Rattle.relup_file.proofs.ScriptLemmas.{runnable, not_runnable, reports_one, reports_none}
use Rattle.relup_file.proofs.script.check.Goals as goal

pub returns-in-Some-clause-runnable : goal.returns-in-Some-clause-runnable
returns-in-Some-clause-runnable c = (λ e. absurd cc, λ h. absurd (not_runnable (script_of c.args.script.now) c.in-Some.fault c.in-Some.ensures h))

pub returns-in-Some-clause-fault : goal.returns-in-Some-clause-fault
returns-in-Some-clause-fault c = λ f.
    let reported = reports_one (script_of c.args.script.now) c.in-Some.fault c.in-Some.ensures f in
    (λ e. reported.0 (cc), λ h. ap Err (reported.1 h))

pub returns-in-None-clause-runnable : goal.returns-in-None-clause-runnable
returns-in-None-clause-runnable c = (λ e. runnable (script_of c.args.script.now) (sym c.in-None.ensures), λ h. refl)

pub returns-in-None-clause-fault : goal.returns-in-None-clause-fault
returns-in-None-clause-fault c = λ f. (λ e. absurd cc, λ h. absurd (reports_none (script_of c.args.script.now) c.in-None.ensures f h))
