use Rattle.proc_table.proofs.Runs.{runs_agree}
use Rattle.proc_table.proofs.laws.every_run_keeps_agreement.Goals as goal

pub returns : goal.returns
returns c = runs_agree
