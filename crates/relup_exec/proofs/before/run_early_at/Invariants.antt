use Rattle.relup_exec.specs.Stepwise.{start_at}
use Rattle.relup_exec.proofs.before.run_early_at.Given as goal

abbrev pub ghost-run_early : goal.ghost-run_early
ghost-run_early g a = start_at a.access.now a.run.now.progress.tree
