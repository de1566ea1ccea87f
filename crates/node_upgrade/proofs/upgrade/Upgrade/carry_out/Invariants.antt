use Rattle.node_upgrade.proofs.upgrade.Upgrade.carry_out.Given as goal

abbrev pub ghost-run_after : goal.ghost-run_after
ghost-run_after g a = g.start
