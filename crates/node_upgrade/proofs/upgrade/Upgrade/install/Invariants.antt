use Rattle.node_upgrade.specs.Running.{start_in, state_in}
use Rattle.node_upgrade.proofs.upgrade.Upgrade.install.Given as goal

abbrev pub ghost-carry_out : goal.ghost-carry_out
ghost-carry_out g a = start_in (state_in a.site.now)
