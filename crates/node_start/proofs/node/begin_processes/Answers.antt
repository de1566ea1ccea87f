use Rattle.node_start.proofs.OneShotLemmas.{runs_once}
use Rattle.node_start.proofs.node.begin_processes.Goals as goal

-- what a crash leaves from now on starts no one-shot
pub start_running-requires-clause-once : goal.start_running-requires-clause-once
start_running-requires-clause-once g c = runs_once g.D.Disk c.args.handler.now c.requires.sound c.requires.works
