use Rattle.proc_workers.proofs.HandLemmas.{takes}
use Rattle.proc_workers.proofs.ends.Inbox.take.Goals as goal

pub recv_as-requires-clause-rule : goal.recv_as-requires-clause-rule
recv_as-requires-clause-rule g c = (takes _ _ c.args.self.now.reads, λ waiting hands d at. tt)
