use Rattle.proc_workers.proofs.HandLemmas.{adds}
use Rattle.proc_workers.proofs.ends.Sender.send.Goals as goal

pub send_as-requires-clause-rule : goal.send_as-requires-clause-rule
send_as-requires-clause-rule g c = (adds _ _ _ _, λ waiting hands d at. tt)
