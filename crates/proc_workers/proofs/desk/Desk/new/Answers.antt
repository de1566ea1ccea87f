use Rattle.std.proofs.Common.{refl, false}
use Rattle.proc_workers.proofs.DeskLemmas.{starts}
use Rattle.proc_workers.proofs.desk.Desk.new.Goals as goal

pub returns : goal.returns
returns c = (refl, λ pid. starts pid (record { pass = c.args.pass; answers = c.new.result; kept = c.new-2.result; suspended = false }) c.new.ensures.items c.new-2.ensures.items refl)
