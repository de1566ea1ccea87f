use denote.Param.Send.{sendable}
use Rattle.benchmarks.proofs.ThreadLemmas.{calls_send}
use Rattle.benchmarks.proofs.calls.calls_by_four.Goals as goal

pub by_four-requires-send-A : goal.by_four-requires-send-A
by_four-requires-send-A g c κs = search (sendable, calls_send)
