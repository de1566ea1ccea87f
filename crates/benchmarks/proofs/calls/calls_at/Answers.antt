use denote.Param.Send.{sendable}
use Rattle.benchmarks.proofs.ThreadLemmas.{calls_send}
use Rattle.benchmarks.proofs.calls.calls_at.Goals as goal

pub by_two-requires-send-A : goal.by_two-requires-send-A
by_two-requires-send-A g c κs = search (sendable, calls_send)
