use denote.Param.Send.{sendable}
use Rattle.benchmarks.proofs.ThreadLemmas.{steps_send}
use Rattle.benchmarks.proofs.calls.steps_by.Goals as goal

pub by_four-requires-send-A : goal.by_four-requires-send-A
by_four-requires-send-A g c κs = search (sendable, steps_send)
