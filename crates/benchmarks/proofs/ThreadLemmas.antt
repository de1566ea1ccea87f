-- What a thread does may go there: the table or the lock is shared, and the pass or the worker's table goes along.
use denote.Ref.{NamedLft}
use denote.Param.Send.{IsSend, sendable}
use denote.Param.SendFields.{declared_send}
use Rattle.std.proofs.Crossing.{crosses}
use Rattle.worker_table.proofs.ThreadLemmas.{worker_send}
use Rattle.proc_table.proofs.ThreadLemmas.{table_sync, pass_send}
use Rattle.proc_table.proofs.pid.Pid.TheSendSync as pid
use Rattle.benchmarks.specs.contracts.works.Calls as Calls
use Rattle.benchmarks.specs.contracts.works.Steps as Steps

pub calls_send : (ℓ : NamedLft) → IsSend (Calls.the_row ℓ)
calls_send ℓ = declared_send (Calls.the_type ℓ) (search (sendable, table_sync), (pass_send, (pid.the_send, tt)))

pub steps_send : (ℓ : NamedLft) → IsSend (Steps.the_row ℓ)
steps_send ℓ = declared_send (Steps.the_type ℓ) (worker_send, (search (sendable, crosses) depth 8, tt))
