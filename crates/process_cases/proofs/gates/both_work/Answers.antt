use denote.Param.Send.{sendable}
use Rattle.proc_table.proofs.ThreadLemmas.{table_sync}
use Rattle.proc_workers.proofs.ThreadLemmas.{ended_send}
use Rattle.process_cases.proofs.ThreadLemmas.{new_worker_send}
use Rattle.process_cases.proofs.gates.both_work.Goals as goal

pub join-requires-send-F : goal.join-requires-send-F
join-requires-send-F g c κs within = search (sendable, table_sync, new_worker_send) depth 14

pub join-requires-send-A : goal.join-requires-send-A
join-requires-send-A g c = search (sendable, ended_send)
