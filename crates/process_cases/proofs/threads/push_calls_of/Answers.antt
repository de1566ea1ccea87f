use denote.Param.Send.{sendable}
use Rattle.proc_table.proofs.ThreadLemmas.{table_sync, handler_send}
use Rattle.proc_table.proofs.pid.Pid.TheSendSync as pid
use Rattle.process_cases.proofs.threads.push_calls_of.Goals as goal

pub join-requires-send-F : goal.join-requires-send-F
join-requires-send-F g c κs within = search (sendable, table_sync, handler_send, pid.the_sync) depth 14
