use denote.Param.Send.{sendable}
use Rattle.std.proofs.sync.Barrier.TheSendSync as barrier
use Rattle.proc_table.proofs.ThreadLemmas.{table_sync, pass_send}
use Rattle.proc_table.proofs.pid.Pid.TheSendSync as pid
use Rattle.process_cases.proofs.threads.both_heard.Goals as goal

pub join-requires-send-F : goal.join-requires-send-F
join-requires-send-F g c κs within = search (sendable, table_sync, pass_send, pid.the_sync, barrier.the_sync) depth 14
