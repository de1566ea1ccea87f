use denote.Param.Send.{sendable}
use Rattle.std.proofs.sync.Barrier.TheSendSync as barrier
use Rattle.proc_table.proofs.ThreadLemmas.{table_sync, pass_send}
use Rattle.proc_table.proofs.pid.Pid.TheSendSync as pid
use Rattle.script_cases.proofs.beside.push_both.Goals as goal

pub join-done-requires-send-F : goal.join-done-requires-send-F
join-done-requires-send-F g c κs within = search (sendable, table_sync, pass_send, pid.the_sync, barrier.the_sync) depth 14
