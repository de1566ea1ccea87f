-- What a worker begins with may go to another thread.
use denote.Param.Send.{IsSend}
use denote.Param.SendFields.{declared_send}
use Rattle.std.proofs.Crossing.{send}
use Rattle.proc_table.proofs.ThreadLemmas.{pass_send}
use Rattle.proc_table.proofs.pid.Pid.TheSendSync as pid
use Rattle.proc_workers.proofs.ends.Inbox.TheSendSync as inbox
use Rattle.process_cases.specs.contracts.gates.NewWorker as NewWorker

pub new_worker_send : IsSend NewWorker.the_row
new_worker_send = declared_send NewWorker.the_type (send, (pass_send, (pid.the_send, (inbox.the_send, tt))))
