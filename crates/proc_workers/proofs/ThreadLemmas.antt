-- What a worker hands back may go to another thread: its pass, its inbox, and what it has done.
use denote.Param.Send.{IsSend}
use denote.Param.SendFields.{declared_send}
use Rattle.std.proofs.Crossing.{Vec-send}
use Rattle.proc_table.proofs.ThreadLemmas.{pass_send}
use Rattle.proc_workers.specs.contracts.note.Answer as Answer
use Rattle.proc_workers.specs.contracts.note.Job as Job
use Rattle.proc_workers.specs.contracts.worker.Ended as Ended
use Rattle.proc_workers.proofs.ends.Inbox.TheSendSync as inbox
use Rattle.proc_workers.proofs.note.Answer.TheSendSync as answer
use Rattle.proc_workers.proofs.note.Job.TheSendSync as job
use Rattle.proc_workers.proofs.worker.EndCause.TheSendSync as cause

pub ended_send : IsSend Ended.the_row
ended_send =
    let answers = Vec-send Answer.the_row answer.the_send in
    let jobs = Vec-send Job.the_row job.the_send in
    declared_send Ended.the_type (pass_send, (inbox.the_send, (answers, (jobs, (cause.the_send, tt)))))
