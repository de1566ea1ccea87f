-- What a history leaves of a process may go to another thread.
use denote.Param.Send.{IsSend, sendable}
use denote.Param.SendFields.{declared_send}
use Rattle.std.proofs.option.Option.TheSendSync as option
use Rattle.mod_table.proofs.child.Restart.TheSendSync as restart
use Rattle.mod_table.proofs.ThreadLemmas.{worker_send}
use Rattle.proc_history.specs.contracts.value.Now as Now
use Rattle.proc_history.specs.contracts.value.Value as Value
use Rattle.proc_history.proofs.name.Name.TheSendSync as name
use Rattle.proc_history.proofs.value.Standing.TheSendSync as standing

number_send : IsSend denote.Builtin.u32
number_send = search sendable

now_send : IsSend Now.the_row
now_send = declared_send Now.the_type (name.the_send, (name.the_send, (restart.the_send, (worker_send, (number_send, (standing.the_send, tt))))))

pub value_send : IsSend Value.the_row
value_send = declared_send Value.the_type (number_send, (option.the_send Now.the_row now_send, tt))
