-- Clients in several threads share a table, and a pass may go to another thread: what stands in a slot may.
use denote.Builtin.{unit}
use denote.Param.Send.{IsSend, IsSync, view_send, view_sync, array_send, sendable}
use denote.Param.SendFields.{declared_send, declared_sync}
use Rattle.std.proofs.Crossing as crossing
use Rattle.std.specs.contracts.alloc.Global.{the_row as heap}
use Rattle.std.specs.contracts.impls.GlobalAllocator.TheImpl.{ghosts}
use Rattle.std.proofs.option.Option.TheSendSync as option
use Rattle.atomic_table.proofs.shared.Seat.TheSendSync as seat
use Rattle.atomic_table.proofs.owned.Table.TheSendSync as table
use Rattle.proc_history.specs.contracts.value.Value as Value
use Rattle.proc_history.proofs.ThreadLemmas.{value_send}
use Rattle.proc_table.specs.contracts.handler.HandlerSeat as HandlerSeat
use Rattle.proc_table.specs.contracts.handler.HandlerSeat.TheInside as TheSeat
use Rattle.proc_table.specs.contracts.pass.Pass as Pass
use Rattle.proc_table.specs.contracts.pass.Pass.TheInside as ThePass
use Rattle.proc_table.specs.contracts.rule.Agreement as Agreement
use Rattle.proc_table.specs.contracts.rule.AgreementTableRuleValueViewUnit.TheImpl.{ghosts as rule}
use Rattle.proc_table.specs.contracts.table.ProcTable as ProcTable
use Rattle.proc_table.specs.contracts.table.ProcTable.TheInside as TheTable
use Rattle.proc_table.specs.contracts.view.View as View

number_send : IsSend denote.Builtin.u32
number_send = search sendable

pub table_sync : IsSync ProcTable.the_row
table_sync =
    let shared = table.the_sync Value.the_row View.the_row unit Agreement.the_row heap rule ghosts value_send in
    view_sync TheTable.the_row _ _ _ _ (declared_sync TheTable.the_type (shared crossing.send crossing.sync crossing.frees, tt))

pub pass_send : IsSend Pass.the_row
pass_send = view_send ThePass.the_row _ _ _ _ (declared_send ThePass.the_type (seat.the_send Value.the_row View.the_row value_send, tt))

pub handler_send : IsSend HandlerSeat.the_row
handler_send = view_send TheSeat.the_row _ _ _ _ (declared_send TheSeat.the_type (seat.the_send Value.the_row View.the_row value_send, (array_send _ _ (option.the_send denote.Builtin.u32 number_send), tt)))
