use Rattle.std.proofs.Common.{◌≤◌, ◌<◌, subst, sym}
use Rattle.proc_table.proofs.Slots.{slots_is}
use Rattle.proc_table.proofs.pid.Pid.new.Goals as goal

pub invariant_of-result : goal.invariant_of-result
invariant_of-result c = record { inside = subst (λ n. c.args.slot < n) (sym slots_is) c.if-slot-lt-SLOTS.true }

pub returns-else-slot-lt-SLOTS : goal.returns-else-slot-lt-SLOTS
returns-else-slot-lt-SLOTS c = subst (λ n. n ≤ c.args.slot) (sym slots_is) c.if-slot-lt-SLOTS.false
