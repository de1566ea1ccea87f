use Rattle.std.proofs.Common.{ℕ, ◌∙◌, sym, arith}
use Rattle.held_processes.specs.Course.{runs}
use Rattle.held_processes.specs.Operations.{modules_by_slot}
use Rattle.held_processes.proofs.AnyLemmas.{any_found, any_none}
use Rattle.proc_table.specs.Agrees.{slots}
use Rattle.relup_exec.proofs.load.is_used.Goals as goal

pub returns-then-include : goal.returns-then-include
returns-then-include c =
    sym (any_found (λ (p : ℕ). runs c.args.users.now.module.now (modules_by_slot c.args.users.now.tree.now p)) slots c.loop-slot.slot
    (omega (arith, c.loop-slot-test.true, c.count-slot-end.ensures)) (sym c.include.ensures ∙ c.if-include.true))

pub returns : goal.returns
returns c =
    sym (any_none (λ (p : ℕ). runs c.args.users.now.module.now (modules_by_slot c.args.users.now.tree.now p)) slots
    (λ p inside. c.loop-slot.invariant p (omega (arith, inside, c.loop-slot-test.false, c.count-slot-end.ensures))))
