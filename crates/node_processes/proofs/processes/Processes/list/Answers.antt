use Rattle.std.proofs.Common.{◌++◌, ◌+◌, ◌<◌, if◌then◌else◌, ◌∙◌, ap, arith, string_bytes}
use Rattle.node_listing.specs.Listing.{process_line}
use Rattle.proc_table.specs.Agrees.{slots}
use Rattle.node_processes.specs.Processes.{Processes}
use Rattle.node_processes.proofs.SlotLemmas.{value_of, stands, line_more, count_more, count_within, all_slots}
use Rattle.node_processes.proofs.processes.Processes.list.Goals as goal

pub push_slot-requires-clause-few : goal.push_slot-requires-clause-few
push_slot-requires-clause-few g c =
    let within = count_within c.args.self.now.seat.view c.loop-slot.slot c.loop-slot.count c.loop-slot.invariant.3 in
    omega (arith, within, c.loop-slot-test.true, c.count-slot-end.ensures)

pub loop-slot-preserved : goal.loop-slot-preserved
loop-slot-preserved g c =
    let i = c.loop-slot.invariant in
    let pushed = c.in_ok-push_slot.ensures in
    let w = c.loop-slot.self.seat.view in
    let at = c.in-Some.ensures.0 in
    let inside : c.loop-slot.slot < slots = omega (arith, c.loop-slot-test.true, c.count-slot-end.ensures) in
    let same = ap (λ (p : Processes). p.values) i.1 in (
      pushed.sound,
      pushed.same ∙ i.1,
      line_more c.args.self.now.seat.view w c.loop-slot.slot _ _ inside same (pushed.pushed ∙ ap (λ k. string_bytes c.loop-slot.text ++ process_line (value_of w k)) at) i.2,
      count_more c.args.self.now.seat.view w c.loop-slot.slot _ _ inside same (pushed.counted ∙ ap (λ k. c.loop-slot.count + (if stands (value_of w k) then 1 else 0)) at) i.3,
    )

pub returns-clause-reported : goal.returns-clause-reported
returns-clause-reported g c =
    all_slots c.args.self.now.seat.view c.loop-slot.slot c.loop-slot.count _ _ (omega (arith, c.loop-slot-test.false, c.count-slot-end.ensures, c.loop-slot.auto.slot-end))
    c.loop-slot.invariant.2 c.loop-slot.invariant.3 c.in_ok-push_count.ensures
