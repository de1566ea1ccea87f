use Rattle.std.proofs.Common.{refl, ◌∙◌}
use Rattle.held_processes.proofs.ApplicationLemmas.{one_more_given_up}
use Rattle.held_processes.proofs.SlotLemmas.{longer_both}
use Rattle.held_processes.proofs.processes.HeldProcesses.give_up_all.Goals as goal

pub loop-place-preserved : goal.loop-place-preserved
loop-place-preserved g c = (
  refl,
  one_more_given_up g.followed.first c.give_up_one.new.self c.give_up_one.new.access c.args.members.now c.loop-place.place g.followed.courses c.loop-place-test.true c.give_up_one.ensures.done,
  longer_both c.args.access.now c.loop-place.access c.give_up_one.new.access c.loop-place.invariant.2 c.give_up_one.ensures.longer,
)
