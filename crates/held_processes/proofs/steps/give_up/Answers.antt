use Rattle.std.proofs.Common.{Some, ap, sym, ◌∙◌}
use Rattle.held_processes.proofs.SlotLemmas.{may_give_up}
use Rattle.held_processes.proofs.steps.give_up.Goals as goal

pub let_go-requires : goal.let_go-requires
let_go-requires g c κs within = (
  within,
  may_give_up g.past c.args.slot c.args.access.now c.args.place.now _ c.give_up.new.self c.requires.1
      (sym c.take.ensures.value ∙ (c.in-Some.is ∙ ap Some (sym c.process.view_is))) c.give_up.ensures,
)
