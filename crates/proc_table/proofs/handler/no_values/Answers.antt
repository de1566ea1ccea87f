use Rattle.std.proofs.Common.{◌≡◌, ◌+◌, ◌++◌, ◌∷◌, [], replicate, ap, sym, ◌∙◌, arith}
use Rattle.std.proofs.lemmas.List.{replicate-append-replicate}
use Rattle.proc_table.specs.declared.TheConstants.{SLOTS}
use Rattle.proc_history.specs.Values.{nothing}
use Rattle.proc_table.proofs.Slots.{slots_is}
use Rattle.proc_table.proofs.handler.no_values.Goals as goal

pub push_reserved-requires : goal.push_reserved-requires
push_reserved-requires c = omega (arith, c.loop.invariant.1, c.loop.invariant.2, c.loop-test.true)

pub loop-preserved : goal.loop-preserved
loop-preserved c = (
  c.push_reserved.ensures.items ∙ (λ i. c.loop.invariant.0 i ++ c.nothing.ensures i ∷ []) ∙ replicate-append-replicate c.loop.counter 1 nothing,
  c.push_reserved.ensures.len ∙ ap (λ n. n + 1) c.loop.invariant.1,
  omega (arith, c.push_reserved.ensures.capacity, c.loop.invariant.2),
)

pub returns : goal.returns
returns c =
    let all : c.loop.counter ≡ SLOTS = omega (arith, c.loop-test.false, c.loop.auto.counter-end) in
    c.loop.invariant.0 ∙ ap (λ n. replicate n nothing) (all ∙ sym slots_is)
