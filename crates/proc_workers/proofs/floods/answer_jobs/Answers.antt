use Rattle.std.proofs.Common.{◌≡◌, ◌+◌, sym, subst, ◌∙◌, arith}
use Rattle.proc_workers.specs.declared.floods.FloodCounts.{FloodCounts}
use Rattle.proc_workers.specs.Counted.{HasCounted}
use Rattle.proc_workers.proofs.CountLemmas.{all_called, call_counted, none_counted, room_for_one, stops_early}
use Rattle.proc_workers.proofs.floods.answer_jobs.Goals as goal

pub loop-init : goal.loop-init
loop-init g c = (c.requires, none_counted c.args.pid c.args.input c.args.pass.view)

pub returns-in_default-clause-calls : goal.returns-in_default-clause-calls
returns-in_default-clause-calls g c =
    stops_early c.args.pid c.args.input c.loop.counter c.args.times c.args.pass.view c.loop.counts c.loop.pass.view c.loop.invariant.1 (omega (arith, c.loop-test.true))

pub note-requires-clause-room : goal.note-requires-clause-room
note-requires-clause-room g c =
    room_for_one c.args.pid c.args.input c.loop.counter _ _ c.loop.invariant.1.counted (omega (arith, c.loop-test.true, c.ranges.times.fits))

pub loop-preserved : goal.loop-preserved
loop-preserved g c =
    let v = c.args.pass.view in
    let w = c.call-tried.new.pass.view in
    let counted = call_counted c.args.pid c.args.input c.loop.counter v c.loop.pass.view w c.loop.counts c.in-Some.job c.call-tried.result c.loop.invariant.1 c.in-Some.ensures.0 c.in-Some.ensures.1
    c.call-tried.ensures.answer in
    (c.call-tried.ensures.table ∙ c.loop.invariant.0, subst (λ (f : FloodCounts). HasCounted c.args.pid c.args.input (c.loop.counter + 1) v f w) (sym c.note.ensures) counted)

pub returns-clause-calls : goal.returns-clause-calls
returns-clause-calls g c =
    let all : c.loop.counter ≡ c.args.times = omega (arith, c.loop-test.false, c.loop.auto.counter-end) in
    all_called c.args.pid c.args.input c.args.times c.args.pass.view c.loop.counts c.loop.pass.view
    (subst (λ n. HasCounted c.args.pid c.args.input n c.args.pass.view c.loop.counts c.loop.pass.view) all c.loop.invariant.1)
