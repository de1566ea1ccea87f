use Rattle.std.proofs.Common.{Option, subst}
use Rattle.proc_workers.specs.declared.floods.FloodCounts.{FloodCounts}
use Rattle.proc_workers.specs.Counted.{HasCalled}
use Rattle.proc_workers.proofs.FloodLemmas.{is_broken_off, is_flooded}
use Rattle.proc_workers.proofs.floods.flood.Goals as goal

pub returns-in-Some-clause-flooded : goal.returns-in-Some-clause-flooded
returns-in-Some-clause-flooded g c =
    let counted = subst (λ (o : Option FloodCounts). HasCalled c.args.pid c.args.input c.args.times c.new_pass-pass.result.view o c.scoped-pass.result.0.view) c.in-Some.is c.scoped-pass.ensures.1.1 in
    is_flooded c.args.pid c.args.input c.args.times _ _ _ _ _ c.in-Some.counts c.requires.alone c.new_pass-pass.ensures.made counted c.take_back.ensures.joined

pub returns-in-None-clause-refused : goal.returns-in-None-clause-refused
returns-in-None-clause-refused g c =
    is_broken_off c.args.pid c.args.input c.args.times _ _ _ _ _ c.scoped-pass.result.1 c.requires.alone c.new_pass-pass.ensures.made c.scoped-pass.ensures.1.1 c.take_back.ensures.joined
