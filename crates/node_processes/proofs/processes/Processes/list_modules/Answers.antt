use Rattle.std.proofs.Common.{ap, sym, ◌∙◌, map}
use Rattle.std.specs.Map.Iter.{deref_pair}
use Rattle.node_processes.proofs.ModuleLemmas.{all_lines}
use Rattle.node_processes.proofs.processes.Processes.list_modules.Goals as goal

pub returns : goal.returns
returns c =
    all_lines c.as_slice-module-items.result.now c.loop-module.module-index c.len.result _ _ _ c.loop-module-test.false
    (ap (map deref_pair) c.as_slice-module-items.ensures.value ∙ c.in_ok-versions.ensures) c.loop-module.invariant (c.len.ensures ∙ sym c.as_slice-module-items.ensures.len) c.in_ok-push_count.ensures
