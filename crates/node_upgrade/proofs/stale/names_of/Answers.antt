use Rattle.std.proofs.Common.{◌++◌, map, ap, sym, ◌∙◌, append-nil}
use Rattle.node_upgrade.proofs.StaleLemmas.{names_listed}
use Rattle.node_upgrade.proofs.stale.names_of.Goals as goal

pub returns : goal.returns
returns c =
    let names = c.loop-name.names.items in
    let all = sym (append-nil names) ∙ (ap (λ ks. names ++ map (λ k. k.now) ks) (sym c.in-None.ensures.steps.0) ∙ c.loop-name.invariant) in
    names_listed c.args.noted.now names c.keys-name-items.ensures.ordered all
