use Rattle.std.proofs.Common.{◌∙◌, codes}
use Rattle.rel_host.specs.Options.{relnode}
use Rattle.rel_host.proofs.OptionLemmas.{relnode_is_simple, value_is}
use Rattle.rel_host.proofs.options.options_of.Goals as goal

pub returns : goal.returns
returns c = λ words has. record {
  store = c.in_ok-store.ensures ∙ c.get_str.ensures ∙ value_is relnode words c.args.matches.now (codes "store") relnode_is_simple has;
  root = c.in_ok-root.ensures ∙ c.get_str-2.ensures ∙ value_is relnode words c.args.matches.now (codes "root") relnode_is_simple has;
}
