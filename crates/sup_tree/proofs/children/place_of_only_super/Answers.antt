use Rattle.std.proofs.Common.{◌∙◌, sym}
use Rattle.sup_tree.proofs.ChildLemmas.{only_super}
use Rattle.sup_tree.proofs.children.place_of_only_super.Goals as goal

pub returns-then-has_one_super : goal.returns-then-has_one_super
returns-then-has_one_super c =
    only_super c.args.«module».now c.args.apps.now c.place_of_super.result (sym c.has_one_super.ensures ∙ c.if-has_one_super.true) c.place_of_super.ensures
