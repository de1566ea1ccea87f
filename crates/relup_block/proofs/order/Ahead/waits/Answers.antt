use Rattle.std.proofs.Common.{◌≡◌, false, rules}
use Rattle.relup_block.specs.Order.{block_item_of}
use Rattle.relup_block.specs.Counts.{has_deps}
use Rattle.relup_block.proofs.CountLemmas.{few_count, naming_count, none_count}
use Rattle.relup_block.proofs.order.Ahead.waits.Goals as goal

pub returns-in-DependentsFirst-clause-few : goal.returns-in-DependentsFirst-clause-few
returns-in-DependentsFirst-clause-few c =
    few_count c.args.rule (block_item_of c.args.item) c.args.self.items.now c.waits_among.result
    (naming_count c.args.rule (block_item_of c.args.item) c.args.self.items.now c.args.self.naming.now c.waits_among.result c.in-DependentsFirst.is c.requires c.waits_among.ensures.count)

pub returns-in-DependentsFirst-clause-count : goal.returns-in-DependentsFirst-clause-count
returns-in-DependentsFirst-clause-count c =
    naming_count c.args.rule (block_item_of c.args.item) c.args.self.items.now c.args.self.naming.now c.waits_among.result c.in-DependentsFirst.is c.requires c.waits_among.ensures.count

pub returns-in-DependenciesFirst-clause-few : goal.returns-in-DependenciesFirst-clause-few
returns-in-DependenciesFirst-clause-few c = c.waits_among-in-DependenciesFirst.ensures.few

pub returns-in-DependenciesFirst-clause-count : goal.returns-in-DependenciesFirst-clause-count
returns-in-DependenciesFirst-clause-count c = c.waits_among-in-DependenciesFirst.ensures.count

pub returns-in-DependenciesFirst-2-clause-count : goal.returns-in-DependenciesFirst-2-clause-count
returns-in-DependenciesFirst-2-clause-count c =
    let none : has_deps (block_item_of c.args.item) ≡ false = (search rules) in
    none_count c.args.rule (block_item_of c.args.item) c.args.self.items.now c.in-DependenciesFirst-2.is none
