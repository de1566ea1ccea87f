use Rattle.std.proofs.Common.{List, Some, sym, subst}
use Rattle.mod_table.specs.declared.table.Table.{Table}
use Rattle.mod_table.specs.Table.{ChildSpec}
use Rattle.app_members.specs.InMemory.{Counts}
use Rattle.loaded_modules.specs.Loaded.{modules_in, tables_of}
use Rattle.app_members.specs.Walk.{child_fault, children_fault, children_members, members_below}
use Rattle.app_members.proofs.walk.count_below.Goals as goal

pub returns-in-Super : goal.returns-in-Super
returns-in-Super c child =
    let left = c.args.left in
    let tables = tables_of (modules_in c.args.loaded.now) in
    subst (λ (t : Table). Counts (child_fault (children_fault left tables) child (Some t)) (λ depth. members_below (children_members left tables depth) t) c.count_children.result) (sym c.in-Super.is)
    (subst (λ (cs : List ChildSpec). Counts (children_fault left tables cs) (λ depth. children_members left tables depth cs) c.count_children.result) c.children.ensures c.count_children.ensures.counts)
