use Rattle.std.proofs.Common.{◌∙◌, map, sym, ap, add-one}
use Rattle.rel_check.specs.InMemory.{module_of}
use Rattle.rel_check.specs.Modules.{table_of}
use Rattle.rel_check.specs.Summary.{known_in, known_at}
use Rattle.rel_check.proofs.Levels.{lowest_level, level_above}
use Rattle.rel_check.proofs.walk.top_level.Goals as goal

pub loop-depth-init : goal.loop-depth-init
loop-depth-init c = λ q. c.in_ok-level.ensures q ∙ lowest_level (table_of (map module_of c.args.modules.now)) q

pub loop-depth-preserved : goal.loop-depth-preserved
loop-depth-preserved c = λ q.
    let tables = table_of (map module_of c.args.modules.now) in
    c.in_ok-level-2.ensures q
    ∙ (level_above c.loop-depth._depth tables (known_in c.loop-depth.level) c.loop-depth.invariant q
    ∙ ap (λ n. known_at n tables q) (sym (add-one c.loop-depth._depth)))
