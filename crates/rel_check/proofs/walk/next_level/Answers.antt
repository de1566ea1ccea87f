use Rattle.std.proofs.Common.{◌≡◌, ◌∷◌, ◌+◌, ◌∙◌, map, drop, sym, ap}
use Rattle.std.specs.Option.{option_map}
use Rattle.std.specs.Str.{bytes_eq}
use Rattle.std.proofs.lemmas.List.{drop_more}
use Rattle.std.proofs.lemmas.Map.Text.{btree_map_updates_str}
use Rattle.rel_check.specs.InMemory.{module_of}
use Rattle.rel_check.specs.Summary.{known_in, next_summary}
use Rattle.rel_check.proofs.Levels.{one_more, none_put, some_put}
use Rattle.rel_check.proofs.walk.next_level.Goals as goal
use Rattle.rel_check.proofs.walk.next_level.Goals.{in-Some+in_ok-insert, in_default}

pub loop-module-preserved : goal.loop-module-preserved
loop-module-preserved c = λ q.
    let modules = c.args.modules.now in
    let later = drop (c.loop-module.module-index + 1) modules in
    let split : drop c.loop-module.module-index modules ≡ c.module-item.result ∷ later =
    drop_more modules c.loop-module.module-index c.module-item.result c.loop-module-test.true ∙ ap (λ m. m ∷ later) (sym c.module-item.is) in
    let step = next_summary (option_map (λ b. known_in b.now) c.args.below) in
    let more = one_more step (map module_of (drop c.loop-module.module-index modules)) (map module_of later) (module_of c.module-item.result) q in
    let table = option_map (λ t. t.now) c.module-item.result.table in
    let at_name = bytes_eq c.module-item.result.name.now q in
    elim c.match-module.branch [
      | in-Some+in_ok-insert w ↦
          more (known_in c.loop-module.level q) (known_in c.match-module.level q) _ (ap (map module_of) split)
          (ap (λ l. known_in l q) w.level-is
          ∙ some_put step at_name table w.in-Some.table.now w.table_walk.result _ _ (ap (option_map (λ t. t.now)) w.in-Some.is) w.table_walk.ensures
          (btree_map_updates_str c.module-item.result.name.now c.loop-module.level w.insert.new.self _ w.in_ok-insert.ensures.updates q))
          (c.loop-module.invariant q)
      | in_default w ↦
          more (known_in c.loop-module.level q) (known_in c.match-module.level q) _ (ap (map module_of) split)
          (ap (λ l. known_in l q) w.level-is ∙ none_put step at_name table (known_in c.loop-module.level q) (ap (option_map (λ t. t.now)) w.in_default.is))
          (c.loop-module.invariant q)
    ]
