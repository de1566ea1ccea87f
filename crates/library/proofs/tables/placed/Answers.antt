use Rattle.std.proofs.Common.{arith, ◌≡◌, ◌+◌, [], ◌∷◌, Option, map, drop, string_bytes, sym, ap, ◌∙◌}
use Rattle.std.specs.Option.{option_map}
use Rattle.std.proofs.lemmas.Grind.{common_steps}
use Rattle.std.proofs.lemmas.List.{drop_more, drop_all}
use Rattle.rel_files.proofs.Rows.{viewed}
use Rattle.mod_table.specs.declared.reader.ModFile.{ModFile}
use Rattle.library.specs.InMemory.{table_term_of}
use Rattle.library.specs.Library.{TableTerm}
use Rattle.library.specs.Reading.{placed}
use Rattle.library.proofs.PlaceLemmas.{placed_on, placed_first, placed_all}
use Rattle.library.proofs.tables.placed.Goals as goal

pub loop-module-preserved : goal.loop-module-preserved
loop-module-preserved c =
    let view : Option ModFile → Option TableTerm = λ t. option_map table_term_of t in
    let later = drop (c.loop-module.module-index + 1) c.args.modules.now in
    let split : drop c.loop-module.module-index c.args.modules.now ≡ c.module-item.result ∷ later =
    drop_more c.args.modules.now c.loop-module.module-index c.module-item.result c.loop-module-test.true ∙ ap (λ m. m ∷ later) (sym c.module-item.is) in
    placed_on (map string_bytes (drop c.loop-module.module-index c.args.modules.now)) (string_bytes c.module-item.result) (map string_bytes later)
    (map view c.loop-module.tables.items) (map view c.push.new.self.items) (view c.take.result) (map table_term_of c.loop-module.rest.items) (map table_term_of c.take.new.files.items)
    (placed (map string_bytes c.args.modules.now) (map table_term_of c.args.files.items))
    (ap (map string_bytes) split) (rw c.as_str.ensures.value at c.take.ensures) (viewed view _ _ c.take.result c.in_ok-push.ensures.items) c.loop-module.invariant

pub loop-module-init : goal.loop-module-init
loop-module-init c =
    let view : Option ModFile → Option TableTerm = λ t. option_map table_term_of t in
    placed_first (map string_bytes c.args.modules.now) (map view c.in_ok-tables.tables.items) (map table_term_of c.args.files.items)
    (ap (map view) c.in_ok-tables.ensures.items)

pub returns-then-is_empty : goal.returns-then-is_empty
returns-then-is_empty c =
    let modules = c.args.modules.now in
    let view : Option ModFile → Option TableTerm = λ t. option_map table_term_of t in
    let none : c.loop-module.rest.items ≡ [] = grind (arith, common_steps) in
    placed_all (map string_bytes (drop c.loop-module.module-index modules)) (map view c.loop-module.tables.items) (map table_term_of c.loop-module.rest.items) _
    (ap (map string_bytes) (drop_all c.loop-module.module-index modules c.loop-module-test.false)) (ap (map table_term_of) none) c.loop-module.invariant
