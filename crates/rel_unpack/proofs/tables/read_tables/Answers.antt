use Rattle.std.proofs.Common.{◌≡◌, ◌∷◌, ◌+◌, map, drop, string_bytes, sym, ap, ◌∙◌}
use Rattle.std.specs.Option.{option_map}
use Rattle.std.proofs.lemmas.List.{drop_more, drop_all}
use Rattle.rel_files.proofs.Rows.{viewed}
use Rattle.rel_files.specs.Release.{application_of}
use Rattle.library.specs.InMemory.{table_term_of}
use Rattle.rel_unpack.specs.Order.{Each}
use Rattle.rel_unpack.specs.Applications.{ModuleAt}
use Rattle.rel_unpack.proofs.Steps.{passed_on}
use Rattle.rel_unpack.proofs.Turns.{at_first, one_more, refused, at_last}
use Rattle.rel_unpack.proofs.tables.read_tables.Goals as goal

pub loop-name-init : goal.loop-name-init
loop-name-init g c = at_first _ _ (map (λ t. option_map table_term_of t) c.in_ok-tables.tables.items) (ap (map (λ t. option_map table_term_of t)) c.in_ok-tables.ensures.items)

pub returns-in_err-read_module : goal.returns-in_err-read_module
returns-in_err-read_module g c =
    let P = ModuleAt (g.F.Files.gives c.args.files.now) (application_of c.args.app.now) in
    let later = drop (c.loop-name.name-index + 1) c.args.names.now in
    let split : drop c.loop-name.name-index c.args.names.now ≡ c.name-item.result ∷ later =
    drop_more c.args.names.now c.loop-name.name-index c.name-item.result c.loop-name-test.true ∙ ap (λ m. m ∷ later) (sym c.name-item.is) in
    passed_on (λ v. map (λ t. option_map table_term_of t) v.items) (Each P (map string_bytes c.args.names.now)) c.in_err-read_module.field-0.0 c.from_residual-in_err-read_module.result
    c.from_residual-in_err-read_module.ensures.0 c.from_residual-in_err-read_module.ensures.1
    (λ ne. refused P (map string_bytes c.args.names.now) (map string_bytes (drop c.loop-name.name-index c.args.names.now)) (map string_bytes later) (string_bytes c.name-item.result) _ _ (ap (map string_bytes) split)
    (rw c.as_str.ensures.value at (c.in_err-read_module.ensures ne)) c.loop-name.invariant)

pub loop-name-preserved : goal.loop-name-preserved
loop-name-preserved g c =
    let P = ModuleAt (g.F.Files.gives c.args.files.now) (application_of c.args.app.now) in
    let later = drop (c.loop-name.name-index + 1) c.args.names.now in
    let split : drop c.loop-name.name-index c.args.names.now ≡ c.name-item.result ∷ later =
    drop_more c.args.names.now c.loop-name.name-index c.name-item.result c.loop-name-test.true ∙ ap (λ m. m ∷ later) (sym c.name-item.is) in
    one_more P (map string_bytes c.args.names.now) (map string_bytes (drop c.loop-name.name-index c.args.names.now)) (map string_bytes later) (string_bytes c.name-item.result)
    (map (λ t. option_map table_term_of t) c.loop-name.tables.items) (map (λ t. option_map table_term_of t) c.push.new.self.items) (option_map table_term_of c.in_ok-read_module.field-0)
    (ap (map string_bytes) split) (rw c.as_str.ensures.value at c.in_ok-read_module.ensures) (viewed (λ t. option_map table_term_of t) _ _ _ c.in_ok-push.ensures.items) c.loop-name.invariant

pub returns : goal.returns
returns g c =
    let P = ModuleAt (g.F.Files.gives c.args.files.now) (application_of c.args.app.now) in
    at_last P (map string_bytes c.args.names.now) (map string_bytes (drop c.loop-name.name-index c.args.names.now)) (map (λ t. option_map table_term_of t) c.loop-name.tables.items)
    (ap (map string_bytes) (drop_all c.loop-name.name-index c.args.names.now c.loop-name-test.false)) c.loop-name.invariant
