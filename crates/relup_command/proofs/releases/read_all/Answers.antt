use Rattle.std.proofs.Common.{◌≡◌, ◌∷◌, ◌+◌, map, drop, string_bytes, sym, ap, ◌∙◌}
use Rattle.std.proofs.lemmas.List.{drop_more, drop_all}
use Rattle.rel_files.proofs.Rows.{viewed}
use Rattle.rel_unpack.specs.Order.{Each}
use Rattle.rel_unpack.proofs.Steps.{passed_on}
use Rattle.rel_unpack.proofs.Turns.{at_first, one_more, refused, at_last}
use Rattle.relup_row.specs.Release.{relup_release_of}
use Rattle.relup_command.specs.Releases.{RelupReleaseAt}
use Rattle.relup_command.proofs.releases.read_all.Goals as goal

pub loop-path-init : goal.loop-path-init
loop-path-init g c = at_first _ _ (map relup_release_of c.in_ok-releases.releases.items) (ap (map relup_release_of) c.in_ok-releases.ensures.items)

pub returns-in_err-read_one : goal.returns-in_err-read_one
returns-in_err-read_one g c =
    let P = RelupReleaseAt (g.F.Files.gives c.args.files.now) in
    let later = drop (c.loop-path.path-index + 1) c.args.paths.now in
    let split : drop c.loop-path.path-index c.args.paths.now ≡ c.path-item.result ∷ later =
    drop_more c.args.paths.now c.loop-path.path-index c.path-item.result c.loop-path-test.true ∙ ap (λ m. m ∷ later) (sym c.path-item.is) in
    passed_on (λ v. map relup_release_of v.items) (Each P (map string_bytes c.args.paths.now)) c.in_err-read_one.field-0.0 c.from_residual-in_err-read_one.result
    c.from_residual-in_err-read_one.ensures.0 c.from_residual-in_err-read_one.ensures.1
    (λ ne. refused P (map string_bytes c.args.paths.now) (map string_bytes (drop c.loop-path.path-index c.args.paths.now)) (map string_bytes later) (string_bytes c.path-item.result) _ _ (ap (map string_bytes) split)
    (rw c.as_str.ensures.value at (c.in_err-read_one.ensures ne)) c.loop-path.invariant)

pub loop-path-preserved : goal.loop-path-preserved
loop-path-preserved g c =
    let P = RelupReleaseAt (g.F.Files.gives c.args.files.now) in
    let later = drop (c.loop-path.path-index + 1) c.args.paths.now in
    let split : drop c.loop-path.path-index c.args.paths.now ≡ c.path-item.result ∷ later =
    drop_more c.args.paths.now c.loop-path.path-index c.path-item.result c.loop-path-test.true ∙ ap (λ m. m ∷ later) (sym c.path-item.is) in
    one_more P (map string_bytes c.args.paths.now) (map string_bytes (drop c.loop-path.path-index c.args.paths.now)) (map string_bytes later) (string_bytes c.path-item.result)
    (map relup_release_of c.loop-path.releases.items) (map relup_release_of c.push.new.self.items) (relup_release_of c.in_ok-read_one.field-0)
    (ap (map string_bytes) split) (rw c.as_str.ensures.value at c.in_ok-read_one.ensures) (viewed relup_release_of _ _ _ c.in_ok-push.ensures.items) c.loop-path.invariant

pub returns : goal.returns
returns g c =
    let P = RelupReleaseAt (g.F.Files.gives c.args.files.now) in
    at_last P (map string_bytes c.args.paths.now) (map string_bytes (drop c.loop-path.path-index c.args.paths.now)) (map relup_release_of c.loop-path.releases.items)
    (ap (map string_bytes) (drop_all c.loop-path.path-index c.args.paths.now c.loop-path-test.false)) c.loop-path.invariant
