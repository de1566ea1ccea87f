use Rattle.std.proofs.Common.{◌≡◌, ◌∷◌, ◌+◌, map, drop, sym, ap, ◌∙◌}
use Rattle.std.proofs.lemmas.List.{drop_more, drop_all}
use Rattle.rel_files.proofs.Rows.{viewed}
use Rattle.rel_files.specs.Release.{application_of}
use Rattle.rel_unpack.specs.Order.{Each}
use Rattle.rel_unpack.proofs.Steps.{passed_on}
use Rattle.rel_unpack.proofs.Turns.{at_first, one_more, refused, at_last}
use Rattle.relup_row.specs.Release.{relup_app_of}
use Rattle.relup_command.specs.Releases.{RelupAppAt}
use Rattle.relup_command.proofs.releases.read_apps.Goals as goal

pub loop-app-init : goal.loop-app-init
loop-app-init g c = at_first _ _ (map relup_app_of c.in_ok-read.read.items) (ap (map relup_app_of) c.in_ok-read.ensures.items)

pub returns-in_err-read_app : goal.returns-in_err-read_app
returns-in_err-read_app g c =
    let P = RelupAppAt (g.F.Files.gives c.args.files.now) in
    let later = drop (c.loop-app.app-index + 1) c.args.apps.now in
    let split : drop c.loop-app.app-index c.args.apps.now ≡ c.app-item.result ∷ later =
    drop_more c.args.apps.now c.loop-app.app-index c.app-item.result c.loop-app-test.true ∙ ap (λ m. m ∷ later) (sym c.app-item.is) in
    passed_on (λ v. map relup_app_of v.items) (Each P (map application_of c.args.apps.now)) c.in_err-read_app.field-0.0 c.from_residual-in_err-read_app.result
    c.from_residual-in_err-read_app.ensures.0 c.from_residual-in_err-read_app.ensures.1
    (λ ne. refused P (map application_of c.args.apps.now) (map application_of (drop c.loop-app.app-index c.args.apps.now)) (map application_of later) (application_of c.app-item.result) _ _ (ap (map application_of) split)
    (c.in_err-read_app.ensures ne) c.loop-app.invariant)

pub loop-app-preserved : goal.loop-app-preserved
loop-app-preserved g c =
    let P = RelupAppAt (g.F.Files.gives c.args.files.now) in
    let later = drop (c.loop-app.app-index + 1) c.args.apps.now in
    let split : drop c.loop-app.app-index c.args.apps.now ≡ c.app-item.result ∷ later =
    drop_more c.args.apps.now c.loop-app.app-index c.app-item.result c.loop-app-test.true ∙ ap (λ m. m ∷ later) (sym c.app-item.is) in
    one_more P (map application_of c.args.apps.now) (map application_of (drop c.loop-app.app-index c.args.apps.now)) (map application_of later) (application_of c.app-item.result)
    (map relup_app_of c.loop-app.read.items) (map relup_app_of c.push.new.self.items) (relup_app_of c.in_ok-read_app.field-0)
    (ap (map application_of) split) c.in_ok-read_app.ensures (viewed relup_app_of _ _ _ c.in_ok-push.ensures.items) c.loop-app.invariant

pub returns : goal.returns
returns g c =
    let P = RelupAppAt (g.F.Files.gives c.args.files.now) in
    at_last P (map application_of c.args.apps.now) (map application_of (drop c.loop-app.app-index c.args.apps.now)) (map relup_app_of c.loop-app.read.items)
    (ap (map application_of) (drop_all c.loop-app.app-index c.args.apps.now c.loop-app-test.false)) c.loop-app.invariant
