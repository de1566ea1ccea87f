use Rattle.std.proofs.Common.{◌≢◌, ◌<◌, ◌≤◌, List, ◌+◌, Err, Ok, inl, length, map, drop, take, sym, ap, subst, ◌∙◌, arith}
use Rattle.std.specs.Prelude.{slice_index_or}
use Rattle.std.proofs.lemmas.List.{drop_all, take_all, take_more_set, drop-set-lt, map-append}
use Rattle.std.specs.Option.{option_map}
use Rattle.appup_file.specs.Instruction.{appup_of}
use Rattle.rel_unpack.specs.Order.{Each}
use Rattle.rel_unpack.specs.Refusal.{refusal_of}
use Rattle.rel_unpack.specs.declared.error.UnpackError.{UnpackError}
use Rattle.rel_unpack.specs.declared.error.UnpackError.TheVariants.{NoMemory}
use Rattle.rel_unpack.proofs.Turns.{one_more, refused, at_last}
use Rattle.relup_row.specs.declared.release.RelupApp.{RelupApp}
use Rattle.relup_row.specs.Release.{relup_app_of}
use Rattle.relup_command.specs.Appups.{AppupAt, WithAppup}
use Rattle.relup_command.proofs.AppupLemmas.{same_rest, with_its_appup, error_passed_on}
use Rattle.relup_command.proofs.appups.read_appups.Goals as goal

pub returns-in_err-app-clause-refused : goal.returns-in_err-app-clause-refused
returns-in_err-app-clause-refused g c =
    let P = WithAppup (g.F.Files.gives c.args.files.now) in
    let n = c.loop-app.app-index in
    let rest = same_rest c.args.apps.now c.loop-app.apps n c.app-item.result (omega (arith, c.loop-app-test.true, c.loop-app.auto.apps)) c.loop-app-test.true c.loop-app.invariant.1 c.app-item.is in
    error_passed_on (λ (e : UnpackError). e ≢ NoMemory → Each P (map relup_app_of c.args.apps.now) (Err (refusal_of e))) c.in_err-app.field-0.0 c.from_residual.result c.from_residual.ensures.1
    (λ ne. refused P (map relup_app_of c.args.apps.now) (map relup_app_of (drop n c.args.apps.now)) (map relup_app_of (drop (n + 1) c.args.apps.now)) (relup_app_of c.app-item.result) _ _
    (ap (map relup_app_of) rest.0) (inl (subst (λ (x : RelupApp). AppupAt (g.F.Files.gives c.args.files.now) (relup_app_of x) (Err (refusal_of c.in_err-app.field-0.0))) (sym c.app-item.is) (c.in_err-app.ensures ne))) c.loop-app.invariant.0)

pub loop-app-preserved : goal.loop-app-preserved
loop-app-preserved g c =
    let P = WithAppup (g.F.Files.gives c.args.files.now) in
    let n = c.loop-app.app-index in
    let inside : n < length c.loop-app.apps = omega (arith, c.loop-app-test.true, c.loop-app.auto.apps) in
    let rest = same_rest c.args.apps.now c.loop-app.apps n c.app-item.result inside c.loop-app-test.true c.loop-app.invariant.1 c.app-item.is in (
      one_more P (map relup_app_of c.args.apps.now) (map relup_app_of (drop n c.args.apps.now)) (map relup_app_of (drop (n + 1) c.args.apps.now)) (relup_app_of c.app-item.result) _ _ _
          (ap (map relup_app_of) rest.0)
          (with_its_appup (g.F.Files.gives c.args.files.now) c.app-item.result (slice_index_or c.loop-app.apps n c.app-item.result) c.in_ok-app.field-0 c.app-item.is
          (subst (λ (x : RelupApp). AppupAt (g.F.Files.gives c.args.files.now) (relup_app_of x) (Ok (option_map appup_of c.in_ok-app.field-0))) (sym c.app-item.is) c.in_ok-app.ensures))
          (ap (map relup_app_of) (take_more_set c.loop-app.apps n _ inside) ∙ map-append relup_app_of (take n c.loop-app.apps) _)
          c.loop-app.invariant.0,
      drop-set-lt (n + 1) c.loop-app.apps n _ (omega arith) ∙ rest.1,
    )

pub returns-clause-read : goal.returns-clause-read
returns-clause-read g c =
    let P = WithAppup (g.F.Files.gives c.args.files.now) in
    let n = c.loop-app.app-index in
    let end : length c.loop-app.apps ≤ n = omega (arith, c.loop-app-test.false, c.loop-app.auto.apps) in
    subst (λ (l : List RelupApp). Each P (map relup_app_of c.args.apps.now) (Ok (map relup_app_of l))) (take_all n c.loop-app.apps end)
    (at_last P (map relup_app_of c.args.apps.now) (map relup_app_of (drop n c.args.apps.now)) (map relup_app_of (take n c.loop-app.apps))
    (ap (map relup_app_of) (drop_all n c.args.apps.now c.loop-app-test.false)) c.loop-app.invariant.0)
