use Rattle.std.proofs.Common.{◌≡◌, ◌≢◌, ◌∷◌, ◌+◌, map, drop, rules, Ok, sym, ap, subst, ◌∙◌}
use Rattle.std.proofs.lemmas.List.{drop_more, drop_all}
use Rattle.rel_files.proofs.Rows.{viewed}
use Rattle.rel_files.specs.Release.{application_of}
use Rattle.library.specs.InMemory.{library_of, shared_of}
use Rattle.rel_unpack.specs.Applications.{LibraryAt}
use Rattle.rel_unpack.specs.Refusal.{refusal_of}
use Rattle.rel_unpack.specs.declared.error.UnpackError.TheVariants.{NoMemory}
use Rattle.rel_unpack.proofs.LibraryTurns.{one_more, refused, at_last}
use Rattle.rel_unpack.proofs.applications.read_libraries.Goals as goal

pub returns-in-Err : goal.returns-in-Err
returns-in-Err g c =
    let later = drop (c.loop-app.app-index + 1) c.args.apps.now in
    let split : drop c.loop-app.app-index c.args.apps.now ≡ c.app-item.result ∷ later =
    drop_more c.args.apps.now c.loop-app.app-index c.app-item.result c.loop-app-test.true ∙ ap (λ m. m ∷ later) (sym c.app-item.is) in
    let known : c.in-Err.why ≢ NoMemory = search rules in
    refused (g.F.Files.gives c.args.files.now) (map application_of c.args.apps.now) (map application_of (drop c.loop-app.app-index c.args.apps.now)) (map application_of later)
    (application_of c.app-item.result) (map shared_of c.loop-app.libraries.items) (refusal_of c.in-Err.why)
    (ap (map application_of) split) (c.in-Err.ensures known) c.loop-app.invariant

pub loop-app-preserved : goal.loop-app-preserved
loop-app-preserved g c =
    let later = drop (c.loop-app.app-index + 1) c.args.apps.now in
    let split : drop c.loop-app.app-index c.args.apps.now ≡ c.app-item.result ∷ later =
    drop_more c.args.apps.now c.loop-app.app-index c.app-item.result c.loop-app-test.true ∙ ap (λ m. m ∷ later) (sym c.app-item.is) in
    let here = subst (λ l. LibraryAt (g.F.Files.gives c.args.files.now) (application_of c.app-item.result) (Ok (library_of l))) (sym c.in_ok-new-in-Ok.ensures.ok) c.in-Ok.ensures in
    one_more (g.F.Files.gives c.args.files.now) (map application_of c.args.apps.now) (map application_of (drop c.loop-app.app-index c.args.apps.now)) (map application_of later)
    (application_of c.app-item.result) (map shared_of c.loop-app.libraries.items) (map shared_of c.push.new.self.items) (shared_of c.in_ok-new-in-Ok.field-0)
    (ap (map application_of) split) here (viewed shared_of _ _ _ c.in_ok-push-in-Ok.ensures.items) c.loop-app.invariant

pub returns : goal.returns
returns g c =
    at_last (g.F.Files.gives c.args.files.now) (map application_of c.args.apps.now) (map application_of (drop c.loop-app.app-index c.args.apps.now))
    (map shared_of c.loop-app.libraries.items) (ap (map application_of) (drop_all c.loop-app.app-index c.args.apps.now c.loop-app-test.false)) c.loop-app.invariant
