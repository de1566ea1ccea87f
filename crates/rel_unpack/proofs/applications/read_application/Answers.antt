use Rattle.rel_unpack.specs.Refusal.{refusal_of}
use Rattle.std.proofs.Common.{string_bytes, sym, ap, subst, ◌∙◌, Ok, Err, inl}
use Rattle.rel_files.specs.Release.{application_of}
use Rattle.rel_files.specs.AppInMemory.{specification_of}
use Rattle.rel_unpack.specs.Refusal.Refusal.{vsn_mismatch}
use Rattle.rel_unpack.specs.Source.{FileSays}
use Rattle.rel_unpack.specs.Paths.{app_path}
use Rattle.rel_unpack.specs.Applications.{app_form, is_named, AppAt}
use Rattle.rel_unpack.proofs.Steps.{passes, fails_test, passed_on, no_memory_left}
use Rattle.rel_unpack.proofs.applications.read_application.Goals as goal

pub returns-then-is_named : goal.returns-then-is_named
returns-then-is_named g c =
    let place = app_path (application_of c.args.app.now) in
    passes (FileSays app_form (g.F.Files.gives c.args.files.now) place) (is_named (application_of c.args.app.now)) (vsn_mismatch place) (specification_of c.in_ok-found.found)
    (subst (λ p. FileSays app_form (g.F.Files.gives c.args.files.now) p (Ok (specification_of c.in_ok-found.found))) (c.as_str.ensures.value ∙ c.in_ok-path.ensures) c.in_ok-found.ensures)
    (sym c.is_named.ensures ∙ c.if-is_named.true)

pub returns-else-is_named : goal.returns-else-is_named
returns-else-is_named g c = λ ne.
    let place = app_path (application_of c.args.app.now) in
    fails_test (FileSays app_form (g.F.Files.gives c.args.files.now) place) (is_named (application_of c.args.app.now)) (vsn_mismatch place) (vsn_mismatch (string_bytes c.in_ok-path.path)) (specification_of c.in_ok-found.found)
    (subst (λ p. FileSays app_form (g.F.Files.gives c.args.files.now) p (Ok (specification_of c.in_ok-found.found))) (c.as_str.ensures.value ∙ c.in_ok-path.ensures) c.in_ok-found.ensures)
    (sym c.is_named.ensures ∙ c.if-is_named.false) (ap vsn_mismatch c.in_ok-path.ensures)

pub returns-in_err-path : goal.returns-in_err-path
returns-in_err-path g c = no_memory_left specification_of (AppAt (g.F.Files.gives c.args.files.now) (application_of c.args.app.now)) c.from_residual.result c.from_residual.ensures.0 c.from_residual.ensures.1

pub returns-in_err-found : goal.returns-in_err-found
returns-in_err-found g c =
    passed_on specification_of (AppAt (g.F.Files.gives c.args.files.now) (application_of c.args.app.now)) c.in_err-found.field-0.0 c.from_residual-in_err-found.result
    c.from_residual-in_err-found.ensures.0 c.from_residual-in_err-found.ensures.1
    (λ ne. inl (subst (λ p. FileSays app_form (g.F.Files.gives c.args.files.now) p (Err (refusal_of c.in_err-found.field-0.0))) (c.as_str.ensures.value ∙ c.in_ok-path.ensures) (c.in_err-found.ensures ne)))
