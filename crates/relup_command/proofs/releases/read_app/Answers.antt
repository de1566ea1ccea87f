use Rattle.std.proofs.Common.{Bool, Ok, Err, inl, inr, sym, ap, ◌∙◌}
use Rattle.std.specs.Prelude.{if◌then◌else◌}
use Rattle.rel_files.specs.AppInMemory.{specification_of}
use Rattle.rel_files.specs.Release.{application_of}
use Rattle.rel_unpack.specs.Refusal.Refusal.{too_many}
use Rattle.rel_unpack.proofs.Steps.{passed_on}
use Rattle.relup_row.specs.Release.{relup_app_of}
use Rattle.relup_command.specs.Releases.{RelupAppAt, relup_app}
use Rattle.relup_command.proofs.releases.read_app.Goals as goal

pub returns-in_err-found : goal.returns-in_err-found
returns-in_err-found g c =
    passed_on relup_app_of (RelupAppAt (g.F.Files.gives c.args.files.now) (application_of c.args.app.now)) c.in_err-found.field-0.0 c.from_residual.result
    c.from_residual.ensures.0 c.from_residual.ensures.1 (λ ne. inl (c.in_err-found.ensures ne))

pub returns-in_ok-relup_app : goal.returns-in_ok-relup_app
returns-in_ok-relup_app g c =
    let s = specification_of c.in_ok-found.found in
    (s, c.in_ok-found.ensures, ap Ok c.in_ok-relup_app.ensures ∙ sym (ap (λ (b : Bool). if b then Ok (relup_app c.args.app.now.start s) else Err too_many) (sym c.has_few_modules.ensures ∙ c.if-has_few_modules.true)))

pub returns-else-has_few_modules : goal.returns-else-has_few_modules
returns-else-has_few_modules g c = λ ne.
    let s = specification_of c.in_ok-found.found in
    inr (s, c.in_ok-found.ensures, sym (ap (λ (b : Bool). if b then Ok (relup_app c.args.app.now.start s) else Err too_many) (sym c.has_few_modules.ensures ∙ c.if-has_few_modules.false)))
