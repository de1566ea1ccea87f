use Rattle.std.proofs.Common.{map, string_bytes}
use Rattle.relup_command.specs.declared.error.RelupError.TheVariants.{Files, Appups}
use Rattle.relup_command.specs.Releases.{releases_of}
use Rattle.relup_command.specs.Relup.{IsRefusalOf}
use Rattle.relup_command.proofs.AppupLemmas.{error_passed_on}
use Rattle.relup_command.proofs.relup.make_relup_of_files.Goals as goal

pub returns-in_err-releases-clause-refused : goal.returns-in_err-releases-clause-refused
returns-in_err-releases-clause-refused g c =
    error_passed_on (IsRefusalOf (g.F.Files.gives c.args.files.now) c.args.new.now (map string_bytes c.args.ups.now) (map string_bytes c.args.downs.now)) (Files c.in_err-releases.field-0.0)
    c.from_residual.result c.from_residual.ensures.1 c.in_err-releases.ensures

pub returns-in_err-relup-clause-refused : goal.returns-in_err-relup-clause-refused
returns-in_err-relup-clause-refused g c =
    error_passed_on (IsRefusalOf (g.F.Files.gives c.args.files.now) c.args.new.now (map string_bytes c.args.ups.now) (map string_bytes c.args.downs.now)) (Appups c.in_err-relup.field-0.0)
    c.from_residual-in_err-relup.result c.from_residual-in_err-relup.ensures.1
    (releases_of c.in_ok-releases.releases, c.in_ok-releases.ensures, (rw c.as_slice.ensures.value at (rw c.as_slice-2.ensures.value at c.in_err-relup.ensures.refused)))

pub returns-clause-made : goal.returns-clause-made
returns-clause-made g c = (
  releases_of c.in_ok-releases.releases,
  c.in_ok-releases.ensures,
  (rw c.as_slice.ensures.value at (rw c.as_slice-2.ensures.value at c.in_ok-relup.ensures.made)),
)
