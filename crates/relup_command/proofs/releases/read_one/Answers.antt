use Rattle.std.proofs.Common.{map, inl, inr, ap, Ok}
use Rattle.rel_unpack.specs.Release.{found_of}
use Rattle.rel_unpack.proofs.Steps.{passed_on}
use Rattle.relup_row.specs.Release.{relup_app_of, relup_release_of}
use Rattle.relup_command.specs.Releases.{RelupReleaseAt}
use Rattle.relup_command.proofs.releases.read_one.Goals as goal

pub returns-in_err-file : goal.returns-in_err-file
returns-in_err-file g c =
    passed_on relup_release_of (RelupReleaseAt (g.F.Files.gives c.args.files.now) c.args.path.now) c.in_err-file.field-0.0 c.from_residual.result
    c.from_residual.ensures.0 c.from_residual.ensures.1 (λ ne. inl (c.in_err-file.ensures.answer ne))

pub returns-in_err-apps : goal.returns-in_err-apps
returns-in_err-apps g c =
    passed_on relup_release_of (RelupReleaseAt (g.F.Files.gives c.args.files.now) c.args.path.now) c.in_err-apps.field-0.0 c.from_residual-in_err-apps.result
    c.from_residual-in_err-apps.ensures.0 c.from_residual-in_err-apps.ensures.1
    (λ ne. inr (found_of c.in_ok-file.file, c.in_ok-file.ensures.answer, inl (rw c.as_slice.ensures.value at (c.in_err-apps.ensures ne))))

pub returns : goal.returns
returns g c = (
  found_of c.in_ok-file.file,
  c.in_ok-file.ensures.answer,
  (map relup_app_of c.in_ok-apps.apps.items, (rw c.as_slice.ensures.value at c.in_ok-apps.ensures), ap Ok c.relup_release.ensures),
)
