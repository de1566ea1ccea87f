use Rattle.std.proofs.Common.{map, string_bytes, inl, inr, refl}
use Rattle.rel_unpack.proofs.Steps.{passed_on}
use Rattle.relup_row.specs.Release.{relup_release_of}
use Rattle.relup_command.specs.Releases.{ReleasesAt, releases_of}
use Rattle.relup_command.proofs.releases.read_releases.Goals as goal

pub returns-in_err-release : goal.returns-in_err-release
returns-in_err-release g c =
    passed_on releases_of (ReleasesAt (g.F.Files.gives c.args.files.now) c.args.new.now (map string_bytes c.args.ups.now) (map string_bytes c.args.downs.now)) c.in_err-release.field-0.0 c.from_residual.result
    c.from_residual.ensures.0 c.from_residual.ensures.1 (λ ne. inl (c.in_err-release.ensures ne))

pub returns-in_err-ups : goal.returns-in_err-ups
returns-in_err-ups g c =
    passed_on releases_of (ReleasesAt (g.F.Files.gives c.args.files.now) c.args.new.now (map string_bytes c.args.ups.now) (map string_bytes c.args.downs.now)) c.in_err-ups.field-0.0 c.from_residual-in_err-ups.result
    c.from_residual-in_err-ups.ensures.0 c.from_residual-in_err-ups.ensures.1
    (λ ne. inr (relup_release_of c.in_ok-release.release, c.in_ok-release.ensures, inl (c.in_err-ups.ensures ne)))

pub returns-in_err-downs : goal.returns-in_err-downs
returns-in_err-downs g c =
    passed_on releases_of (ReleasesAt (g.F.Files.gives c.args.files.now) c.args.new.now (map string_bytes c.args.ups.now) (map string_bytes c.args.downs.now)) c.in_err-downs.field-0.0 c.from_residual-in_err-downs.result
    c.from_residual-in_err-downs.ensures.0 c.from_residual-in_err-downs.ensures.1
    (λ ne. inr (relup_release_of c.in_ok-release.release, c.in_ok-release.ensures, inr (map relup_release_of c.in_ok-ups.ups.items, c.in_ok-ups.ensures, inl (c.in_err-downs.ensures ne))))

pub returns-in_err-new : goal.returns-in_err-new
returns-in_err-new g c =
    passed_on releases_of (ReleasesAt (g.F.Files.gives c.args.files.now) c.args.new.now (map string_bytes c.args.ups.now) (map string_bytes c.args.downs.now)) c.in_err-new.field-0.0 c.from_residual-in_err-new.result
    c.from_residual-in_err-new.ensures.0 c.from_residual-in_err-new.ensures.1
    (λ ne. inr (
      relup_release_of c.in_ok-release.release,
      c.in_ok-release.ensures,
      inr (
        map relup_release_of c.in_ok-ups.ups.items,
        c.in_ok-ups.ensures,
        inr (map relup_release_of c.in_ok-downs.downs.items, c.in_ok-downs.ensures, inl (c.in_err-new.ensures ne)),
      ),
    ))

pub returns : goal.returns
returns g c = (
  relup_release_of c.in_ok-release.release,
  c.in_ok-release.ensures,
  (
    map relup_release_of c.in_ok-ups.ups.items,
    c.in_ok-ups.ensures,
    (
      map relup_release_of c.in_ok-downs.downs.items,
      c.in_ok-downs.ensures,
      (relup_release_of c.in_ok-new.new, c.in_ok-new.ensures, refl),
    ),
  ),
)
