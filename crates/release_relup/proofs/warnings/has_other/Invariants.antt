use Rattle.std.proofs.Common.{◌≡◌, map, drop}
use Rattle.relup_row.specs.Release.{relup_app_of, relup_release_of}
use Rattle.release_relup.specs.Warnings.{has_other}
use Rattle.release_relup.proofs.warnings.has_other.Given as goal

abbrev pub invariant-loop-other : goal.invariant-loop-other
invariant-loop-other l =
    has_other (map relup_release_of (drop l.other-index l.others)) (relup_app_of l.app) ≡ has_other (map relup_release_of l.others) (relup_app_of l.app)
