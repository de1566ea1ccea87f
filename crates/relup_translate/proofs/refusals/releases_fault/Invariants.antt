use Rattle.std.proofs.Common.{◌≡◌, map, drop}
use Rattle.relup_row.specs.Release.{relup_release_of}
use Rattle.relup_translate.specs.Translation.{first_fault, release_fault}
use Rattle.relup_translate.proofs.refusals.releases_fault.Given as goal

abbrev pub invariant-loop-other : goal.invariant-loop-other
invariant-loop-other l = first_fault (release_fault l.direction (relup_release_of l.new)) (map relup_release_of (drop l.other-index l.others)) ≡ first_fault (release_fault l.direction (relup_release_of l.new)) (map relup_release_of l.others)
