use Rattle.relup_row.specs.Release.{relup_release_of}
use Rattle.release_relup.specs.Scripts.{script_between}
use Rattle.release_relup.proofs.FoundLemmas.{Kept}
use Rattle.release_relup.proofs.judgement.found_in.Given as goal

abbrev pub invariant-loop-other : goal.invariant-loop-other
invariant-loop-other l = Kept (script_between l.direction (relup_release_of l.new)) l.others l.other-index
