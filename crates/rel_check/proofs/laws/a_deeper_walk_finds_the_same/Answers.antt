use Rattle.rel_check.proofs.Depth.{deeper_same}
use Rattle.rel_check.proofs.laws.a_deeper_walk_finds_the_same.Goals as goal

pub returns : goal.returns
returns c = deeper_same
