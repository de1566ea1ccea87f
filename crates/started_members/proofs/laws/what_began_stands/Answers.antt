use Rattle.started_members.proofs.BeginLemmas.{what_began_stands}
use Rattle.started_members.proofs.laws.what_began_stands.Goals as goal

pub returns : goal.returns
returns c = what_began_stands
