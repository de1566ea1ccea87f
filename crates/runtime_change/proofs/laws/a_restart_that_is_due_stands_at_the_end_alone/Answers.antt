use Rattle.runtime_change.proofs.LawLemmas.{ends_anew}
use Rattle.runtime_change.proofs.laws.a_restart_that_is_due_stands_at_the_end_alone.Goals as goal

pub returns : goal.returns
returns c = ends_anew
