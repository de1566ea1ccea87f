use Rattle.rel_list.proofs.PermanentLaws.{permanent_stays}
use Rattle.rel_list.proofs.laws.other_events_leave_the_permanent_release.Goals as goal

pub returns : goal.returns
returns c = permanent_stays
