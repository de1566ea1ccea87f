use Rattle.store_report.proofs.Texts.{two}
use Rattle.store_report.proofs.report.push_room.Goals as goal

pub returns : goal.returns
returns c = two _ _ _ _ _ c.in_ok-push_number.ensures c.in_ok-push_number-2.ensures
