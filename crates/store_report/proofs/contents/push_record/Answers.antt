use Rattle.store_report.proofs.Texts.{three}
use Rattle.store_report.proofs.contents.push_record.Goals as goal

pub returns : goal.returns
returns c = three _ _ _ _ _ _ _ c.in_ok-push_head.ensures c.in_ok-push_shown.ensures c.in_ok-push_text.ensures
