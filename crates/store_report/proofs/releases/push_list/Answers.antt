use Rattle.std.proofs.Common.{inl, inr, refl}
use Rattle.store_report.proofs.Reports.{bad_number}
use Rattle.store_report.proofs.Texts.{two}
use Rattle.store_report.proofs.releases.push_list.Goals as goal

pub returns-in_ok-push_text-in-Ok : goal.returns-in_ok-push_text-in-Ok
returns-in_ok-push_text-in-Ok c = inl (c.in-Ok.list, c.in-Ok.ensures.made, two _ _ _ _ _ c.in_ok-push_releases-in-Ok.ensures c.in_ok-push_text-in-Ok.ensures, refl)

pub returns-in_ok-push_number-in-Err-BadRecord : goal.returns-in_ok-push_number-in-Err-BadRecord
returns-in_ok-push_number-in-Err-BadRecord c =
    inr (
      c.in-Err-BadRecord.number,
      bad_number _ _ c.in-Err-BadRecord.number c.in-Err-BadRecord.field-0 c.in-Err-BadRecord.field-0-is c.in-Err-BadRecord.ensures.bad,
      c.in_ok-push_number-in-Err-BadRecord.ensures,
      refl,
    )
