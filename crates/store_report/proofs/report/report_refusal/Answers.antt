use Rattle.std.proofs.Common.{subst, sym}
use Rattle.std.proofs.lemmas.Result.{IfOk-weaker}
use Rattle.store_report.specs.Report.{IsReport, RefusesSo}
use Rattle.store_report.proofs.report.report_refusal.Goals as goal

pub report_damage-requires-clause-damaged : goal.report_damage-requires-clause-damaged
report_damage-requires-clause-damaged c = subst (RefusesSo c.args.bytes.now) c.in-Damaged.is c.requires.refused

pub returns-in-NotAStore : goal.returns-in-NotAStore
returns-in-NotAStore c =
    let refused = subst (RefusesSo c.args.bytes.now) c.in-NotAStore.is c.requires.refused in
    IfOk-weaker c.report_no_store.result _ _ (λ report is. subst (λ o. IsReport c.args.each_record c.args.bytes.now o report) (sym refused) is) c.report_no_store.ensures

pub returns-in-Damaged : goal.returns-in-Damaged
returns-in-Damaged c =
    let refused = subst (RefusesSo c.args.bytes.now) c.in-Damaged.is c.requires.refused in
    IfOk-weaker c.report_damage.result _ _ (λ report is. subst (λ o. IsReport c.args.each_record c.args.bytes.now o report) (sym refused) is) c.report_damage.ensures
