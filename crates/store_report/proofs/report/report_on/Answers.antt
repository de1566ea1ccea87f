use Rattle.std.proofs.Common.{ap, subst, sym, ◌∙◌}
use Rattle.std.proofs.lemmas.Result.{IfOk-weaker}
use Rattle.rel_store.specs.Layout.{format_of, text_of}
use Rattle.rel_store.specs.Records.{records_of}
use Rattle.rel_store.proofs.Exits.{other_one}
use Rattle.store_report.specs.Report.{IsReport}
use Rattle.store_report.proofs.Reports.{refuses_so}
use Rattle.store_report.proofs.report.report_on.Goals as goal

pub report_store-requires-clause-held : goal.report_store-requires-clause-held
report_store-requires-clause-held g c = ap (λ l. records_of l) (sym c.requires.seen) ∙ c.in-Ok.ensures.records

pub report_store-requires-clause-slot : goal.report_store-requires-clause-slot
report_store-requires-clause-slot g c =
    let synced = other_one c.in-Ok.ensures.synced (λ never. absurd never.0) in
    ap (λ l. text_of l) (synced.same ∙ c.requires.seen)

pub report_store-requires-clause-format : goal.report_store-requires-clause-format
report_store-requires-clause-format g c = c.in-Ok.ensures.format ∙ ap (λ l. format_of l) c.requires.seen

pub report_refusal-requires-clause-refused : goal.report_refusal-requires-clause-refused
report_refusal-requires-clause-refused g c = refuses_so c.args.bytes.now (g.D.Disk.seen c.args.disk) _ _ c.in-Err.error c.requires.seen c.in-Err.ensures.refused

pub returns-in-Ok : goal.returns-in-Ok
returns-in-Ok g c =
    let held = ap (λ l. records_of l) (sym c.requires.seen) ∙ c.in-Ok.ensures.records in
    IfOk-weaker c.report_store.result _ _ (λ report is. subst (λ o. IsReport c.args.each_record c.args.bytes.now o report) (sym held) is) c.report_store.ensures
