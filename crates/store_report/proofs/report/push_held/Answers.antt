use Rattle.std.proofs.Common.{ap, subst, sym, ◌∙◌}
use Rattle.std.proofs.lemmas.Result.{on_ok_weaker}
use Rattle.rel_store.specs.Layout.{text_of}
use Rattle.rel_store.specs.Records.{records_of}
use Rattle.rel_store.proofs.Exits.{other_one}
use Rattle.store_report.specs.Contents.{ShowsHeld}
use Rattle.store_report.proofs.Reports.{none_held}
use Rattle.store_report.proofs.report.push_held.Goals as goal

pub push_contents-requires-clause-held : goal.push_contents-requires-clause-held
push_contents-requires-clause-held g c = ap (λ l. records_of l) (sym c.requires.seen) ∙ c.in-Ok.ensures.records

pub push_contents-requires-clause-slot : goal.push_contents-requires-clause-slot
push_contents-requires-clause-slot g c =
    let synced = other_one c.in-Ok.ensures.synced (λ never. absurd never.0) in
    ap (λ l. text_of l) (synced.same ∙ c.requires.seen)

pub returns-in-Ok : goal.returns-in-Ok
returns-in-Ok g c =
    let held = ap (λ l. records_of l) (sym c.requires.seen) ∙ c.in-Ok.ensures.records in
    on_ok_weaker c.push_contents.result (λ shown. subst (λ o. ShowsHeld c.args.each_record c.args.bytes.now o c.args.text.now.items c.push_contents.new.text.items) (sym held) shown) c.push_contents.ensures.contents

pub returns-in-Err : goal.returns-in-Err
returns-in-Err g c =
    on_ok_weaker c.of_bytes.result (λ own. none_held c.args.each_record c.args.bytes.now (g.D.Disk.seen c.args.disk) _ _ _ c.in-Err.error c.requires.seen c.in-Err.ensures.refused own) c.of_bytes.ensures
