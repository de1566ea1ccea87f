use Rattle.std.proofs.Common.{refl, subst}
use Rattle.rel_store.specs.Records.{records_of}
use Rattle.store_report.specs.Contents.{ShowsHeld, before_damage}
use Rattle.store_report.proofs.Reports.{damaged_long}
use Rattle.store_report.proofs.report.report_damage.Goals as goal

pub layout_text-requires : goal.layout_text-requires
layout_text-requires c = damaged_long c.args.bytes.now c.args.at c.requires.damaged

pub returns : goal.returns
returns c =
    let before = before_damage c.args.at c.args.bytes.now in
    record {
      shown = c.push_before.new.text.items;
      contents = subst (λ old. ShowsHeld c.args.each_record before (records_of before) old c.push_before.new.text.items) c.in_ok-text.ensures c.in_ok-push_before.ensures;
      text = c.in_ok-push_damage.ensures;
      sound = refl;
    }
