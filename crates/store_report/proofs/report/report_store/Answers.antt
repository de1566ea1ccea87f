use Rattle.std.proofs.Common.{◌+◌, ◌++◌, ◌∙◌, ap, arith, subst}
use Rattle.rel_store.specs.Records.{space}
use Rattle.rel_store.specs.State.{records_in}
use Rattle.store_report.specs.Contents.{ShowsContents}
use Rattle.store_report.specs.Lines.{room_text}
use Rattle.store_report.proofs.Places.{ends_within, long_enough}
use Rattle.store_report.proofs.Reports.{shows_so}
use Rattle.store_report.proofs.report.report_store.Goals as goal

pub layout_text-requires : goal.layout_text-requires
layout_text-requires g c = long_enough c.args.bytes.now (records_in c.args.store.now) c.requires.held

pub base_of-requires : goal.base_of-requires
base_of-requires g c = long_enough c.args.bytes.now (records_in c.args.store.now) c.requires.held

pub end_of-requires : goal.end_of-requires
end_of-requires g c =
    omega (arith, ends_within c.args.bytes.now (records_in c.args.store.now) c.requires.held, c.requires.short, c.base_of.ensures, ap space (c.records.ensures ∙ c.push_contents.ensures.records))

pub push_room-requires : goal.push_room-requires
push_room-requires g c =
    omega (arith, ends_within c.args.bytes.now (records_in c.args.store.now) c.requires.held, c.requires.short, c.base_of.ensures, ap space (c.records.ensures ∙ c.push_contents.ensures.records), c.end_of.ensures)

pub returns : goal.returns
returns g c =
    let held = c.records.ensures ∙ c.push_contents.ensures.records in
    record {
      shown = c.push_contents.new.text.items;
      contents = subst (λ old. ShowsContents c.args.each_record c.args.bytes.now (records_in c.args.store.now) old c.push_contents.new.text.items) c.in_ok-text.ensures c.in_ok-push_contents.ensures.contents;
      list = shows_so _ _ _ _ _ _ _ _ (c.format.ensures ∙ c.push_contents.ensures.format ∙ c.requires.format) (c.records-2.ensures ∙ c.push_contents.ensures.records)
          (c.in_ok-push_room.ensures ∙ ap (λ end. c.push_contents.new.text.items ++ room_text end) (c.end_of.ensures ∙ (λ i. c.base_of.ensures i + space (held i) + 1)))
          c.in_ok-is_sound.ensures;
    }
