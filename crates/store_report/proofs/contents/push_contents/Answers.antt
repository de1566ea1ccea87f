use Rattle.std.proofs.Common.{◌++◌, ◌∙◌, ap, subst, arith}
use Rattle.rel_store.specs.Layout.{base_of}
use Rattle.rel_store.specs.Records.{space}
use Rattle.rel_store.specs.State.{records_in}
use Rattle.store_report.specs.Contents.{Starts, start_of}
use Rattle.store_report.specs.Lines.{records_text, start_line}
use Rattle.store_report.proofs.Places.{ends_within, long_enough}
use Rattle.store_report.proofs.Texts.{none_shown, all_shown}
use Rattle.store_report.proofs.contents.push_contents.Goals as goal

pub base_of-requires : goal.base_of-requires
base_of-requires g c = long_enough c.args.bytes.now (records_in c.args.store.now) c.requires.held

pub push_records-requires : goal.push_records-requires
push_records-requires g c =
    omega (arith, ends_within c.args.bytes.now (records_in c.args.store.now) c.requires.held, c.requires.short, c.base_of.ensures, ap space (c.records.ensures ∙ c.start_in.ensures.records))

pub returns-then-each_record-clause-contents : goal.returns-then-each_record-clause-contents
returns-then-each_record-clause-contents g c = (
  start_of c.in_ok-start.start,
  subst (λ t. Starts t (start_of c.in_ok-start.start)) c.requires.slot c.in_ok-start.ensures.start,
  all_shown c.args.each_record c.args.text.now.items c.push_start.new.text.items c.push_records.new.text.items (start_line (start_of c.in_ok-start.start)) (base_of c.args.bytes.now) (records_in c.args.store.now) c.if-each_record.true c.in_ok-push_start.ensures
      (c.in_ok-push_records.ensures ∙ (λ i. c.push_start.new.text.items ++ records_text 1 (c.base_of.ensures i) ((c.records.ensures ∙ c.start_in.ensures.records) i))),
)

pub returns-clause-contents : goal.returns-clause-contents
returns-clause-contents g c = (
  start_of c.in_ok-start.start,
  subst (λ t. Starts t (start_of c.in_ok-start.start)) c.requires.slot c.in_ok-start.ensures.start,
  none_shown c.args.each_record c.args.text.now.items c.push_start.new.text.items (start_line (start_of c.in_ok-start.start)) (base_of c.args.bytes.now) (records_in c.args.store.now) c.if-each_record.false c.in_ok-push_start.ensures,
)
