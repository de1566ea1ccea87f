use Rattle.std.proofs.Common.{map, Err, ap}
use Rattle.rel_files.proofs.Rows.{viewed}
use Rattle.library.proofs.TermRows.{reads_more, reads_none, reads_all}
use Rattle.rel_records.specs.Parts.{imaged_read}
use Rattle.rel_records.specs.Reading.{SaysImaged}
use Rattle.rel_records.proofs.ReadingLemmas.{reported_bad}
use Rattle.rel_records.proofs.imaged.all_imaged_in.Goals as goal

pub loop-term-preserved : goal.loop-term-preserved
loop-term-preserved c =
    reads_more SaysImaged c.args.terms.now c.loop-term.term-index c.term-item.result (map imaged_read c.loop-term.releases.items) (map imaged_read c.push.new.self.items) (imaged_read c.in_ok-imaged.imaged)
    c.loop-term-test.true c.term-item.is c.in_ok-imaged.ensures.says (viewed imaged_read _ _ _ c.in_ok-push.ensures.items) c.loop-term.invariant

-- a term says no release of an image
pub returns-in_err-imaged-clause-bad : goal.returns-in_err-imaged-clause-bad
returns-in_err-imaged-clause-bad c = λ bad.
    let none = c.in_err-imaged.ensures.bad (ap (λ f. Err f) (reported_bad c.from_residual-in_err-imaged.result c.in_err-imaged.field-0.0 c.from_residual-in_err-imaged.ensures bad)) in
    reads_none SaysImaged c.args.terms.now c.loop-term.term-index c.term-item.result (map imaged_read c.loop-term.releases.items) c.loop-term-test.true c.term-item.is none c.loop-term.invariant

pub returns-clause-says : goal.returns-clause-says
returns-clause-says c = reads_all SaysImaged c.args.terms.now c.loop-term.term-index (map imaged_read c.loop-term.releases.items) c.loop-term-test.false c.loop-term.invariant
