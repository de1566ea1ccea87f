use Rattle.rel_files.proofs.TermRows.{terms_more, terms_all}
use Rattle.relup_file.specs.Relup.{entry_of}
use Rattle.relup_file.specs.Form.{entry_term}
use Rattle.relup_file.proofs.printer.entries_term.Goals as goal

pub loop-entry-preserved : goal.loop-entry-preserved
loop-entry-preserved c =
    terms_more entry_of entry_term c.args.entries.now c.loop-entry.entry-index c.entry-item.result c.loop-entry.terms.items c.push.new.self.items c.in_ok-entry_term.field-0
    c.loop-entry-test.true c.entry-item.is c.in_ok-entry_term.ensures c.in_ok-push.ensures.items c.loop-entry.invariant

pub returns : goal.returns
returns c = terms_all entry_of entry_term c.args.entries.now c.loop-entry.entry-index c.loop-entry.terms c.loop-entry-test.false c.loop-entry.invariant
