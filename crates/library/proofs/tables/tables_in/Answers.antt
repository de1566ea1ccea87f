use Rattle.std.proofs.Common.{map}
use Rattle.erl_term.specs.Value.{value_of}
use Rattle.rel_files.proofs.Rows.{viewed}
use Rattle.mod_table.specs.declared.table.Table.{Table}
use Rattle.mod_table.specs.File.{IsTableTerm}
use Rattle.library.specs.InMemory.{table_term_of}
use Rattle.library.specs.Reading.{SaysTableTerm}
use Rattle.library.proofs.TermRows.{reads_more, reads_none, reads_all}
use Rattle.library.proofs.tables.tables_in.Goals as goal

pub loop-term-preserved : goal.loop-term-preserved
loop-term-preserved c =
    let says : SaysTableTerm (value_of c.term-item.result) (table_term_of c.in-Some.file) = rw c.in-Some.is at c.in_ok-file.ensures in
    reads_more SaysTableTerm c.args.terms.now c.loop-term.term-index c.term-item.result (map table_term_of c.loop-term.files.items) (map table_term_of c.push_back.new.self.items) (table_term_of c.in-Some.file)
    c.loop-term-test.true c.term-item.is says (viewed table_term_of _ _ c.in-Some.file c.in_ok-push_back.ensures.items) c.loop-term.invariant

pub returns : goal.returns
returns c = reads_all SaysTableTerm c.args.terms.now c.loop-term.term-index (map table_term_of c.loop-term.files.items) c.loop-term-test.false c.loop-term.invariant

pub returns-in_default : goal.returns-in_default
returns-in_default c =
    let none : (t : Table) → IsTableTerm (value_of c.term-item.result) t → ⊥ = rw c.in_default.is at c.in_ok-file.ensures in
    reads_none SaysTableTerm c.args.terms.now c.loop-term.term-index c.term-item.result (map table_term_of c.loop-term.files.items) c.loop-term-test.true c.term-item.is
    (λ t says. none t.table says.1) c.loop-term.invariant
