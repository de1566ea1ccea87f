use Rattle.std.proofs.Common.{map, subst, sym}
use Rattle.erl_term.specs.Value.{value_of}
use Rattle.rel_files.proofs.Rows.{viewed}
use Rattle.library.specs.InMemory.{library_of, shared_of}
use Rattle.library.specs.Library.{Library}
use Rattle.library.specs.Reading.{SaysLibrary}
use Rattle.library.proofs.TermRows.{reads_more, reads_none, reads_all}
use Rattle.library.proofs.record.libraries_of_terms.Goals as goal

pub returns : goal.returns
returns c = reads_all SaysLibrary c.args.terms.now c.loop-term.term-index (map shared_of c.loop-term.libraries.items) c.loop-term-test.false c.loop-term.invariant

pub loop-term-preserved : goal.loop-term-preserved
loop-term-preserved c =
    let is : SaysLibrary (value_of c.term-item.result) (library_of c.in-Some.library) = rw c.in-Some.is at c.in_ok-library.ensures in
    let shared : SaysLibrary (value_of c.term-item.result) (shared_of c.in_ok-new.field-0) = subst (λ l. SaysLibrary (value_of c.term-item.result) (library_of l)) (sym c.in_ok-new.ensures.ok) is in
    reads_more SaysLibrary c.args.terms.now c.loop-term.term-index c.term-item.result (map shared_of c.loop-term.libraries.items) (map shared_of c.push.new.self.items) (shared_of c.in_ok-new.field-0)
    c.loop-term-test.true c.term-item.is shared (viewed shared_of _ _ _ c.in_ok-push.ensures.items) c.loop-term.invariant

pub returns-in_default : goal.returns-in_default
returns-in_default c =
    let none : (l : Library) → SaysLibrary (value_of c.term-item.result) l → ⊥ = rw c.in_default.is at c.in_ok-library.ensures in
    reads_none SaysLibrary c.args.terms.now c.loop-term.term-index c.term-item.result (map shared_of c.loop-term.libraries.items) c.loop-term-test.true c.term-item.is none
    c.loop-term.invariant
