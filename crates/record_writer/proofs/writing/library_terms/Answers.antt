use Rattle.std.proofs.Common.{◌∙◌, sym, ap}
use Rattle.std.proofs.lemmas.Simd.{map-map}
use Rattle.erl_term.specs.Value.{value_of}
use Rattle.library.specs.InMemory.{library_of, shared_of}
use Rattle.library.specs.Library.{library_term}
use Rattle.rel_files.proofs.Rows.{made_more, made_all}
use Rattle.record_writer.proofs.writing.library_terms.Goals as goal

pub loop-library-preserved : goal.loop-library-preserved
loop-library-preserved c =
    made_more (λ x. library_term (shared_of x)) value_of c.args.libraries.now c.loop-library.library-index c.library-item.result c.loop-library.terms.items c.push.new.self.items _
    c.loop-library-test.true c.library-item.is (c.in_ok-term.ensures ∙ ap (λ l. library_term (library_of l)) c.as_ref.ensures) c.in_ok-push.ensures.items c.loop-library.invariant

pub returns : goal.returns
returns c =
    made_all (λ x. library_term (shared_of x)) value_of c.args.libraries.now c.loop-library.library-index c.loop-library.terms.items c.loop-library-test.false c.loop-library.invariant
    ∙ sym (map-map library_term shared_of c.args.libraries.now)
