use Rattle.std.proofs.Common.{map, ◌∙◌, ap, sym}
use Rattle.std.proofs.lemmas.Simd.{map-map}
use Rattle.erl_term.specs.Value.{value_of}
use Rattle.library.specs.InMemory.{library_of}
use Rattle.library.specs.Library.{library_term}
use Rattle.rel_files.proofs.Rows.{made_all}
use Rattle.record_writer.proofs.image.library_terms.Goals as goal

pub returns : goal.returns
returns c =
    made_all (λ k. library_term (library_of k.now)) value_of c.as_slice-libraries.result.now c.loop-library.library-index c.loop-library.terms.items c.loop-library-test.false c.loop-library.invariant
    ∙ sym (map-map library_term (λ k. library_of k.now) c.as_slice-libraries.result.now)
    ∙ ap (λ ls. map library_term (map (λ k. library_of k.now) ls)) c.as_slice-libraries.ensures.value
    ∙ ap (map library_term) c.in_ok-named.ensures
