use Rattle.std.proofs.Common.{◌≡◌, ℤ, get_or, pos, w64, sym, ap, ◌∙◌}
use Rattle.std.proofs.lemmas.Int.{to_z-of_z}
use Rattle.std.proofs.lemmas.List.{get_or_default}
use Rattle.erl_term.specs.declared.term.Term.TheFolds.{fold-roll-Term}
use Rattle.erl_term.specs.declared.term.Term.TheVariants.{Int, rolls-Int}
use Rattle.erl_term.specs.Value.{value_of}
use Rattle.erl_term.specs.Value.Value.{int}
use Rattle.rel_files.proofs.TermRows.{terms_more, terms_all}
use Rattle.rel_files.proofs.terms.text_term.Goals as goal

number : (n : ℤ) → value_of (Int n) ≡ int n
number n = ap value_of (sym (rolls-Int n)) ∙ fold-roll-Term _ _ _

pub loop-byte-preserved : goal.loop-byte-preserved
loop-byte-preserved c =
    terms_more pos int c.as_bytes-bytes.result.now c.loop-byte.byte-index (get_or c.as_bytes-bytes.result.now c.loop-byte.byte-index 0) c.loop-byte.items.items c.push.new.self.items _
    c.loop-byte-test.true (get_or_default _ _ _ _ c.loop-byte-test.true) (number _ ∙ ap int (to_z-of_z w64 c.from.result (record { sfits = c.from.type_inv }) ∙ c.from.ensures)) c.in_ok-push.ensures.items c.loop-byte.invariant

pub returns : goal.returns
returns c = rw (← c.as_bytes-bytes.ensures.value) (terms_all pos int c.as_bytes-bytes.result.now c.loop-byte.byte-index c.loop-byte.items c.loop-byte-test.false c.loop-byte.invariant)
