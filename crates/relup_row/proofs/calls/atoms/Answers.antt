use Rattle.std.proofs.Common.{◌≡◌, ℕ, List, [], Bor, get_or, string_bytes, sym, ap, ◌∙◌}
use Rattle.std.proofs.lemmas.List.{get_or_default}
use Rattle.erl_term.specs.declared.term.Term.TheFolds.{fold-roll-Term}
use Rattle.erl_term.specs.declared.term.Term.TheVariants as variant
use Rattle.erl_term.specs.Value.{value_of}
use Rattle.erl_term.specs.Value.Value.{atom}
use Rattle.relup_row.proofs.WalkLemmas.{one_made, all_made}
use Rattle.relup_row.proofs.calls.atoms.Goals as goal

pub loop-word-preserved : goal.loop-word-preserved
loop-word-preserved c =
    let words = c.args.words.now in
    let i = c.loop-word.word-index in
    let text = c.in_ok-from_str.field-0 in
    let none : Bor (List ℕ) = record { ref_ptr = (0, 0); now = [] } in
    let word = get_or words i none in
    let is : value_of (variant.Atom text) ≡ atom (string_bytes text) = ap value_of (sym (variant.rolls-Atom text)) ∙ fold-roll-Term _ _ _ in
    one_made value_of (λ (w : Bor (List ℕ)). atom w.now) words i word c.loop-word.atoms.items c.push.new.self.items _ c.loop-word-test.true
    (get_or_default words i none word c.loop-word-test.true) (is ∙ ap atom c.in_ok-from_str.ensures.ok) c.in_ok-push.ensures.items c.loop-word.invariant

pub returns : goal.returns
returns c = all_made value_of (λ (w : Bor (List ℕ)). atom w.now) c.args.words.now c.loop-word.word-index c.loop-word.atoms.items c.loop-word-test.false c.loop-word.invariant
