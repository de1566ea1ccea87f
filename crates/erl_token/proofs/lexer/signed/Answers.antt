use Rattle.std.proofs.Common.{◌≡◌, ◌+◌, ◌-◌, length, drop, subst, nat_le, sym, ap, ◌∙◌, arith}
use Rattle.std.proofs.lemmas.List.{drop-drop}
use Rattle.erl_number.specs.Escapes.{leading}
use Rattle.erl_token.specs.Lexing.{numbered, signed, sign_of}
use Rattle.erl_number.specs.Numbers.{numeral}
use Rattle.erl_number.specs.Views.{text_bytes}
use Rattle.erl_token.specs.Scanned.{IsSpelled}
use Rattle.erl_token.proofs.lexer.signed.Goals as goal

pub returns : goal.returns
returns c =
    let bytes = text_bytes c.args.text in
    let blanks = length (leading (λ y. nat_le y 32) (drop (c.args.at + 1) (text_bytes c.args.text))) in
    let from = c.run_end-from.result in
    let end : from ≡ (c.args.at + 1) + blanks = c.run_end-from.ensures.end in
    let size : from - c.args.at ≡ blanks + 1 = omega arith in
    let behind : drop from bytes ≡ drop blanks (drop (c.args.at + 1) bytes) = ap (λ p. drop p bytes) end ∙ sym (drop-drop blanks (c.args.at + 1) bytes) in
    let is : numbered c.args.at (sign_of c.args.byte) (from - c.args.at) (numeral c.args.at from (drop from bytes)) ≡ signed c.args.at c.args.byte (drop (c.args.at + 1) bytes) =
    λ j. numbered c.args.at (sign_of c.args.byte) (size j) (numeral c.args.at (end j) (behind j)) in
    subst (λ s. IsSpelled s c.args.at c.numbered.result) is
    (c.numbered.ensures (numeral c.args.at from (drop from bytes)) from (omega arith) c.numeral_at.ensures.ends c.numeral_at.ensures.is)
