use Rattle.std.proofs.Common.{◌+◌, ◌∙◌, sym, ap, subst, arith}
use Rattle.erl_number.specs.Views.{text_bytes}
use Rattle.erl_token.specs.Views.{like_value}
use Rattle.erl_token.specs.Scanned.{IsSpelled}
use Rattle.erl_token.proofs.Parts.{doubled_cut, doubled_same, doubled_other, spelled_item}
use Rattle.erl_token.proofs.lexer.doubled.Goals as goal

pub returns-in-End : goal.returns-in-End
returns-in-End c =
    let is = doubled_cut (like_value c.args.like) c.args.byte (text_bytes c.args.text) (c.args.at + 1) (sym c.in-End.ensures.byte) in
    subst (λ s. IsSpelled s c.args.at c.alone.result) (sym is) c.alone.ensures

pub returns-then-next-byte : goal.returns-then-next-byte
returns-then-next-byte c =
    let is = doubled_same (like_value c.args.like) c.args.byte (text_bytes c.args.text) (c.args.at + 1) c.in-Byte.next (sym c.in-Byte.ensures.byte) c.if-next-byte.true in
    ((λ j. record { token = c.binary_bracket.ensures j; from = c.args.at; to = c.args.at + 2 }) ∙ ap (λ s. spelled_item s c.args.at) (sym is), (omega arith))

pub returns-else-next-byte : goal.returns-else-next-byte
returns-else-next-byte c =
    let is = doubled_other (like_value c.args.like) c.args.byte (text_bytes c.args.text) (c.args.at + 1) c.in-Byte.next (sym c.in-Byte.ensures.byte) c.if-next-byte.false in
    subst (λ s. IsSpelled s c.args.at c.alone-else-next-byte.result) (sym is) c.alone-else-next-byte.ensures

pub returns-in-NotUtf8 : goal.returns-in-NotUtf8
returns-in-NotUtf8 c =
    let is = doubled_other (like_value c.args.like) c.args.byte (text_bytes c.args.text) (c.args.at + 1) 256 (sym c.in-NotUtf8.ensures.byte) (λ e. omega (arith, e)) in
    subst (λ s. IsSpelled s c.args.at c.alone-in-NotUtf8.result) (sym is) c.alone-in-NotUtf8.ensures
