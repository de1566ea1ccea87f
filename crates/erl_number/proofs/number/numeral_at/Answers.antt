use Rattle.std.proofs.Common.{◌∙◌, ap, sym, arith, rules}
use Rattle.erl_number.specs.Views.{text_bytes}
use Rattle.erl_number.specs.Scanned.{capped_numeral}
use Rattle.erl_number.proofs.TextPlaces.{byte_cut}
use Rattle.erl_number.proofs.Numerals.{numeral_none, numeral_digit, numeral_character, numeral_other, bad_digit}
use Rattle.erl_number.proofs.number.numeral_at.Goals as goal

pub returns-in-End-clause-is : goal.returns-in-End-clause-is
returns-in-End-clause-is c = ap capped_numeral (numeral_none c.args.start c.args.at (text_bytes c.args.text) (sym c.in-End.ensures.byte))

pub returns-then-begins_digit-clause-is : goal.returns-then-begins_digit-clause-is
returns-then-begins_digit-clause-is c =
    c.in_digits.ensures.is ∙ ap capped_numeral (numeral_digit c.args.start c.args.at c.in-Byte.byte (text_bytes c.args.text) (sym c.in-Byte.ensures.byte) (search rules))

pub of_character-requires-clause-cut : goal.of_character-requires-clause-cut
of_character-requires-clause-cut c =
    byte_cut c.args.text.valid.now c.args.text.is_spoilt c.args.at c.in-Byte.byte c.at.ensures.utf8 (sym c.in-Byte.ensures.byte) (omega (arith, c.if-byte-eq36.true))

pub returns-then-byte-eq36-clause-is : goal.returns-then-byte-eq36-clause-is
returns-then-byte-eq36-clause-is c =
    c.of_character.ensures.is ∙ ap capped_numeral (numeral_character c.args.start c.args.at c.in-Byte.byte (text_bytes c.args.text) (sym c.in-Byte.ensures.byte) c.if-byte-eq36.true)

pub returns-else-byte-eq36-clause-is : goal.returns-else-byte-eq36-clause-is
returns-else-byte-eq36-clause-is c =
    ap capped_numeral (numeral_other c.args.start c.args.at c.in-Byte.byte (text_bytes c.args.text) (sym c.in-Byte.ensures.byte) (search rules) c.if-byte-eq36.false)

pub returns-in-NotUtf8-clause-is : goal.returns-in-NotUtf8-clause-is
returns-in-NotUtf8-clause-is c =
    let here = sym c.in-NotUtf8.ensures.byte in
    ap capped_numeral (numeral_other c.args.start c.args.at 256 (text_bytes c.args.text) here (bad_digit 10 c.args.at (text_bytes c.args.text) (omega arith) here) (λ e. omega (arith, e)))
