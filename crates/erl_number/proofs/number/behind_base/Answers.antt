use Rattle.std.proofs.Common.{◌-◌, ◌∙◌, ap, sym, arith, rules}
use Rattle.erl_number.specs.Views.{text_bytes}
use Rattle.erl_number.specs.Scanned.{capped_numeral}
use Rattle.erl_number.proofs.Numerals.{base_end, base_bad, base_digits, bad_digit}
use Rattle.erl_number.proofs.number.behind_base.Goals as goal

pub returns-in-End-clause-is : goal.returns-in-End-clause-is
returns-in-End-clause-is c = base_end c.args.start c.args.base (c.args.from - c.args.at) c.args.from (text_bytes c.args.text) (sym c.in-End.ensures.byte)

pub returns-then-begins_digit-clause-is : goal.returns-then-begins_digit-clause-is
returns-then-begins_digit-clause-is c =
    c.in_base.ensures.is
    ∙ ap capped_numeral (base_digits c.args.start c.args.base (c.args.from - c.args.at) c.args.from c.in-Byte.field-0 (text_bytes c.args.text) (sym c.in-Byte.ensures.byte) (search rules))

pub returns-else-begins_digit-clause-is : goal.returns-else-begins_digit-clause-is
returns-else-begins_digit-clause-is c =
    base_bad c.args.start c.args.base (c.args.from - c.args.at) c.args.from c.in-Byte.field-0 (text_bytes c.args.text) (sym c.in-Byte.ensures.byte) (search rules)

pub returns-in-NotUtf8-clause-is : goal.returns-in-NotUtf8-clause-is
returns-in-NotUtf8-clause-is c =
    let here = sym c.in-NotUtf8.ensures.byte in
    base_bad c.args.start c.args.base (c.args.from - c.args.at) c.args.from 256 (text_bytes c.args.text) here (bad_digit 36 c.args.from (text_bytes c.args.text) (omega arith) here)
