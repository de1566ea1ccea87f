use Rattle.std.proofs.Common.{◌∙◌, ◌+◌, ◌-◌, ◌*◌, sym, arith}
use Rattle.erl_number.specs.Views.{text_bytes}
use Rattle.erl_number.proofs.EscapeLemmas.{octal_one, octal_two, octal_three}
use Rattle.erl_number.proofs.escape.octal.Goals as goal

pub returns-in_default-clause-is : goal.returns-in_default-clause-is
returns-in_default-clause-is c =
    c.scalar.ensures.is c.args.at ∙ octal_one (text_bytes c.args.text) c.args.at c.args.first _ _ c.requires.first (sym c.in_default.ensures.is) c.from.ensures (omega arith)

pub returns-in_default-digit_at-clause-is : goal.returns-in_default-digit_at-clause-is
returns-in_default-digit_at-clause-is c =
    c.scalar-in_default-digit_at.ensures.is c.args.at
    ∙ octal_two (text_bytes c.args.text) c.args.at c.args.first c.in-Some.second (c.from-in_default-digit_at.result * 8 + c.from-in_default-digit_at-2.result) ((c.args.at + 2) - c.args.at) c.requires.first
    (sym c.in-Some.ensures.is) (sym c.in_default-digit_at.ensures.is) (omega (arith, c.from-in_default-digit_at.ensures, c.from-in_default-digit_at-2.ensures)) (omega arith)

pub returns-clause-is : goal.returns-clause-is
returns-clause-is c =
    c.scalar-2.ensures.is c.args.at
    ∙ octal_three (text_bytes c.args.text) c.args.at c.args.first c.in-Some.second c.in-Some-digit_at.third ((c.from-2.result * 8 + c.from-3.result) * 8 + c.from-4.result) ((c.args.at + 3) - c.args.at) c.requires.first (sym c.in-Some.ensures.is) (sym c.in-Some-digit_at.ensures.is) (omega (arith, c.from-2.ensures, c.from-3.ensures, c.from-4.ensures)) (omega arith)
