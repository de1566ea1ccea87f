use Rattle.std.proofs.Common.{◌∙◌, sym, rules}
use Rattle.erl_number.specs.Views.{text_bytes}
use Rattle.erl_number.proofs.EscapeLemmas.{hexadecimal_end, hexadecimal_brace, hexadecimal_pair, hexadecimal_other}
use Rattle.erl_number.proofs.escape.hexadecimal.Goals as goal

pub returns-in-Some-eq123-clause-is : goal.returns-in-Some-eq123-clause-is
returns-in-Some-eq123-clause-is c = c.braced.ensures.is ∙ hexadecimal_brace (text_bytes c.args.text) c.args.at c.in-Some-eq123.field-0 (sym c.in-Some-eq123.ensures.is) c.in-Some-eq123.field-0-test

pub returns-in-Some-digit_at-clause-is : goal.returns-in-Some-digit_at-clause-is
returns-in-Some-digit_at-clause-is c =
    c.paired.ensures.is ∙ hexadecimal_pair (text_bytes c.args.text) c.args.at c.in-Some.field-0 c.in-Some-digit_at.first (sym c.in-Some.ensures.is) (sym c.in-Some-digit_at.ensures.is)

pub returns-in-None-digit_at-clause-is : goal.returns-in-None-digit_at-clause-is
returns-in-None-digit_at-clause-is c = hexadecimal_other (text_bytes c.args.text) c.args.at c.in-Some.field-0 (sym c.in-Some.ensures.is) (search rules) (sym c.in-None-digit_at.ensures.is)

pub returns-in-None-clause-is : goal.returns-in-None-clause-is
returns-in-None-clause-is c = hexadecimal_end (text_bytes c.args.text) c.args.at (sym c.in-None.ensures.is)
