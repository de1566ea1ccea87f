use Rattle.std.proofs.Common.{◌+◌, ◌-◌, get_or, sym, arith, rules}
use Rattle.erl_number.specs.Views.{text_bytes}
use Rattle.erl_number.proofs.EscapeLemmas.{paired_end, paired_digit, paired_other}
use Rattle.erl_number.proofs.escape.paired.Goals as goal

pub returns-in_default-clause-is : goal.returns-in_default-clause-is
returns-in_default-clause-is c = paired_end (text_bytes c.args.text) (c.args.at + 2) (get_or (text_bytes c.args.text) (c.args.at + 1) 0) (sym c.in_default.ensures.is)

pub returns-in-Some-digit_at-clause-is : goal.returns-in-Some-digit_at-clause-is
returns-in-Some-digit_at-clause-is c =
    paired_digit (text_bytes c.args.text) (c.args.at + 2) (c.args.at + 1) c.args.first c.in-Some-digit_at.second c.from.result ((c.args.at + 3) - c.args.at) c.requires.first
    (sym c.in-Some-digit_at.ensures.is) (search rules) (omega arith)

pub returns-in-None-clause-is : goal.returns-in-None-clause-is
returns-in-None-clause-is c =
    paired_other (text_bytes c.args.text) (c.args.at + 2) (get_or (text_bytes c.args.text) (c.args.at + 1) 0) _ (sym c.in-Some.ensures.is) (sym c.in-None.ensures.is)
