use Rattle.std.proofs.Common.{◌+◌, ◌-◌, sym, arith, rules}
use Rattle.erl_number.specs.Views.{text_bytes}
use Rattle.erl_number.proofs.EscapeLemmas.{caret_end, caret_letter, caret_other}
use Rattle.erl_number.proofs.escape.caret.Goals as goal

pub returns-in_default-clause-is : goal.returns-in_default-clause-is
returns-in_default-clause-is c = caret_end (text_bytes c.args.text) (c.args.at + 1) (search rules)

pub returns-then-has_control_character-clause-is : goal.returns-then-has_control_character-clause-is
returns-then-has_control_character-clause-is c =
    caret_letter (text_bytes c.args.text) (c.args.at + 1) c.in-Some.byte c.from.result ((c.args.at + 2) - c.args.at) (sym c.in-Some.ensures.is) (search rules) (search rules) (omega arith)

pub returns-else-has_control_character-clause-is : goal.returns-else-has_control_character-clause-is
returns-else-has_control_character-clause-is c = caret_other (text_bytes c.args.text) (c.args.at + 1) c.in-Some.byte (sym c.in-Some.ensures.is) (search rules)
