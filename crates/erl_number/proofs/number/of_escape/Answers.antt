use Rattle.std.proofs.Common.{◌+◌, ◌-◌, ◌∙◌, arith, rules}
use Rattle.erl_number.specs.Views.{text_bytes}
use Rattle.erl_number.proofs.Numerals.{escape_means, escape_senseless, escape_unfinished}
use Rattle.erl_number.proofs.number.of_escape.Goals as goal

pub returns-in-Means-clause-is : goal.returns-in-Means-clause-is
returns-in-Means-clause-is c =
    escape_means (c.args.at + 1) (c.args.at + 2) c.in-Means.character (c.in-Means.to - (c.args.at + 2)) c.from.result (c.in-Means.to - c.args.at) (text_bytes c.args.text) c.requires.stands
    (omega arith) c.in-Means.ensures.is (search rules) c.from.ensures (omega (arith, c.in-Means.ensures.ends.0))

pub returns-in-Senseless-clause-is : goal.returns-in-Senseless-clause-is
returns-in-Senseless-clause-is c = escape_senseless (c.args.at + 1) (c.args.at + 2) (text_bytes c.args.text) c.requires.stands (omega arith) c.in-Senseless.ensures.is

pub returns-in-Unfinished-clause-is : goal.returns-in-Unfinished-clause-is
returns-in-Unfinished-clause-is c =
    c.ended.ensures.is c.args.at ∙ escape_unfinished (c.args.at + 1) (c.args.at + 2) (text_bytes c.args.text) c.requires.stands (omega arith) c.in-Unfinished.ensures.is

pub returns-in-Unfinished-clause-ends : goal.returns-in-Unfinished-clause-ends
returns-in-Unfinished-clause-ends c = c.ended.ensures.ends c.args.at
