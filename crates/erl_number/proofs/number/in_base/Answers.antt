use Rattle.std.proofs.Common.{◌-◌, arith, rules}
use Rattle.erl_number.specs.Views.{text_bytes}
use Rattle.erl_number.proofs.Numerals.{in_base_whole, in_base_bad}
use Rattle.erl_number.proofs.number.in_base.Goals as goal

pub returns-then-to-end-clause-is : goal.returns-then-to-end-clause-is
returns-then-to-end-clause-is c =
    in_base_whole c.args.start c.args.base (c.args.from - c.args.at) c.args.from c.run_end-end.result c.read_digits-number.result.to c.read_digits-number.result.number
    (c.read_digits-number.result.to - c.args.at) (text_bytes c.args.text) c.if-base-lt2.false c.if-base-gt36.false c.requires.digit c.run_end-end.ensures.end (search rules)
    c.read_digits-number.ensures.to c.read_digits-number.ensures.number c.if-to-end.true (omega (arith, c.requires.onward, c.read_digits-number.ensures.to))

pub returns-else-to-end-clause-is : goal.returns-else-to-end-clause-is
returns-else-to-end-clause-is c =
    in_base_bad c.args.start c.args.base (c.args.from - c.args.at) c.args.from c.run_end-end.result c.read_digits-number.result.to (text_bytes c.args.text)
    c.if-base-lt2.false c.if-base-gt36.false c.requires.digit c.run_end-end.ensures.end (search rules) c.read_digits-number.ensures.to c.if-to-end.false
