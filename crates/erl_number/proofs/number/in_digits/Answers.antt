use Rattle.std.proofs.Common.{◌∙◌, true, ap, drop, rules}
use Rattle.erl_number.specs.Views.{text_bytes}
use Rattle.erl_number.specs.Scanned.{digits_here, capped_numeral}
use Rattle.erl_number.proofs.Numerals.{row_here, digits_base, digits_float, digits_whole}
use Rattle.erl_number.proofs.number.in_digits.Goals as goal

pub returns-then-is_byte-clause-is : goal.returns-then-is_byte-clause-is
returns-then-is_byte-clause-is c =
    let row = row_here c.args.start c.args.at c.read_digits-number.result.to (text_bytes c.args.text) c.requires.digit c.read_digits-number.ensures.to in
    c.behind_base.ensures.is
    ∙ ap capped_numeral (digits_base c.args.start c.args.at c.read_digits-number.result.to c.read_digits-number.result.number (text_bytes c.args.text)
    (digits_here true 10 (drop c.args.at (text_bytes c.args.text))) row c.if-is_byte.ensures.is c.read_digits-number.ensures.number)

pub returns-then-is_float-clause-is : goal.returns-then-is_float-clause-is
returns-then-is_float-clause-is c =
    let row = row_here c.args.start c.args.at c.read_digits-number.result.to (text_bytes c.args.text) c.requires.digit c.read_digits-number.ensures.to in
    digits_float c.args.start c.args.at c.read_digits-number.result.to (text_bytes c.args.text) (digits_here true 10 (drop c.args.at (text_bytes c.args.text))) row c.if-is_byte.ensures.is (search rules)

pub returns-clause-is : goal.returns-clause-is
returns-clause-is c =
    let row = row_here c.args.start c.args.at c.read_digits-number.result.to (text_bytes c.args.text) c.requires.digit c.read_digits-number.ensures.to in
    digits_whole c.args.start c.args.at c.read_digits-number.result.to c.read_digits-number.result.number (text_bytes c.args.text) (digits_here true 10 (drop c.args.at (text_bytes c.args.text)))
    row c.if-is_byte.ensures.is (search rules) c.read_digits-number.ensures.number
