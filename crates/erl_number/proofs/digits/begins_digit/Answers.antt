use Rattle.std.proofs.Common.{rules}
use Rattle.erl_number.specs.Views.{text_bytes}
use Rattle.erl_number.proofs.DigitRows.{begins-digit}
use Rattle.erl_number.proofs.digits.begins_digit.Goals as goal

pub returns : goal.returns
returns c = search (rules, begins-digit c.args.base (text_bytes c.args.text) c.args.at)
