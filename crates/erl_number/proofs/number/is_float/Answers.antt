use Rattle.std.proofs.Common.{sym, arith}
use Rattle.std.proofs.lemmas.Bool.Decides.{nat_tests}
use Rattle.erl_number.specs.Views.{text_bytes}
use Rattle.erl_number.proofs.Numerals.{float_some, float_there}
use Rattle.erl_number.proofs.number.is_float.Goals as goal

pub returns-in-NotUtf8 : goal.returns-in-NotUtf8
returns-in-NotUtf8 c = sym (float_there c.args.at (text_bytes c.args.text) c.at.result c.in-NotUtf8.is c.at.ensures.byte)

pub returns-then-byte-eq46 : goal.returns-then-byte-eq46
returns-then-byte-eq46 c = grind (arith, nat_tests, float_some c.args.at c.in-Byte.byte (text_bytes c.args.text) (sym c.in-Byte.ensures.byte), c.if-byte-eq46.true)

pub returns-else-byte-eq46 : goal.returns-else-byte-eq46
returns-else-byte-eq46 c = grind (arith, nat_tests, float_some c.args.at c.in-Byte.byte (text_bytes c.args.text) (sym c.in-Byte.ensures.byte), c.if-byte-eq46.false)
