use Rattle.std.proofs.Common.{sym, arith, rules}
use Rattle.std.proofs.lemmas.Bool.Decides.{nat_tests}
use Rattle.erl_number.specs.Views.{text_bytes}
use Rattle.erl_token.proofs.Lexemes.{ends_some, ends_none}
use Rattle.erl_token.proofs.lexer.ends_term.Goals as goal

pub returns-then-byte-le32 : goal.returns-then-byte-le32
returns-then-byte-le32 c = grind (arith, nat_tests, ends_some (text_bytes c.args.text) c.args.at c.in-Byte.byte (search rules), c.if-byte-le32.true)

pub returns-else-byte-le32 : goal.returns-else-byte-le32
returns-else-byte-le32 c = grind (arith, nat_tests, ends_some (text_bytes c.args.text) c.args.at c.in-Byte.byte (search rules), c.if-byte-le32.false)

pub returns-in-NotUtf8 : goal.returns-in-NotUtf8
returns-in-NotUtf8 c = sym (ends_some (text_bytes c.args.text) c.args.at 256 (sym c.in-NotUtf8.ensures.byte))

pub returns-in-End : goal.returns-in-End
returns-in-End c = sym (ends_none (text_bytes c.args.text) c.args.at (search rules))
