use Rattle.std.proofs.Common.{sym}
use Rattle.erl_number.specs.Views.{text_bytes}
use Rattle.erl_number.proofs.Numerals.{ended_there, ended_none}
use Rattle.erl_number.proofs.number.ended.Goals as goal

pub returns-in_default-clause-is : goal.returns-in_default-clause-is
returns-in_default-clause-is c = λ from. ended_there c.args.at c.run_end-end.result (text_bytes c.args.text) c.at.result c.in_default.not-End c.run_end-end.ensures.end c.at.ensures.byte

pub returns-in-End-clause-is : goal.returns-in-End-clause-is
returns-in-End-clause-is c = λ from. ended_none c.args.at c.run_end-end.result (text_bytes c.args.text) c.run_end-end.ensures.end (sym c.in-End.ensures.byte)
