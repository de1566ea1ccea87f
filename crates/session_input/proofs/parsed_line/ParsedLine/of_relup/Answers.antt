use Rattle.std.proofs.Common.{rules, tests}
use Rattle.std.proofs.lemmas.Result.{IfOk-from_err}
use Rattle.session_input.proofs.ParsedLines.{few_words, three_words, many_words}
use Rattle.session_input.proofs.parsed_line.ParsedLine.of_relup.Goals.{in_default-via-then-words-lt3, in_default-via-else-words-lt3+else-words-lt4}
use Rattle.session_input.proofs.parsed_line.ParsedLine.of_relup.Goals as goal

pub returns-in_err-relup_in-in-len3 : goal.returns-in_err-relup_in-in-len3
returns-in_err-relup_in-in-len3 c = IfOk-from_err c.from_residual.result _ c.from_residual.ensures.0

pub returns-in_ok-relup_in-in-len3 : goal.returns-in_ok-relup_in-in-len3
returns-in_ok-relup_in-in-len3 c =
    three_words c.args.words.now _ _ _ _ c.in-len3.len_at_least c.in-len3.len_below c.in_ok-relup_in-in-len3.ensures

pub returns-in_default : goal.returns-in_default
returns-in_default c = elim c.in_default.branch [
  | in_default-via-then-words-lt3 w ↦ few_words c.args.words.now (search (tests, rules))
  | in_default-via-else-words-lt3+else-words-lt4 w ↦ many_words c.args.words.now (search (tests, rules))
]
