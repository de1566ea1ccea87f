use Rattle.std.proofs.Common.{rules, ◌∙◌}
use Rattle.session_input.proofs.InputWords.{parsed_input}
use Rattle.session_input.proofs.parsed_line.input_of.Goals as goal

pub returns-then-are_digits : goal.returns-then-are_digits
returns-then-are_digits c = c.ok.ensures.value ∙ parsed_input c.args.word.now c.parse.result (search rules) c.parse.ensures.value.0
