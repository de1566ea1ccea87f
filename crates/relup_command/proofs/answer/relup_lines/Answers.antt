use Rattle.std.proofs.Common.{string_bytes}
use Rattle.relup_command.proofs.answer.relup_lines.Goals as goal

pub returns-clause-read_back : goal.returns-clause-read_back
returns-clause-read_back c = λ is within. record {
  file = string_bytes c.in_ok-text.text;
  is = c.in_ok-push_str.ensures.bytes;
  says = c.in_ok-text.ensures.reads_back is within;
}
