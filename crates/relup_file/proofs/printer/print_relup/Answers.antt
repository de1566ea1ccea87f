use Rattle.std.proofs.Common.{string_bytes}
use Rattle.relup_file.specs.Relup.{relup_of}
use Rattle.relup_file.specs.Form.{relup_term}
use Rattle.relup_file.proofs.Printed.{read_back}
use Rattle.relup_file.proofs.RelupLemmas.{is_said}
use Rattle.relup_file.proofs.printer.print_relup.Goals as goal

pub returns-clause-reads_back : goal.returns-clause-reads_back
returns-clause-reads_back c = λ is within. (
  relup_term (relup_of c.args.relup.now),
  read_back 64 (string_bytes c.push_str.new.self) (string_bytes c.in_ok-text.text) _ _ c.in_ok-term.ensures within (c.in_ok-text.ensures.reads_back 64) c.in_ok-push_str.ensures.bytes,
  is_said (relup_of c.args.relup.now) is,
)
