use Rattle.std.proofs.Common.{string_bytes}
use Rattle.record_writer.proofs.Within.{read_back}
use Rattle.record_writer.proofs.writing.body_of.Goals as goal

pub returns-clause-read_back : goal.returns-clause-read_back
returns-clause-read_back c = λ within.
    read_back 72 (string_bytes c.push_str.new.self) (string_bytes c.in_ok-body.body) _ within (c.in_ok-body.ensures.reads_back 72) c.in_ok-push_str.ensures.bytes
