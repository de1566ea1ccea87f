use Rattle.std.proofs.Common.{string_bytes, rules}
use Rattle.relup_file.specs.Search.{found_of}
use Rattle.node_answer.proofs.LineLemmas.{reports_found}
use Rattle.node_answer.proofs.script.found_line.Goals as goal

pub returns : goal.returns
returns c =
    reports_found c.format.result (string_bytes c.in_ok-other-2.other) (string_bytes c.in_ok-descr.descr) (found_of c.args.found.now) c.format.ensures.ok (search rules) c.in_ok-descr.ensures.printed
