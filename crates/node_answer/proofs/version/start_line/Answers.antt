use Rattle.std.proofs.Common.{string_bytes}
use Rattle.node_answer.proofs.LineLemmas.{reports_versions}
use Rattle.node_answer.proofs.version.start_line.Goals as goal

pub returns : goal.returns
returns c =
    let start = c.args.start.now in
    reports_versions c.format.result (string_bytes start.erts) (string_bytes start.vsn) (rw (c.as_str-erts.ensures.value, c.as_str-vsn.ensures.value) at c.format.ensures.ok)
