use Rattle.std.proofs.Common.{sym, ◌∙◌}
use Rattle.erl_term.specs.Value.{value_of}
use Rattle.record_writer.proofs.DepthLemmas.{within_back, within_so}
use Rattle.record_writer.proofs.depth.can_be_read_back.Goals as goal

pub returns-clause-within : goal.returns-clause-within
returns-clause-within c = (
  λ is. within_so (value_of c.args.term.now) c.args.limit (sym c.is_within.ensures ∙ is),
  λ within. c.is_within.ensures ∙ within_back (value_of c.args.term.now) c.args.limit within,
)
