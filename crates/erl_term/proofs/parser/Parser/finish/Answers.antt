use Rattle.std.proofs.Common.{ap}
use Rattle.erl_term.specs.Machine.{at_end}
use Rattle.erl_term.specs.Views.{progress_of, state_of}
use Rattle.erl_term.proofs.parser.Parser.finish.Goals as goal

pub returns-in-Whole : goal.returns-in-Whole
returns-in-Whole c = ap (λ s. at_end c.args.size (progress_of c.args.self).done (state_of s)) c.in-Whole.is

pub returns-in-Inside : goal.returns-in-Inside
returns-in-Inside c = ap (λ s. at_end c.args.size (progress_of c.args.self).done (state_of s)) c.in-Inside.is
