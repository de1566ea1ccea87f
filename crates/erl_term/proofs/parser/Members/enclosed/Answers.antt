use Rattle.std.proofs.Common.{ap, sym, ◌∙◌}
use Rattle.erl_term.specs.declared.term.Term.TheVariants.{rolls-Tuple}
use Rattle.erl_term.specs.declared.term.Term.TheFolds.{fold-roll-Term}
use Rattle.erl_term.specs.Value.{value_of}
use Rattle.erl_term.specs.Machine.{enclosed}
use Rattle.erl_term.specs.Views.{members_are}
use Rattle.erl_term.proofs.parser.Members.enclosed.Goals as goal

pub returns-in-Tuple : goal.returns-in-Tuple
returns-in-Tuple c = ap value_of (sym (rolls-Tuple c.in-Tuple.members)) ∙ fold-roll-Term _ _ _ ∙ ap (λ m. enclosed (members_are m)) (sym c.in-Tuple.is)
