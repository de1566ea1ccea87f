use Rattle.std.proofs.Common.{ap, ◌∙◌}
use Rattle.erl_term.specs.Value.{members_of}
use Rattle.relup_row.proofs.copies.copy_call.Goals as goal

pub returns : goal.returns
returns c = λ j. record { name = c.in_ok-clone.ensures.cases j; function = c.in_ok-clone-2.ensures.cases j; args = (c.in_ok-copy_terms.ensures ∙ ap members_of c.deref.ensures.value) j }
