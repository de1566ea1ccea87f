use Rattle.std.proofs.Common.{ap, ◌∙◌}
use Rattle.proc_workers.specs.Hands.{next_hand, with_end_made}
use Rattle.proc_workers.proofs.HandLemmas.{begins, forks, nothing_waits}
use Rattle.proc_workers.proofs.mail.mailbox.Goals as goal

pub bounded_with-requires-clause-rule : goal.bounded_with-requires-clause-rule
bounded_with-requires-clause-rule c = begins

pub another-adding-requires-clause-rule : goal.another-adding-requires-clause-rule
another-adding-requires-clause-rule c = forks _ _

pub returns-clause-empty : goal.returns-clause-empty
returns-clause-empty c =
    let first = c.in_ok-sending.ensures.3 in
    let made = c.another-adding.ensures.rule in
    nothing_waits _ _ (made.0 ∙ ap with_end_made first) (made.1 ∙ ap next_hand first)
