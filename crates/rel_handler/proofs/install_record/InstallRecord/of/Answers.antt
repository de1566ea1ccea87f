use Rattle.std.proofs.Common.{length, string_bytes, ap, subst, ◌∙◌}
use Rattle.node_command.specs.Taking.{change_size, no_terms}
use Rattle.node_store.specs.Commits.{IsRecordFor}
use Rattle.rel_handler.proofs.install_record.InstallRecord.of.Goals as goal

pub returns-clause-reported : goal.returns-clause-reported
returns-clause-reported c =
    subst (λ e. IsRecordFor (string_bytes c.in_ok-body.body) e c.args.list.now) c.in_ok-event.ensures (record { spells = c.in_ok-body.ensures.spells; reports = c.in_ok-body.ensures.reports })

pub returns-clause-size : goal.returns-clause-size
unfolding change_size
returns-clause-size c = ap length (c.in_ok-body.ensures.body no_terms) ∙ ap (λ e. change_size e c.args.list.now) c.in_ok-event.ensures
