use Rattle.std.proofs.Common.{subst}
use Rattle.start_record.specs.Text.{SpellsStart}
use Rattle.start_record.proofs.SpellingLemmas.{spells_one}
use Rattle.node_store.specs.State.{start_in}
use Rattle.rel_handler.proofs.booting.starts.Goals as goal

pub returns-in-Err-BadStart-clause-value : goal.returns-in-Err-BadStart-clause-value
returns-in-Err-BadStart-clause-value g c = (λ is. cc is, λ spells. absurd ((rw c.in-Err-BadStart.field-0-is at c.in-Err-BadStart.ensures.refused).0 _ spells))

pub returns-in-Ok-clause-value : goal.returns-in-Ok-clause-value
returns-in-Ok-clause-value g c =
    let slot = start_in g.D.Disk.seen c.args.node.now in
    (λ is. subst (SpellsStart slot) (c.is_same.ensures.0 is) c.in-Ok.ensures.read, λ spells. c.is_same.ensures.1 (spells_one slot _ _ c.in-Ok.ensures.read spells))
