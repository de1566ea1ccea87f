use Rattle.std.proofs.Common.{sym, ◌∙◌}
use Rattle.rel_list.specs.Event.{event_of}
use Rattle.rel_records.proofs.FormatLemmas.{only_restarts_write_them}
use Rattle.node_store.proofs.format.writes_one_shot.Goals as goal

-- no restart
pub returns-else-makes_one_shot : goal.returns-else-makes_one_shot
returns-else-makes_one_shot c =
    let none = c.if-makes_one_shot.false in
    none ∙ sym (only_restarts_write_them (event_of c.args.event.now) c.args.list.now (sym c.makes_one_shot.ensures ∙ none))
