use Rattle.std.proofs.Common.{◌≡◌, map, drop}
use Rattle.std.specs.List.{list_any}
use Rattle.rel_list.specs.Event.{event_of}
use Rattle.rel_list.specs.Keyed.{entry_of}
use Rattle.rel_list.specs.Status.{is_one_shot}
use Rattle.rel_records.specs.Record.{Assignment}
use Rattle.rel_records.specs.Writing.{changes}
use Rattle.node_store.proofs.format.changes_to_one_shot.Given as goal

-- none of the releases so far
abbrev pub invariant-loop-listed : goal.invariant-loop-listed
invariant-loop-listed l =
    list_any (λ (a : Assignment). is_one_shot a.status) (changes (event_of l.event) (map entry_of (drop l.listed-index l.releases)))
    ≡ list_any (λ (a : Assignment). is_one_shot a.status) (changes (event_of l.event) (map entry_of l.releases))
