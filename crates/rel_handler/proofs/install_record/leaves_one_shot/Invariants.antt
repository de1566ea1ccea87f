use Rattle.std.proofs.Common.{◌≡◌, map, drop}
use Rattle.rel_list.specs.Event.{list_restarted}
use Rattle.rel_list.specs.Keyed.{entry_of}
use Rattle.rel_list.specs.Releases.{has_one_shot}
use Rattle.rel_handler.proofs.install_record.leaves_one_shot.Given as goal

-- none of the releases so far
abbrev pub invariant-loop-listed : goal.invariant-loop-listed
invariant-loop-listed l =
    has_one_shot (list_restarted l.vsn (map entry_of (drop l.listed-index l.releases)))
    ≡ has_one_shot (list_restarted l.vsn (map entry_of l.releases))
