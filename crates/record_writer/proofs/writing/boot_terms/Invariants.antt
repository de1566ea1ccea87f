use Rattle.std.proofs.Common.{◌≡◌, map, take}
use Rattle.erl_term.specs.Value.{value_of}
use Rattle.rel_list.specs.Event.{list_restarted}
use Rattle.rel_list.specs.Event.Event.{boot}
use Rattle.rel_list.specs.Keyed.{entry_of}
use Rattle.rel_records.specs.Record.{assignment_term}
use Rattle.rel_records.specs.Writing.{changes}
use Rattle.record_writer.proofs.writing.boot_terms.Given as goal

-- the statuses that change among the releases so far
abbrev pub invariant-loop-listed : goal.invariant-loop-listed
invariant-loop-listed l = map value_of l.terms.items ≡ map assignment_term (changes boot (list_restarted l.vsn (map entry_of (take l.listed-index l.releases))))
