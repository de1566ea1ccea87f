use Rattle.std.proofs.Common.{◌≡◌, map, take}
use Rattle.erl_term.specs.Value.{value_of}
use Rattle.relup_file.specs.Relup.{entry_of}
use Rattle.relup_file.specs.Form.{entry_term}
use Rattle.relup_file.proofs.printer.entries_term.Given as goal

abbrev pub invariant-loop-entry : goal.invariant-loop-entry
invariant-loop-entry l = map value_of l.terms.items ≡ map entry_term (map entry_of (take l.entry-index l.entries))
