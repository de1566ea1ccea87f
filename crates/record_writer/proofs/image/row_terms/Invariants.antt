use Rattle.std.proofs.Common.{◌≡◌, map, take}
use Rattle.erl_term.specs.Value.{value_of}
use Rattle.rel_list.specs.Keyed.{entry_of}
use Rattle.rel_records.specs.Image.{recorded_row}
use Rattle.record_writer.proofs.image.row_terms.Given as goal

-- the terms of the releases so far
abbrev pub invariant-loop-listed : goal.invariant-loop-listed
invariant-loop-listed l = map value_of l.terms.items ≡ map (λ x. recorded_row (entry_of x)) (take l.listed-index l.releases)
