use Rattle.std.proofs.Common.{◌≡◌, map, take}
use Rattle.erl_term.specs.Value.{value_of}
use Rattle.erl_term.proofs.clone.+copying.Given as goal

abbrev pub invariant-copy_terms-loop-item : goal.invariant-copy_terms-loop-item
invariant-copy_terms-loop-item l = map value_of l.copied.items ≡ map value_of (take l.item-index l.items)
