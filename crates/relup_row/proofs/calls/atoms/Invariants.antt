use Rattle.std.proofs.Common.{◌≡◌, map, take}
use Rattle.erl_term.specs.Value.{value_of}
use Rattle.erl_term.specs.Value.Value.{atom}
use Rattle.relup_row.proofs.calls.atoms.Given as goal

abbrev pub invariant-loop-word : goal.invariant-loop-word
invariant-loop-word l = map value_of l.atoms.items ≡ map (λ w. atom w.now) (take l.word-index l.words)
