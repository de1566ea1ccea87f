use Rattle.std.proofs.Common.{◌≡◌, map, drop}
use Rattle.erl_term.specs.Value.{value_of}
use Rattle.rel_files.specs.AppParts.{value_at}
use Rattle.rel_files.proofs.app_pairs.value_at.Given as goal

abbrev pub invariant-loop-name : goal.invariant-loop-name
invariant-loop-name l =
    value_at l.key (map (λ p. (value_of p.0.now, value_of p.1.now)) (drop l.name-index l.pairs)) ≡ value_at l.key (map (λ p. (value_of p.0.now, value_of p.1.now)) l.pairs)
