use Rattle.std.proofs.Common.{◌≡◌, ◌++◌, map, drop}
use Rattle.std.specs.Option.{option_map}
use Rattle.erl_term.specs.Value.{members_of, value_of}
use Rattle.rel_files.specs.AppParts.{pairs_in}
use Rattle.rel_files.proofs.app_pairs.pairs_in.Given as goal

abbrev pub invariant-loop-item : goal.invariant-loop-item
invariant-loop-item l =
    option_map (λ ps. map (λ p. (value_of p.0.now, value_of p.1.now)) l.pairs.items ++ ps) (pairs_in (members_of (drop l.item-index l.items))) ≡ pairs_in (members_of l.items)
