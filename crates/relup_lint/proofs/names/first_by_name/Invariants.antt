use Rattle.std.proofs.Common.{◌≡◌, ℕ, List, take}
use Rattle.relup_lint.specs.Names.{first_under, found_under}
use Rattle.relup_lint.proofs.names.first_by_name.Given as goal

-- the first of each name among the rows so far
abbrev pub invariant-loop-name : goal.invariant-loop-name
invariant-loop-name g l = (wanted : List ℕ) → found_under wanted l.first ≡ first_under wanted (take l.name-index l.rows)
