use Rattle.std.proofs.Common.{◌≡◌, ◌++◌, map}
use Rattle.std.specs.BTreeMap.{keys}
use Rattle.node_upgrade.proofs.stale.names_of.Given as goal

-- the names so far, and after them what is left of the map
abbrev pub invariant-loop-name : goal.invariant-loop-name
invariant-loop-name l = l.names.items ++ map (λ n. n.now) l.name-iterator ≡ map (λ n. n.now) (keys l.noted)
