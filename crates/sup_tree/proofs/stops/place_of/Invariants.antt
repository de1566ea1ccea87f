use Rattle.std.proofs.Common.{◌≡◌, ◌++◌, map, take, drop}
use Rattle.sup_tree.specs.Tree.{app_of, app_named, without}
use Rattle.sup_tree.proofs.stops.place_of.Given as goal

-- it is none of the applications so far
abbrev pub invariant-loop-place : goal.invariant-loop-place
invariant-loop-place l =
    (app_named l.name (map app_of l.apps) ≡ app_named l.name (map app_of (drop l.place l.apps)))
    × (without l.name (map app_of l.apps) ≡ map app_of (take l.place l.apps) ++ without l.name (map app_of (drop l.place l.apps)))
