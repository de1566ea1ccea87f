use Rattle.std.proofs.Common.{◌≡◌, ℕ, ◌+◌, ◌*◌, length, map, drop}
use Rattle.std.specs.List.{flat_map}
use Rattle.mod_table.specs.InMemory.{child_of}
use Rattle.mod_table.specs.Tables.{first_of}
use Rattle.app_members.specs.InMemory.{AreCounted, counted}
use Rattle.loaded_modules.specs.Loaded.{modules_in, tables_of}
use Rattle.app_members.specs.Walk.{fault_from, members_from}
use Rattle.app_members.proofs.walk.+counts.Given as goal

abbrev pub decreases-count_children : goal.decreases-count_children
decreases-count_children l = 2 * l.left

abbrev pub decreases-count_child : goal.decreases-count_child
decreases-count_child l = 2 * l.left + 1

-- what is left has the first fault of all, and completes what was counted
abbrev pub invariant-count_children-loop-child : goal.invariant-count_children-loop-child
invariant-count_children-loop-child l =
    let tables = tables_of (modules_in l.loaded) in
    let fault = fault_from l.below tables in record {
      noted : AreCounted tables l.noted;
      fits : l.count ≡ counted l.count;
      fault : first_of fault (map child_of (drop l.child-index l.children)) ≡ first_of fault (map child_of l.children);
      counts : (depth : ℕ) → counted (l.count + length (flat_map (members_from l.below tables depth) (map child_of (drop l.child-index l.children))))
          ≡ counted (length (flat_map (members_from l.below tables depth) (map child_of l.children)));
    }
