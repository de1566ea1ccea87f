use Rattle.std.proofs.Common.{◌≡◌, ◌≤◌, ◌+◌, ◌*◌, ◌++◌, map, drop, length, vec_capacity}
use Rattle.std.specs.List.{flat_map}
use Rattle.mod_table.specs.InMemory.{child_of}
use Rattle.app_members.specs.InMemory.{new_members_of}
use Rattle.loaded_modules.specs.Loaded.{modules_in, tables_of}
use Rattle.app_members.specs.Walk.{members_from}
use Rattle.app_members.proofs.walk.+gathers.Given as goal

abbrev pub decreases-add_children : goal.decreases-add_children
decreases-add_children l = 3 * l.left

abbrev pub decreases-add_member : goal.decreases-add_member
decreases-add_member l = 3 * l.left + 1

abbrev pub decreases-add_child : goal.decreases-add_child
decreases-add_child l = 3 * l.left + 2

-- what is left completes what was added, and there is room for it
abbrev pub invariant-add_children-loop-child : goal.invariant-add_children-loop-child
invariant-add_children-loop-child l =
    let below = members_from l.below (tables_of (modules_in l.loaded)) l.depth in record {
      added : new_members_of l.members.items ++ flat_map below (map child_of (drop l.child-index l.children))
          ≡ new_members_of l.initial.members.items ++ flat_map below (map child_of l.children);
      room : length l.members.items + length (flat_map below (map child_of (drop l.child-index l.children))) ≤ vec_capacity l.members;
      capacity : vec_capacity l.members ≡ vec_capacity l.initial.members;
    }
