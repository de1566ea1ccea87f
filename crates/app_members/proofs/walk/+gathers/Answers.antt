use Rattle.std.proofs.Common.{◌≡◌, ◌∷◌, ◌+◌, ◌++◌, map, drop, length, sym, ap, refl, ◌∙◌, arith, append-nil, length-append}
use Rattle.std.specs.List.{flat_map}
use Rattle.std.proofs.lemmas.List.{drop_more, drop_all, length-map}
use Rattle.mod_table.specs.InMemory.{child_of}
use Rattle.app_members.specs.InMemory.{new_member_of, new_members_of}
use Rattle.loaded_modules.specs.Loaded.{modules_in, tables_of}
use Rattle.app_members.specs.Walk.{members_from}
use Rattle.app_members.proofs.WalkLemmas.{none_left, deepest_members, members_one_below, all_here}
use Rattle.app_members.proofs.walk.+gathers.Goals as goal

pub add_children-returns-in_default-clause-added : goal.add_children-returns-in_default-clause-added
add_children-returns-in_default-clause-added t c =
    let before = new_members_of c.args.members.now.items in
    let none = deepest_members (tables_of (modules_in c.args.loaded.now)) c.args.left c.args.depth (map child_of c.args.children.now) (none_left c.args.left c.in_default.ensures) in
    sym (append-nil before) ∙ ap (λ l. before ++ l) (sym none)

pub add_children-loop-child-init : goal.add_children-loop-child-init
add_children-loop-child-init t c =
    let whole = members_one_below (tables_of (modules_in c.args.loaded.now)) c.args.left c.in-Some.below c.args.depth (map child_of c.args.children.now) (omega (arith, c.in-Some.ensures.0, c.in-Some.ensures.1)) in
    let as_long = ap length whole in record {
      added = refl;
      room = omega (arith, as_long, c.requires.room);
      capacity = refl;
    }

pub add_children-loop-child-preserved : goal.add_children-loop-child-preserved
add_children-loop-child-preserved t c =
    let children = c.args.children.now in
    let tables = tables_of (modules_in c.args.loaded.now) in
    let later = drop (c.loop-child.child-index + 1) children in
    let child = child_of c.child-item.result in
    let split : drop c.loop-child.child-index children ≡ c.child-item.result ∷ later =
    drop_more children c.loop-child.child-index c.child-item.result c.loop-child-test.true ∙ ap (λ m. m ∷ later) (sym c.child-item.is) in
    let one = members_from c.in-Some.below tables c.args.depth in
    let old = c.loop-child.members.items in
    let new = c.add_child.new.members.items in
    let added = c.add_child.ensures.added in
    let sum = ap (λ cs. length (flat_map one (map child_of cs))) split ∙ length-append (one child) (flat_map one (map child_of later)) in
    let longer = sym (length-map new new_member_of) ∙ (ap length added ∙ (length-append (new_members_of old) (one child) ∙ ap (λ n. n + length (one child)) (length-map old new_member_of))) in record {
      added = all_here one (new_members_of old) (new_members_of new) (map child_of (drop c.loop-child.child-index children))
          (map child_of later) child (one child) _ (ap (map child_of) split) refl added c.loop-child.invariant.added;
      room = omega (arith, sum, longer, c.loop-child.invariant.room, c.add_child.ensures.room);
      capacity = c.add_child.ensures.room ∙ c.loop-child.invariant.capacity;
    }

pub add_children-returns-clause-added : goal.add_children-returns-clause-added
add_children-returns-clause-added t c =
    let children = c.args.children.now in
    let tables = tables_of (modules_in c.args.loaded.now) in
    let one = members_from c.in-Some.below tables c.args.depth in
    let now = new_members_of c.loop-child.members.items in
    let before = new_members_of c.args.members.now.items in
    let past = c.loop-child-test.false in
    let whole = members_one_below tables c.args.left c.in-Some.below c.args.depth (map child_of children) (omega (arith, c.in-Some.ensures.0, c.in-Some.ensures.1)) in
    let none = drop_all c.loop-child.child-index children (omega (arith, past)) in
    sym (append-nil now) ∙ (ap (λ cs. now ++ flat_map one (map child_of cs)) (sym none) ∙ (c.loop-child.invariant.added ∙ ap (λ l. before ++ l) (sym whole)))
