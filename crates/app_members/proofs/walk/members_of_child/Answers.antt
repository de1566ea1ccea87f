use Rattle.std.proofs.Common.{ap, sym, subst₂, ◌∙◌, arith}
use Rattle.std.specs.Option.{option_map}
use Rattle.app_members.specs.InMemory.{AreUnlessFault, new_child_of, new_member_of}
use Rattle.loaded_modules.specs.Loaded.{modules_in, tables_of}
use Rattle.app_members.proofs.AppLemmas.{lone_child}
use Rattle.app_members.proofs.walk.members_of_child.Goals as goal

pub returns : goal.returns
returns c =
    let tables = tables_of (modules_in c.args.loaded.now) in
    let depth = c.args.child.depth in
    let lone = lone_child tables depth (new_child_of c.args.child) c.in-Some.left (new_member_of c.in-Some-member_of_child.member)
    (omega (arith, c.in-Some.ensures.0, c.in-Some.ensures.1)) (omega (arith, c.in-Some.ensures.0, c.in-Some.ensures.1))
    (sym c.member_of_child.ensures ∙ ap (option_map new_member_of) c.in-Some-member_of_child.is) in
    subst₂ (λ fault all. AreUnlessFault fault all c.members_with.result) (sym lone.fault) (sym lone.members) c.members_with.ensures
