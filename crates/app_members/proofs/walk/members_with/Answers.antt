use Rattle.std.proofs.Common.{◌+◌, ◌++◌, ◌∙◌, ap, length, suc, arith}
use Rattle.app_members.specs.InMemory.{AreUnlessFault, new_member_of, new_members_of}
use Rattle.loaded_modules.specs.Loaded.{modules_in, tables_of}
use Rattle.app_members.specs.Walk.{children_members, fault_with, members_below, members_with}
use Rattle.app_members.proofs.WalkLemmas.{one_counted, passed_on}
use Rattle.app_members.proofs.walk.members_with.Goals as goal

pub returns-in_err-below : goal.returns-in_err-below
returns-in_err-below c =
    let tables = tables_of (modules_in c.args.loaded.now) in
    let m = new_member_of c.args.member in
    let e = c.in_err-below.field-0.0 in
    passed_on (AreUnlessFault (fault_with c.args.left tables m) (members_with c.args.left tables m)) c.from_residual.result e c.from_residual.ensures
    (c.in_err-below.ensures m.child)

pub add_member-requires-clause-room : goal.add_member-requires-clause-room
add_member-requires-clause-room c =
    let tables = tables_of (modules_in c.args.loaded.now) in
    let m = new_member_of c.args.member in
    let below = length (members_below (children_members c.args.left tables (m.depth + 1)) m.table) in
    let so_many = c.saturating_add.ensures ∙ one_counted below c.in_ok-below.below ((c.in_ok-below.ensures m.child).1 (m.depth + 1)) in
    let none = ap length c.in_ok-members.ensures.none in
    let enough = c.in_ok-members.ensures.room (suc below) so_many in
    omega (arith, none, enough)

pub returns : goal.returns
returns c =
    let tables = tables_of (modules_in c.args.loaded.now) in
    let m = new_member_of c.args.member in
    ((c.in_ok-below.ensures m.child).0, c.add_member.ensures.added ∙ ap (λ old. new_members_of old ++ members_with c.args.left tables m) c.in_ok-members.ensures.none)
