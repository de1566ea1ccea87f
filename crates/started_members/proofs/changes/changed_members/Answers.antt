use Rattle.std.proofs.Common.{◌≡◌, ◌∙◌, ◌++◌, ◌∷◌, [], List, IfOk, map, reverse, sym, ap, subst, arith}
use Rattle.std.proofs.lemmas.List.{nil_from_length}
use Rattle.mod_table.specs.InMemory.{child_of}
use Rattle.started_members.specs.declared.changes.Branch as stored
use Rattle.started_members.specs.declared.member.Member.{Member}
use Rattle.started_members.specs.Changes.{branch_of, branches_of, members_in}
use Rattle.started_members.proofs.ChangeLemmas.{map-reverse, onto, onto-last, onto-none}
use Rattle.started_members.proofs.changes.changed_members.Goals as goal

pub loop-member-init : goal.loop-member-init
loop-member-init c =
    let name = c.args.module.now in
    let children = map child_of c.args.children.now in
    ap (λ (bs : List stored.Branch). onto name children c.args.members.items (reverse (branches_of bs))) c.new-branches.ensures.items ∙ onto-none name children c.args.members.items

pub loop-member-preserved : goal.loop-member-preserved
loop-member-preserved c =
    let name = c.args.module.now in
    let children = map child_of c.args.children.now in
    let left = c.pop.new.self.items in
    let so_far = reverse (branches_of c.loop-member.branches.items) in
    let split : c.loop-member.members.items ≡ left ++ c.in-Some.member ∷ [] = rw c.in-Some.is at c.pop.ensures.items in
    ap (onto name children left) c.in_ok-branches.ensures
    ∙ (sym (ap (λ (ms : List Member). onto name children ms so_far) split ∙ onto-last name children left c.in-Some.member so_far) ∙ c.loop-member.invariant)

pub returns : goal.returns
returns c =
    let name = c.args.module.now in
    let children = map child_of c.args.children.now in
    let so_far = reverse (branches_of c.loop-member.branches.items) in
    let none_left : c.loop-member.members.items ≡ [] = nil_from_length c.loop-member.members.items (omega (arith, c.in_default.ensures.cases.0, c.loop-member.members.ok.0)) in
    let done = ap (λ (ms : List Member). onto name children ms so_far) (sym none_left) ∙ c.loop-member.invariant in
    let all = ap branches_of c.reverse.ensures.items ∙ (map-reverse branch_of c.loop-member.branches.items ∙ done) in
    subst (λ (ms : List Member). IfOk c.joined.result (λ changed. changed.items ≡ ms)) (ap members_in all) c.joined.ensures
