use Rattle.std.proofs.Common.{◌≡◌, ◌∷◌, ◌++◌, ◌+◌, ◌-◌, List, drop, map, refl, ap, sym, subst, slice_index_or, ◌∙◌, arith}
use Rattle.std.specs.Option.{option_map}
use Rattle.std.proofs.lemmas.List.{drop_more}
use Rattle.started_members.specs.declared.member.Member.{Member}
use Rattle.started_members.specs.declared.member.StartedProcess.{StartedProcess}
use Rattle.started_members.specs.Members.{processes_among}
use Rattle.sup_tree.specs.declared.tree.StartedApp.{StartedApp}
use Rattle.sup_tree.specs.Spots.{StandAt, module_hash}
use Rattle.sup_tree.specs.Tree.{all_processes, app_of}
use Rattle.sup_tree.proofs.SpotLemmas.{member_stands}
use Rattle.sup_tree.proofs.spots.add_app.Goals as goal

pub loop-member-preserved-in-Some : goal.loop-member-preserved-in-Some
loop-member-preserved-in-Some c =
    let apps = c.args.apps.now in
    let place = c.args.place in
    let members = c.as_slice-members.result.now in
    let member = c.loop-member.member in
    let some = c.loop-member-test.true in
    let few = c.loop-member.auto.member in
    let next : member ≡ (member - 1) + 1 = omega (arith, some) in
    let later = all_processes (map app_of (drop (place + 1) apps)) in (
      member_stands apps place (member - 1) c.index-apps-place.result members c.index-members-member.result c.in-Some.process.now later c.loop-member.spots.items c.put.new.spots.items
          (record { app = place; member = member - 1; hash = c.module_hash.result })
          c.requires.inside c.as_slice-members.ensures.value (omega (arith, some, few)) c.index-members-member.is
          (sym c.process.ensures ∙ ap (option_map (λ p. p.now)) c.in-Some.is)
          refl refl (c.module_hash.ensures ∙ ap module_hash c.as_str.ensures) c.put.ensures.put
          (subst (λ n. StandAt (map app_of apps) (processes_among (drop n members) ++ later) c.loop-member.spots.items) next c.loop-member.invariant.0),
      c.put.ensures.room,
    )

pub returns-clause-spots : goal.returns-clause-spots
returns-clause-spots c =
    let apps = c.args.apps.now in
    let place = c.args.place in
    let members = c.as_slice-members.result.now in
    let spots = c.loop-member.spots.items in
    let rest = drop (place + 1) apps in
    let later = all_processes (map app_of rest) in
    let none = c.loop-member-test.false in
    let first : c.loop-member.member ≡ 0 = omega (arith, none) in
    let split : drop place apps ≡ slice_index_or apps place c.index-apps-place.result ∷ rest = drop_more apps place c.index-apps-place.result c.requires.inside in
    let whole : all_processes (map app_of (drop place apps)) ≡ processes_among members ++ later =
    ap (λ (l : List StartedApp). all_processes (map app_of l)) split ∙ ap (λ (ms : List Member). processes_among ms ++ later) (sym c.as_slice-members.ensures.value) in
    subst (λ (ps : List StartedProcess). StandAt (map app_of apps) ps spots) (sym whole)
    (subst (λ n. StandAt (map app_of apps) (processes_among (drop n members) ++ later) spots) first c.loop-member.invariant.0)
