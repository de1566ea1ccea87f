use Rattle.std.proofs.Common.{◌∙◌, ◌≡◌, [], ℕ, List, map, Option, slice_set, ap, subst, subst₂, sym, Some, true}
use Rattle.std.specs.Option.{option_map_or}
use Rattle.std.proofs.Math.Seq.{map-set_same}
use Rattle.app_members.specs.Loaded.{modules_in, tables_of}
use Rattle.started_members.specs.declared.member.Member.{Member}
use Rattle.sup_tree.specs.declared.tree.StartedApp.{StartedApp}
use Rattle.started_members.specs.Places.{Place, child_in, in_place}
use Rattle.sup_tree.specs.Children.{has_one_supervisor, IsPlaceOfOnlySuper, app_with, apps_with, child_place}
use Rattle.sup_tree.specs.Restarts.{Restarts, super_app}
use Rattle.sup_tree.specs.Tree.{App, app_of}
use Rattle.sup_tree.proofs.ChildLemmas.{app_changed, child_there}
use Rattle.sup_tree.proofs.RestartLemmas.{lifted, with_one}
use Rattle.sup_tree.proofs.tree.Tree.restart_child.Goals as goal

pub returns : goal.returns
returns g c = record {
  restarted =
      let name = c.args.«module».now in
      let id = c.args.id.now in
      let tables = tables_of (modules_in c.args.loaded.now) in
      let items = c.self.inside.apps.items in
      let apps = c.args.self.now in
      let place = c.in-Some.place in
      let a = c.index_mut.result.now in
      let b = c.restart-answer.new.app in
      let v = c.args.access.now in
      let w = c.restart-answer.new.access in
      let new = map app_of (slice_set items place b) in
      let change : List Member → List App = λ ms. apps_with (in_place ms) name id apps in
      let only = subst (λ (l : List StartedApp). IsPlaceOfOnlySuper name l (Some place)) c.as_slice.ensures.value (rw c.in-Some.is at c.place_of_only_super.ensures) in
      let at = only.1 in
      let one : has_one_supervisor name c.args.self.now ≡ true = subst (λ (l : List App). has_one_supervisor name l ≡ true) c.self.view_is only.0 in
      let child = child_there name id items place a at c.index_mut.ensures.value ∙ ap (child_place name id) c.self.view_is in
      let app : a.name ≡ super_app name apps =
      ap (λ (x : StartedApp). x.name) c.index_mut.ensures.value ∙ (sym (ap (λ (o : Option App). option_map_or (λ (x : App). x.name) o []) (at.there a)) ∙ ap (super_app name) c.self.view_is) in
      let is = lifted tables a.name (child_in name id a.members.items) (λ ms. app_with (in_place ms) name id (app_of a)) change (app_of a) (app_of b) apps new v c.restart-answer.result w
      (λ same. map-set_same app_of items place b a (same ∙ ap app_of c.index_mut.ensures.value) ∙ c.self.view_is)
      (λ ms changed. app_changed (in_place ms) name id items place a b at c.index_mut.ensures.value changed ∙ ap (apps_with (in_place ms) name id) c.self.view_is)
      c.restart-answer.ensures.restarted in
      with_one name id tables apps v c.restart-answer.result new w one
      (subst₂ (λ (n : List ℕ) (o : Option Place). Restarts tables n o change apps v c.restart-answer.result new w) app child is);
}
