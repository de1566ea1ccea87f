use Rattle.std.proofs.Common.{◌∙◌, List, ap, subst, if◌then◌else◌, Some, true, ◌≡◌}
use Rattle.sup_tree.specs.declared.tree.StartedApp.{StartedApp}
use Rattle.started_members.specs.Places.{ChildEndedUnless, ChildLookedAt, nothing_kept}
use Rattle.sup_tree.specs.Children.{has_one_supervisor, IsPlaceOfOnlySuper, child_deleted, child_place}
use Rattle.started_members.specs.declared.looks.Stay.TheVariants.{Up}
use Rattle.sup_tree.specs.Tree.{App}
use Rattle.sup_tree.proofs.ChildLemmas.{changed_unless, child_there}
use Rattle.sup_tree.proofs.tree.Tree.delete_child.Goals as goal

pub returns : goal.returns
returns g c = record {
  deleted =
      let name = c.args.«module».now in
      let id = c.args.id.now in
      let apps = c.self.inside.apps.items in
      let place = c.in-Some.place in
      let a = c.index_mut.result.now in
      let b : StartedApp = record { name = a.name; members = c.delete-stays.new.members } in
      let only = subst (λ (l : List StartedApp). IsPlaceOfOnlySuper name l (Some place)) c.as_slice.ensures.value (rw c.in-Some.is at c.place_of_only_super.ensures) in
      let at = only.1 in
      let one : has_one_supervisor name c.args.self.now ≡ true = subst (λ (l : List App). has_one_supervisor name l ≡ true) c.self.view_is only.0 in
      let child = child_there name id apps place a at c.index_mut.ensures.value ∙ ap (child_place name id) c.self.view_is in
      record {
        one = one;
        look = c.delete-stays.ensures.ended.0;
        looked = subst (λ o. ChildLookedAt Up o c.delete-stays.result c.args.access.now c.delete-stays.ensures.ended.0) child c.delete-stays.ensures.ended.1;
        ended = subst (λ o. ChildEndedUnless c.delete-stays.result o c.delete-stays.ensures.ended.0 c.delete-stays.new.access) child c.delete-stays.ensures.ended.2;
        tree = changed_unless c.delete-stays.result nothing_kept name id apps place a b at c.index_mut.ensures.value (λ j. record { name = a.name; members = c.delete-stays.ensures.members j })
            ∙ ap (λ (l : List App). if c.delete-stays.result then l else child_deleted name id l) c.self.view_is;
      };
}
