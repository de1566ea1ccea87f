use Rattle.std.proofs.Common.{◌∙◌, [], List, reverse, ap, subst, Some, true, ◌≡◌}
use Rattle.std.specs.Option.{option_map_or}
use Rattle.sup_tree.specs.declared.tree.StartedApp.{StartedApp}
use Rattle.sup_tree.specs.Children.{has_one_supervisor, IsPlaceOfOnlySuper, child_place, child_terminated}
use Rattle.started_members.specs.Places.{specification_kept, with_below}
use Rattle.started_members.specs.Ends.{EndedInOrder}
use Rattle.started_members.specs.Members.{pids_of, processes_among}
use Rattle.sup_tree.specs.Tree.{App}
use Rattle.sup_tree.proofs.ChildLemmas.{app_changed, child_there}
use Rattle.sup_tree.proofs.tree.Tree.terminate_child.Goals as goal

pub returns : goal.returns
returns g c = record {
  terminated =
      let name = c.args.«module».now in
      let id = c.args.id.now in
      let apps = c.self.inside.apps.items in
      let place = c.in-Some.place in
      let a = c.index_mut.result.now in
      let b : StartedApp = record { name = a.name; members = c.terminate.new.members } in
      let only = subst (λ (l : List StartedApp). IsPlaceOfOnlySuper name l (Some place)) c.as_slice.ensures.value (rw c.in-Some.is at c.place_of_only_super.ensures) in
      let at = only.1 in
      let one : has_one_supervisor name c.args.self.now ≡ true = subst (λ (l : List App). has_one_supervisor name l ≡ true) c.self.view_is only.0 in
      let child = child_there name id apps place a at c.index_mut.ensures.value ∙ ap (child_place name id) c.self.view_is in
      record {
        one = one;
        ended = subst (λ o. EndedInOrder (reverse (pids_of (processes_among (option_map_or with_below o [])))) c.args.access.now c.terminate.new.access) child c.terminate.ensures.ended;
        tree = app_changed specification_kept name id apps place a b at c.index_mut.ensures.value (λ j. record { name = a.name; members = c.terminate.ensures.members j })
            ∙ ap (child_terminated name id) c.self.view_is;
      };
}
