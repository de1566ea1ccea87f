use Rattle.std.proofs.Common.{List, Some, map, reverse, ap, sym, subst, ◌∙◌}
use Rattle.started_members.specs.declared.member.Member.{Member}
use Rattle.sup_tree.specs.Tree.{app_of, app_named, without}
use Rattle.started_members.specs.Members.{pids_of, processes_among}
use Rattle.started_members.specs.Ends.{EndedInOrder}
use Rattle.sup_tree.specs.Stops.{StandsAt}
use Rattle.sup_tree.proofs.tree.Tree.stop_app.Goals as goal

pub returns : goal.returns
returns g c = record {
  stopped =
      let at = subst (λ l. StandsAt c.args.app.now l c.in-Some.place) c.as_slice.ensures.value (rw c.in-Some.is at c.place_of.ensures) in record {
        app = app_of c.remove-name.result;
        there = ap (app_named c.args.app.now) (sym c.self.view_is) ∙ (at.there c.remove-name.result ∙ ap (λ a. Some (app_of a)) (sym c.remove-name.ensures.value));
        ended = subst (λ (ms : List Member). EndedInOrder (reverse (pids_of (processes_among ms))) c.args.access.now c.end_all.new.access) c.as_slice-3.ensures.value c.end_all.ensures.ended;
        tree = ap (map app_of) c.remove-name.ensures.items ∙ (sym at.others ∙ ap (without c.args.app.now) c.self.view_is);
      };
}
