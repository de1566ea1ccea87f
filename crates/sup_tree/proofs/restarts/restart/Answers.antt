use Rattle.std.proofs.Common.{List, subst}
use Rattle.std.specs.Prelude.{Ok, Err, Some}
use Rattle.app_members.specs.Loaded.{modules_in, tables_of}
use Rattle.app_members.proofs.WalkLemmas.{passed_on}
use Rattle.started_members.specs.declared.member.Member.{Member}
use Rattle.started_members.specs.Places.{AreAt, child_in}
use Rattle.sup_tree.specs.Restarts.{RestartsIn}
use Rattle.sup_tree.specs.Tree.{app_of}
use Rattle.sup_tree.proofs.RestartLemmas.{begun_again}
use Rattle.sup_tree.proofs.restarts.restart.Goals as goal

pub returns-in_err-begin_again : goal.returns-in_err-begin_again
returns-in_err-begin_again g c = record {
  restarted =
      let tables = tables_of (modules_in c.args.loaded.now) in
      let name = c.args.«module».now in
      let id = c.args.id.now in
      let app = app_of c.args.app.now in
      let v = c.args.access.now in
      let new = app_of c.begin_again.new.app in
      let w = c.begin_again.new.access in
      let e = c.in_err-begin_again.field-0.0 in
      let at = subst (λ (ms : List Member). AreAt (child_in name id ms) ms (Some (c.in-Some.start, c.in-Some.end))) c.as_slice.ensures.value (rw c.in-Some.is at c.range_of_child.ensures) in
      passed_on (λ r. RestartsIn name id tables app v r new w) c.from_residual.result e c.from_residual.ensures
      (begun_again tables app (child_in name id app.members) c.in-Some.start c.in-Some.end c.index.result.now v c.member_stays.new.access (Err e) new w at c.index.ensures c.if-member_stays.ensures.looked c.in_err-begin_again.ensures.begun);
}

pub returns : goal.returns
returns g c = record {
  restarted =
      let name = c.args.«module».now in
      let id = c.args.id.now in
      let app = app_of c.args.app.now in
      let at = subst (λ (ms : List Member). AreAt (child_in name id ms) ms (Some (c.in-Some.start, c.in-Some.end))) c.as_slice.ensures.value (rw c.in-Some.is at c.range_of_child.ensures) in
      begun_again (tables_of (modules_in c.args.loaded.now)) app (child_in name id app.members) c.in-Some.start c.in-Some.end c.index.result.now c.args.access.now c.member_stays.new.access (Ok tt) (app_of c.begin_again.new.app) c.begin_again.new.access at c.index.ensures c.if-member_stays.ensures.looked c.in_ok-begin_again.ensures.begun;
}
