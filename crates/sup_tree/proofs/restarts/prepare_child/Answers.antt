use Rattle.std.proofs.Common.{◌≡◌, ◌∙◌, None, map, ap, subst}
use Rattle.app_members.specs.InMemory.{FaultIs, new_members_of}
use Rattle.app_members.specs.Walk.{lone_fault, lone_members}
use Rattle.app_members.specs.Loaded.{modules_in, tables_of}
use Rattle.started_members.specs.Table.{ChildSpec}
use Rattle.started_members.specs.Begins.{specification}
use Rattle.started_members.specs.Preparations.{preparation_of}
use Rattle.sup_tree.specs.Restarts.{Prepares}
use Rattle.sup_tree.proofs.restarts.prepare_child.Goals as goal

pub returns-in-Err : goal.returns-in-Err
returns-in-Err c =
    let tables = tables_of (modules_in c.args.loaded.now) in
    let m = c.args.child.now in
    let e = c.in-Err.error in
    let own : (record { id = c.as_str.result.now; start = c.as_str-2.result.now; restart = m.restart; kind = m.kind }) ≡ specification m =
    λ j. record { id = c.as_str.ensures j; start = c.as_str-2.ensures j; restart = m.restart; kind = m.kind } in
    c.restart_error.ensures (lone_fault tables m.depth (specification m)) (subst (λ (s : ChildSpec). FaultIs e (lone_fault tables m.depth s)) own (c.in-Err.ensures))

pub returns-in_ok-prepare_all-in-Ok : goal.returns-in_ok-prepare_all-in-Ok
returns-in_ok-prepare_all-in-Ok c =
    let tables = tables_of (modules_in c.args.loaded.now) in
    let m = c.args.child.now in
    let own : (record { id = c.as_str.result.now; start = c.as_str-2.result.now; restart = m.restart; kind = m.kind }) ≡ specification m =
    λ j. record { id = c.as_str.ensures j; start = c.as_str-2.ensures j; restart = m.restart; kind = m.kind } in (
      subst (λ (s : ChildSpec). lone_fault tables m.depth s ≡ None) own c.in-Ok.ensures.0,
      c.in_ok-prepare_all-in-Ok.ensures
          ∙ ap (map (preparation_of c.args.app.now)) (ap new_members_of c.as_slice.ensures.value ∙ (c.in-Ok.ensures.1 ∙ ap (lone_members tables m.depth) own)),
    )
