use Rattle.std.proofs.Common.{length, ap, map, ◌∙◌, arith}
use Rattle.std.specs.Vec.Iter.{into_iter_items}
use Rattle.proc_table.specs.Free.{free_count}
use Rattle.sup_tree.specs.Tree.{app_of}
use Rattle.node_start.proofs.StartLemmas.{all_began, first_fits, one_began, others_fit}
use Rattle.node_start.proofs.start.begin_each.Goals as goal

pub begin-requires-clause-slots : goal.begin-requires-clause-slots
begin-requires-clause-slots g c =
    let split = (rw c.in-Some.is at c.next.ensures.steps).0 in
    (first_fits (into_iter_items c.loop-app.app-iterator) (into_iter_items c.next.new.self) c.in-Some.app (free_count c.loop-app.access) split
    c.loop-app.invariant.slots c.loop-app.invariant.ready).0

pub begin-requires-clause-room : goal.begin-requires-clause-room
begin-requires-clause-room g c =
    let split = (rw c.in-Some.is at c.next.ensures.steps).0 in
    (first_fits (into_iter_items c.loop-app.app-iterator) (into_iter_items c.next.new.self) c.in-Some.app (free_count c.loop-app.access) split
    c.loop-app.invariant.slots c.loop-app.invariant.ready).1

pub loop-app-preserved : goal.loop-app-preserved
loop-app-preserved g c =
    let split = (rw c.in-Some.is at c.next.ensures.steps).0 in
    let left = into_iter_items c.loop-app.app-iterator in
    let rest = into_iter_items c.next.new.self in
    let a = c.begin.result in
    let later = others_fit left rest c.in-Some.app c.loop-app.access (app_of a) c.begin.new.access split c.begin.ensures.began c.loop-app.invariant.slots c.loop-app.invariant.ready in
    let fewer = ap length split in record {
      can_next = tt;
      is_finite = tt;
      slots = later.0;
      ready = later.1;
      room = omega (arith, fewer, c.loop-app.invariant.room, c.push_reserved.ensures.len, c.push_reserved.ensures.capacity);
      began = one_began c.args.prepared.items left rest c.args.access.now c.loop-app.access c.begin.new.access c.loop-app.started.items c.push_reserved.new.self.items
          c.in-Some.app a split c.begin.ensures.began c.push_reserved.ensures.items c.loop-app.invariant.began;
    }

pub returns : goal.returns
returns g c = record {
  began =
      let ended = rw c.in-None.is at c.next.ensures.steps in
      all_began c.args.prepared.items (into_iter_items c.loop-app.app-iterator) c.args.access.now c.loop-app.access (map app_of c.loop-app.started.items)
      (omega (arith, ended.0, c.loop-app.app-iterator.rest.ok.0)) c.loop-app.invariant.began;
}
