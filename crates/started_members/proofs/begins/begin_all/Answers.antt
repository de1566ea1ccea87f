use Rattle.std.proofs.Common.{length, ap, arith}
use Rattle.std.specs.Vec.Iter.{into_iter_items}
use Rattle.started_members.proofs.BeginLemmas.{has_slot, slots_left, one_began, all_began}
use Rattle.started_members.proofs.begins.begin_all.Goals as goal

pub begin-requires : goal.begin-requires
begin-requires g c =
    let split = (rw c.in-Some.is at c.next.ensures.steps).0 in
    record { slots = has_slot (into_iter_items c.loop-preparation.preparation-iterator) (into_iter_items c.next.new.self) c.in-Some.preparation c.loop-preparation.access split c.loop-preparation.invariant.2 }

pub loop-preparation-preserved : goal.loop-preparation-preserved
loop-preparation-preserved g c =
    let split = (rw c.in-Some.is at c.next.ensures.steps).0 in
    let left = into_iter_items c.loop-preparation.preparation-iterator in
    let rest = into_iter_items c.next.new.self in
    let p = c.in-Some.preparation in
    let fewer = ap length split in (
      tt,
      tt,
      slots_left left rest p c.loop-preparation.access c.begin.result c.begin.new.access split c.begin.ensures.began c.loop-preparation.invariant.2,
      omega (arith, fewer, c.loop-preparation.invariant.3, c.push_reserved.ensures.len, c.push_reserved.ensures.capacity),
      one_began c.args.prepared.items left rest c.args.access.now c.loop-preparation.access c.begin.new.access c.loop-preparation.members.items c.push_reserved.new.self.items
          p c.begin.result split c.begin.ensures.began c.push_reserved.ensures.items c.loop-preparation.invariant.4,
    )

pub returns : goal.returns
returns g c =
    let ended = rw c.in-None.is at c.next.ensures.steps in
    record {
      began = all_began c.args.prepared.items (into_iter_items c.loop-preparation.preparation-iterator) c.args.access.now c.loop-preparation.access c.loop-preparation.members.items
          (omega (arith, ended.0, c.loop-preparation.preparation-iterator.rest.ok.0)) c.loop-preparation.invariant.4;
    }
