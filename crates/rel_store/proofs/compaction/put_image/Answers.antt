use Rattle.std.proofs.Common.{◌≤◌, refl, arith}
use Rattle.rel_store.proofs.ImageSteps.{after_base, base_written, after_cut}
use Rattle.rel_store.proofs.Scan.{failed_since}
use Rattle.rel_store.proofs.compaction.put_image.Goals as goal

pub returns-in_err-write_and_commit-clause-any_moment : goal.returns-in_err-write_and_commit-clause-any_moment
returns-in_err-write_and_commit-clause-any_moment g c =
    after_base g.D.Disk.moment g.D.Disk.left_since g.D.Disk.seen g.D.Disk.may_leave c.args.second c.args.place c.args.bytes.now c.args.disk.now c.write_through.new.disk c.write_through.ensures.any_moment c.in_ok-write_through.ensures.written c.in_ok-write_through.ensures.durable c.write_and_commit.new.disk c.base_slot_place.result c.to_be_bytes.result c.base_slot_place.ensures c.to_be_bytes.ensures c.write_and_commit.ensures.any_moment

pub returns-then-place-ne-FIRST_RECORD-clause-any_moment : goal.returns-then-place-ne-FIRST_RECORD-clause-any_moment
returns-then-place-ne-FIRST_RECORD-clause-any_moment g c =
    after_base g.D.Disk.moment g.D.Disk.left_since g.D.Disk.seen g.D.Disk.may_leave c.args.second c.args.place c.args.bytes.now c.args.disk.now c.write_through.new.disk c.write_through.ensures.any_moment c.in_ok-write_through.ensures.written c.in_ok-write_through.ensures.durable c.write_and_commit.new.disk c.base_slot_place.result c.to_be_bytes.result c.base_slot_place.ensures c.to_be_bytes.ensures c.write_and_commit.ensures.any_moment

pub returns-clause-any_moment : goal.returns-clause-any_moment
returns-clause-any_moment g c =
    let so_far =
    after_base g.D.Disk.moment g.D.Disk.left_since g.D.Disk.seen g.D.Disk.may_leave c.args.second c.args.place c.args.bytes.now c.args.disk.now c.write_through.new.disk c.write_through.ensures.any_moment c.in_ok-write_through.ensures.written c.in_ok-write_through.ensures.durable c.write_and_commit.new.disk c.base_slot_place.result c.to_be_bytes.result c.base_slot_place.ensures c.to_be_bytes.ensures c.write_and_commit.ensures.any_moment in
    let chosen = base_written g.D.Disk.moment g.D.Disk.left_since g.D.Disk.seen g.D.Disk.may_leave c.args.second c.args.place c.args.bytes.now c.args.disk.now c.write_through.new.disk c.write_through.ensures.any_moment c.in_ok-write_through.ensures.written c.in_ok-write_through.ensures.durable c.base_slot_place.result c.to_be_bytes.result c.selector_of.result (g.D.Disk.seen c.write_and_commit.new.disk) c.base_slot_place.ensures c.to_be_bytes.ensures c.selector_of.ensures c.in_ok-write_and_commit.ensures.written in
    after_cut g.D.Disk.moment g.D.Disk.left_since g.D.Disk.seen g.D.Disk.may_leave c.args.second c.args.place c.args.bytes.now c.args.disk.now c.write_through.new.disk c.write_through.ensures.any_moment c.in_ok-write_through.ensures.written c.in_ok-write_through.ensures.durable c.write_and_commit.new.disk c.cut_through.new.disk c.if-place-ne-FIRST_RECORD.false so_far chosen c.in_ok-write_and_commit.ensures.durable c.cut_through.ensures.any_moment

pub returns-in_err-write_and_commit-clause-cause : goal.returns-in_err-write_and_commit-clause-cause
returns-in_err-write_and_commit-clause-cause g c = λ is. failed_since _ _ _ c.write_through.ensures.counted c.write_and_commit.ensures.counted (c.in_err-write_and_commit.ensures.cause refl)

pub returns-clause-cause : goal.returns-clause-cause
returns-clause-cause g c = λ is.
    let so_far : g.D.Disk.failures c.args.disk.now ≤ g.D.Disk.failures c.write_and_commit.new.disk = omega (arith, c.write_through.ensures.counted, c.write_and_commit.ensures.counted) in
    failed_since _ _ _ so_far c.cut_through.ensures.counted (c.cut_through.ensures.cause is)
