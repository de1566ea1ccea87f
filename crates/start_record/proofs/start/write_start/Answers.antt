use Rattle.std.proofs.Common.{inl, refl, rules}
use Rattle.rel_store.proofs.Moments.{resting}
use Rattle.rel_store.proofs.Ownership.{at_rest}
use Rattle.rel_store.specs.State.{disk_in, records_in}
use Rattle.start_record.proofs.StartMoments.{either_so}
use Rattle.start_record.proofs.start.write_start.Goals as goal

-- nothing was written
pub returns-then-len-gt-MAX_VERSION-clause-any_moment : goal.returns-then-len-gt-MAX_VERSION-clause-any_moment
returns-then-len-gt-MAX_VERSION-clause-any_moment g c = λ works. resting g.D.Disk.moment g.D.Disk.left_since g.D.Disk.seen g.D.Disk.may_leave c.args.store.now (c.requires.settled works) _ (λ f here. inl here) (g.met.D.Disk.only_now c.args.store.now.disk)

pub returns-then-len-gt-MAX_VERSION-clause-others : goal.returns-then-len-gt-MAX_VERSION-clause-others
returns-then-len-gt-MAX_VERSION-clause-others g c = λ works. at_rest g.D.Disk.moment g.D.Disk.left_since g.D.Disk.seen g.D.Disk.may_leave _ c.args.store.now.disk (c.requires.settled works).durable (g.met.D.Disk.only_now c.args.store.now.disk)

-- the old start or the new
pub returns-then-len-gt-MAX_VERSION-clause-either : goal.returns-then-len-gt-MAX_VERSION-clause-either
returns-then-len-gt-MAX_VERSION-clause-either g c = λ are works v spelled.
    either_so g.D.Disk.moment g.D.Disk.left_since (disk_in c.args.store.now) _ (records_in c.args.store.now) _ _ v _ spelled are refl (returns-then-len-gt-MAX_VERSION-clause-any_moment g c works)

pub returns-in-Ok-clause-either : goal.returns-in-Ok-clause-either
returns-in-Ok-clause-either g c = λ are works v spelled.
    either_so g.D.Disk.moment g.D.Disk.left_since (disk_in c.args.store.now) _ (records_in c.args.store.now) _ c.as_bytes.result.now v _ spelled are (search rules) (c.write_slot.ensures.any_moment works)

pub returns-in-Err-clause-either : goal.returns-in-Err-clause-either
returns-in-Err-clause-either g c = λ are works v spelled.
    either_so g.D.Disk.moment g.D.Disk.left_since (disk_in c.args.store.now) _ (records_in c.args.store.now) _ c.as_bytes.result.now v _ spelled are (search rules) (c.write_slot.ensures.any_moment works)
