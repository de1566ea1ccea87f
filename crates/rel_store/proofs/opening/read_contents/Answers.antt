use Rattle.std.proofs.Common.{◌≡◌, ◌+◌, ◌∙◌, inr, subst, rules, IfOk}
use Rattle.rel_disk.specs.Damage.{Only}
use Rattle.rel_disk.proofs.Moments.{started, goes_on, joined, weakened}
use Rattle.rel_store.specs.Contents.{AreContentsOf}
use Rattle.rel_store.proofs.Scan.{still_refused}
use Rattle.rel_store.proofs.opening.read_contents.Goals as goal

pub returns-clause-any_moment : goal.returns-clause-any_moment
returns-clause-any_moment g c =
    joined g.D.Disk.moment g.D.Disk.left_since c.args.disk.now c.sync.new.self c.read.new.disk (g.D.Disk.may_leave c.args.disk.now) (goes_on g.D.Disk.moment g.D.Disk.left_since c.args.disk.now c.args.disk.now c.sync.new.self (g.D.Disk.may_leave c.args.disk.now) (g.D.Disk.may_leave c.sync.new.self) (started g.D.Disk.moment g.D.Disk.left_since c.args.disk.now (g.D.Disk.may_leave c.args.disk.now) (g.met.D.Disk.only_now c.args.disk.now)) c.sync.ensures.time c.sync.ensures.crash)
    (weakened g.D.Disk.moment g.D.Disk.left_since c.sync.new.self c.read.new.disk (g.D.Disk.may_leave c.sync.new.self) (g.D.Disk.may_leave c.args.disk.now) c.sync.ensures.crash c.read.ensures.reads.any_moment)

pub returns-clause-synced : goal.returns-clause-synced
returns-clause-synced g c =
    let same : g.D.Disk.seen c.sync.new.self ≡ g.D.Disk.seen c.args.disk.now = search rules in
    let durable : Only (g.D.Disk.seen c.args.disk.now) (g.D.Disk.may_leave c.sync.new.self) = search rules in
    let counted : g.D.Disk.syncs c.sync.new.self ≡ g.D.Disk.syncs c.args.disk.now + 1 = search rules in
    inr (record { first_sync = c.read.ensures.unsynced ∙ counted; durable = λ d now. durable d (c.read.ensures.reads.crash d now); same = c.read.ensures.reads.same ∙ same })

pub returns-clause-ok : goal.returns-clause-ok
returns-clause-ok g c =
    let same : g.D.Disk.seen c.sync.new.self ≡ g.D.Disk.seen c.args.disk.now = search rules in
    subst (λ l. IfOk c.read.result (AreContentsOf l)) same c.read.ensures.ok

pub returns-clause-refused : goal.returns-clause-refused
returns-clause-refused g c =
    let same : g.D.Disk.seen c.sync.new.self ≡ g.D.Disk.seen c.args.disk.now = search rules in
    still_refused c.read.result (g.D.Disk.seen c.args.disk.now) (g.D.Disk.seen c.sync.new.self) _ _ _ same c.sync.ensures.counted c.read.ensures.counted c.read.ensures.refused
