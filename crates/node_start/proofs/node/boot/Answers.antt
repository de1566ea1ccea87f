use Rattle.std.proofs.Common.{◌⊎◌, ◌≤◌, inl, inr, ⊎_elim, Ok, refl, sym, subst}
use Rattle.rel_disk.specs.Moments.{LeavesOnly}
use Rattle.node_store.specs.Image.{IsLeftByBoot}
use Rattle.node_store.specs.State.{disk_in, list_in}
use Rattle.rel_handler.specs.Moments.{BootsTo, IsSynced, KeepsStore, SettlesAt}
use Rattle.node_start.specs.Booting.{IsBootedFrom}
use Rattle.node_start.specs.Running.{RunsOnce}
use Rattle.node_start.proofs.OneShotLemmas.{runs_once}
use Rattle.node_start.proofs.node.boot.Goals as goal

-- the node has the handler that was booted
pub returns-in-Ok-start_node-clause-booted : goal.returns-in-Ok-start_node-clause-booted
returns-in-Ok-start_node-clause-booted g c =
    let h = c.in-Ok.ensures in
    subst (IsBootedFrom g.D.Disk c.args.disk) (sym c.in-Ok-start_node.ensures.handler)
    (record { sound = h.sound; works = h.works; format = h.format; image = h.image; list = h.only; acknowledged = h.acknowledged; right = h.right })

pub returns-in-Ok-start_node-clause-once : goal.returns-in-Ok-start_node-clause-once
returns-in-Ok-start_node-clause-once g c =
    subst (RunsOnce g.D.Disk.may_leave) (sym c.in-Ok-start_node.ensures.handler) (runs_once g.D.Disk c.in-Ok.handler c.in-Ok.ensures.sound c.in-Ok.ensures.works)

pub returns-in-Ok-start_node-clause-recovers : goal.returns-in-Ok-start_node-clause-recovers
returns-in-Ok-start_node-clause-recovers g c = λ k all.
    subst (λ h. BootsTo k (list_in h)) (sym c.in-Ok-start_node.ensures.handler) (c.in-Ok.ensures.recovers k all)

pub returns-in-Ok-start_node-clause-any_moment : goal.returns-in-Ok-start_node-clause-any_moment
returns-in-Ok-start_node-clause-any_moment g c =
    subst (λ h. LeavesOnly g.D.Disk.moment g.D.Disk.left_since c.args.disk (disk_in h) (λ c'. g.D.Disk.may_leave c.args.disk c' ⊎ IsLeftByBoot (g.D.Disk.seen c.args.disk) c')) (sym c.in-Ok-start_node.ensures.handler)
    c.in-Ok.ensures.any_moment

pub returns-in-Ok-start_node-clause-synced : goal.returns-in-Ok-start_node-clause-synced
returns-in-Ok-start_node-clause-synced g c = subst (λ h. IsSynced g.D.Disk c.args.disk (Ok h)) (sym c.in-Ok-start_node.ensures.handler) c.in-Ok.ensures.synced

pub returns-in-Ok-start_node-clause-stored : goal.returns-in-Ok-start_node-clause-stored
returns-in-Ok-start_node-clause-stored g c = λ s here.
    subst (λ h. KeepsStore g.D.Disk s c.args.disk (disk_in h)) (sym c.in-Ok-start_node.ensures.handler) (c.in-Ok.ensures.stored s here)

pub returns-in-Ok-start_node-clause-counted : goal.returns-in-Ok-start_node-clause-counted
returns-in-Ok-start_node-clause-counted g c =
    subst (λ h. g.D.Disk.failures c.args.disk ≤ g.D.Disk.failures (disk_in h)) (sym c.in-Ok-start_node.ensures.handler) c.in-Ok.ensures.counted

-- memory was refused to its processes
pub returns-in-Err-start_node-clause-only : goal.returns-in-Err-start_node-clause-only
returns-in-Err-start_node-clause-only g c = λ es image. inr refl

pub returns-in-Err-start_node-clause-recovers : goal.returns-in-Err-start_node-clause-recovers
returns-in-Err-start_node-clause-recovers g c = λ k all. inr refl

pub returns-in-Err-start_node-clause-any_moment : goal.returns-in-Err-start_node-clause-any_moment
returns-in-Err-start_node-clause-any_moment g c =
    subst (λ d. LeavesOnly g.D.Disk.moment g.D.Disk.left_since c.args.disk d (λ c'. g.D.Disk.may_leave c.args.disk c' ⊎ IsLeftByBoot (g.D.Disk.seen c.args.disk) c')) (sym c.in-Err-start_node.ensures.refused)
    c.in-Ok.ensures.any_moment

pub returns-in-Err-start_node-clause-synced : goal.returns-in-Err-start_node-clause-synced
returns-in-Err-start_node-clause-synced g c =
    let (at, settles) = c.in-Ok.ensures.synced in
    inr (at, subst (λ d. SettlesAt g.D.Disk c.args.disk d at) (sym c.in-Err-start_node.ensures.refused) settles)

pub returns-in-Err-start_node-clause-stored : goal.returns-in-Err-start_node-clause-stored
returns-in-Err-start_node-clause-stored g c = λ s here.
    subst (KeepsStore g.D.Disk s c.args.disk) (sym c.in-Err-start_node.ensures.refused) (c.in-Ok.ensures.stored s here)

pub returns-in-Err-start_node-clause-stopped : goal.returns-in-Err-start_node-clause-stopped
returns-in-Err-start_node-clause-stopped g c =
    let h = c.in-Ok.ensures in
    inr (inr (refl, (c.in-Ok.handler, record { sound = h.sound; works = h.works; format = h.format; image = h.image; list = h.only; acknowledged = h.acknowledged; right = h.right }, c.in-Err-start_node.ensures.refused)))

pub returns-in-Err-start_node-clause-counted : goal.returns-in-Err-start_node-clause-counted
returns-in-Err-start_node-clause-counted g c =
    subst (λ d. g.D.Disk.failures c.args.disk ≤ g.D.Disk.failures d) (sym c.in-Err-start_node.ensures.refused) c.in-Ok.ensures.counted

-- the handler isn't booted
pub returns-in-Err-clause-stopped : goal.returns-in-Err-clause-stopped
returns-in-Err-clause-stopped g c = ⊎_elim (λ failed. inl failed) (λ read. inr (inl read)) c.in-Err.ensures.quiet
