use Rattle.std.proofs.Common.{◌≡◌, ◌⊎◌, inl, inr, false, sym, ap, ◌∙◌, subst}
use Rattle.rel_disk.specs.Moments.{LeavesOnly}
use Rattle.rel_disk.proofs.Moments.{weakened}
use Rattle.rel_list.specs.Releases.{has_one_shot}
use Rattle.rel_list.proofs.BootLaws.{boot_leaves_no_one_shot}
use Rattle.rel_store.specs.Contents.{HasOnlyRead}
use Rattle.node_store.specs.Events.{IsCrashImageOf}
use Rattle.node_store.specs.Image.{IsLeftByBoot}
use Rattle.rel_handler.specs.Moments.{KeepsStore, SettlesAt}
use Rattle.rel_handler.specs.Refusals.{BootRefused}
use Rattle.node_store.specs.State.{disk_in, list_in}
use Rattle.rel_handler.specs.declared.error.BootError.TheVariants.{Device}
use Rattle.rel_handler.proofs.BootMoments.{boot_moments, boot_of, boot_settles, image_there, keeps_store, ready_now, record_lack, record_refused, right_there, writes_no_start}
use Rattle.node_store.proofs.Commits.{revived_is_sound}
use Rattle.rel_handler.proofs.Boots.{boots_to}
use Rattle.rel_handler.proofs.RepairLemmas.{boot_quiet, boot_refused, is_lack}
use Rattle.rel_handler.proofs.booting.boot.Goals as goal

-- the disk can't be read; what a read gives is one of the images
pub returns-in-Err-clause-recovers : goal.returns-in-Err-clause-recovers
returns-in-Err-clause-recovers g c = λ k all.
    let of = all (g.D.Disk.seen c.args.disk) (g.met.D.Disk.reads_an_image c.args.disk) in
    c.in-Err.ensures.only of.list of.image_of

pub returns-in-Err-clause-stored : goal.returns-in-Err-clause-stored
returns-in-Err-clause-stored g c = λ s here.
    inl (weakened g.D.Disk.moment g.D.Disk.left_since c.args.disk _ (g.D.Disk.may_leave c.args.disk) (IsCrashImageOf s) here c.in-Err.ensures.any_moment)

-- there is no room for the record of the boot, or no memory
pub returns-in-Err-boot_record-clause-only : goal.returns-in-Err-boot_record-clause-only
returns-in-Err-boot_record-clause-only g c = λ es image.
    record_lack g.D.Disk c.args.disk c.in-Ok.node c.in-Ok.ensures.opened es image (c.in-Ok.ensures.only es image) c.in-Err-boot_record.error c.in-Err-boot_record.ensures.refused

pub returns-in-Err-boot_record-clause-recovers : goal.returns-in-Err-boot_record-clause-recovers
returns-in-Err-boot_record-clause-recovers g c = λ k all.
    let of = all (g.D.Disk.seen c.args.disk) (g.met.D.Disk.reads_an_image c.args.disk) in
    record_lack g.D.Disk c.args.disk c.in-Ok.node c.in-Ok.ensures.opened of.list of.image_of (c.in-Ok.ensures.only of.list of.image_of) c.in-Err-boot_record.error c.in-Err-boot_record.ensures.refused

pub returns-in-Err-boot_record-clause-synced : goal.returns-in-Err-boot_record-clause-synced
returns-in-Err-boot_record-clause-synced g c =
    let (at, settles) = c.in-Ok.ensures.synced in
    inr (at, subst (λ d. SettlesAt g.D.Disk c.args.disk d at) (sym c.into_disk.ensures) settles)

pub returns-in-Err-boot_record-clause-refused : goal.returns-in-Err-boot_record-clause-refused
returns-in-Err-boot_record-clause-refused g c =
    record_refused g.D.Disk c.args.disk c.into_disk.result c.in-Ok.node c.in-Ok.ensures.opened c.in-Err-boot_record.error c.in-Err-boot_record.ensures.refused

pub returns-in-Err-boot_record-clause-any_moment : goal.returns-in-Err-boot_record-clause-any_moment
returns-in-Err-boot_record-clause-any_moment g c =
    subst (λ d. LeavesOnly g.D.Disk.moment g.D.Disk.left_since c.args.disk d (λ c'. g.D.Disk.may_leave c.args.disk c' ⊎ IsLeftByBoot (g.D.Disk.seen c.args.disk) c')) (sym c.into_disk.ensures)
    (weakened g.D.Disk.moment g.D.Disk.left_since c.args.disk _ (g.D.Disk.may_leave c.args.disk) _ (λ c' now. inl now) c.in-Ok.ensures.opened.only_read.any_moment)

pub returns-in-Err-boot_record-clause-stored : goal.returns-in-Err-boot_record-clause-stored
returns-in-Err-boot_record-clause-stored g c = λ s here.
    subst (KeepsStore g.D.Disk s c.args.disk) (sym c.into_disk.ensures)
    (inl (weakened g.D.Disk.moment g.D.Disk.left_since c.args.disk _ (g.D.Disk.may_leave c.args.disk) (IsCrashImageOf s) here c.in-Ok.ensures.opened.only_read.any_moment))

-- The boot can be finished.
pub finish-requires-clause-ready : goal.finish-requires-clause-ready
finish-requires-clause-ready g c = ready_now g.D.Disk c.args.disk c.in-Ok.node c.in-Ok.ensures.opened c.in-Ok-boot_record.ensures.room

-- the node is booted
pub returns-in-Ok-finish-clause-sound : goal.returns-in-Ok-finish-clause-sound
returns-in-Ok-finish-clause-sound g c =
    let f = c.in-Ok-finish.ensures in
    revived_is_sound g.D.Disk c.finish.new.node f.booted.ready f.started (ap has_one_shot f.booted.list ∙ boot_leaves_no_one_shot (list_in c.in-Ok.node))

pub returns-in-Ok-finish-clause-image : goal.returns-in-Ok-finish-clause-image
returns-in-Ok-finish-clause-image g c =
    let opened = c.in-Ok.ensures.opened in
    (list_in c.in-Ok.node, image_there g.D.Disk c.args.disk c.in-Ok.node opened c.in-Ok-boot_record.ensures.room, opened.read.as_recorded)

pub returns-in-Ok-finish-clause-only : goal.returns-in-Ok-finish-clause-only
returns-in-Ok-finish-clause-only g c = λ es image.
    boot_of g.D.Disk c.args.disk c.in-Ok.node c.in-Ok.ensures.opened es image (c.in-Ok.ensures.only es image) c.finish.new.node false c.in-Ok-finish.ensures.booted

pub returns-in-Ok-finish-clause-right : goal.returns-in-Ok-finish-clause-right
returns-in-Ok-finish-clause-right g c = λ es image right.
    let opened = c.in-Ok.ensures.opened in
    let only = c.in-Ok.ensures.only es image in
    let disk = c.args.disk in
    writes_no_start g.D.Disk disk c.in-Ok.node opened es image only (disk_in c.finish.new.node) (c.in-Ok-finish.ensures.right (right_there g.D.Disk disk c.in-Ok.node opened es image only right))

pub returns-in-Ok-finish-clause-recovers : goal.returns-in-Ok-finish-clause-recovers
returns-in-Ok-finish-clause-recovers g c = λ k all.
    let of = all (g.D.Disk.seen c.args.disk) (g.met.D.Disk.reads_an_image c.args.disk) in
    let is = boot_of g.D.Disk c.args.disk c.in-Ok.node c.in-Ok.ensures.opened of.list of.image_of (c.in-Ok.ensures.only of.list of.image_of) c.finish.new.node false c.in-Ok-finish.ensures.booted in
    boots_to k (g.D.Disk.seen c.args.disk) _ of is.list

pub returns-in-Ok-finish-clause-any_moment : goal.returns-in-Ok-finish-clause-any_moment
returns-in-Ok-finish-clause-any_moment g c =
    boot_moments g.D.Disk c.args.disk c.in-Ok.node c.in-Ok.ensures.opened c.in-Ok-boot_record.ensures.room g.met.D.Disk.counts_now (disk_in c.finish.new.node) c.in-Ok-finish.ensures.leaves

pub returns-in-Ok-finish-clause-synced : goal.returns-in-Ok-finish-clause-synced
returns-in-Ok-finish-clause-synced g c =
    let (at, settles) = c.in-Ok.ensures.synced in
    (at, boot_settles g.D.Disk c.args.disk c.in-Ok.node c.in-Ok.ensures.opened c.in-Ok-boot_record.ensures.room g.met.D.Disk.counts_now (disk_in c.finish.new.node) c.in-Ok-finish.ensures.leaves at settles)

pub returns-in-Ok-finish-clause-stored : goal.returns-in-Ok-finish-clause-stored
returns-in-Ok-finish-clause-stored g c = λ s here.
    let (at, settles) = c.in-Ok.ensures.synced in
    keeps_store g.D.Disk g.met.D.Disk.reads_an_image g.met.D.Disk.counts_now c.args.disk c.in-Ok.node c.in-Ok.ensures.opened c.in-Ok-boot_record.ensures.room (disk_in c.finish.new.node) c.in-Ok-finish.ensures.leaves at settles s here

-- the device failed in what was left, or memory was refused
pub returns-in-Err-finish-clause-any_moment : goal.returns-in-Err-finish-clause-any_moment
returns-in-Err-finish-clause-any_moment g c =
    subst (λ d. LeavesOnly g.D.Disk.moment g.D.Disk.left_since c.args.disk d (λ c'. g.D.Disk.may_leave c.args.disk c' ⊎ IsLeftByBoot (g.D.Disk.seen c.args.disk) c')) (sym c.into_disk-in-Err-finish.ensures)
    (boot_moments g.D.Disk c.args.disk c.in-Ok.node c.in-Ok.ensures.opened c.in-Ok-boot_record.ensures.room g.met.D.Disk.counts_now (disk_in c.finish.new.node) c.in-Err-finish.ensures.leaves)

pub returns-in-Err-finish-clause-synced : goal.returns-in-Err-finish-clause-synced
returns-in-Err-finish-clause-synced g c =
    let (at, settles) = c.in-Ok.ensures.synced in
    inr (
      at,
      subst (λ d. SettlesAt g.D.Disk c.args.disk d at) (sym c.into_disk-in-Err-finish.ensures)
          (boot_settles g.D.Disk c.args.disk c.in-Ok.node c.in-Ok.ensures.opened c.in-Ok-boot_record.ensures.room g.met.D.Disk.counts_now (disk_in c.finish.new.node) c.in-Err-finish.ensures.leaves at settles),
    )

pub returns-in-Err-finish-clause-stored : goal.returns-in-Err-finish-clause-stored
returns-in-Err-finish-clause-stored g c = λ s here.
    let (at, settles) = c.in-Ok.ensures.synced in
    subst (KeepsStore g.D.Disk s c.args.disk) (sym c.into_disk-in-Err-finish.ensures)
    (keeps_store g.D.Disk g.met.D.Disk.reads_an_image g.met.D.Disk.counts_now c.args.disk c.in-Ok.node c.in-Ok.ensures.opened c.in-Ok-boot_record.ensures.room (disk_in c.finish.new.node) c.in-Err-finish.ensures.leaves at settles s here)

pub returns-in-Err-finish-clause-only : goal.returns-in-Err-finish-clause-only
returns-in-Err-finish-clause-only g c = λ es image. is_lack g.D.Disk c.in-Ok.node c.finish.new.node c.in-Err-finish.error c.in-Err-finish.ensures.refused

pub returns-in-Err-finish-clause-recovers : goal.returns-in-Err-finish-clause-recovers
returns-in-Err-finish-clause-recovers g c = λ k all. is_lack g.D.Disk c.in-Ok.node c.finish.new.node c.in-Err-finish.error c.in-Err-finish.ensures.refused

pub returns-in-Err-finish-clause-quiet : goal.returns-in-Err-finish-clause-quiet
returns-in-Err-finish-clause-quiet g c =
    subst (λ d. (c.in-Err-finish.error ≡ Device) ⊎ HasOnlyRead g.D.Disk.seen g.D.Disk.may_leave g.D.Disk.moment g.D.Disk.left_since c.args.disk d) (sym c.into_disk-in-Err-finish.ensures)
    (boot_quiet g.D.Disk c.in-Ok.node c.finish.new.node c.args.disk c.in-Ok.ensures.opened.only_read c.in-Err-finish.error c.in-Err-finish.ensures.refused)

pub returns-in-Err-finish-clause-refused : goal.returns-in-Err-finish-clause-refused
returns-in-Err-finish-clause-refused g c =
    subst (λ d. BootRefused (g.D.Disk.seen c.args.disk) (g.D.Disk.failures c.args.disk) (g.D.Disk.failures d) c.in-Err-finish.error) (sym c.into_disk-in-Err-finish.ensures)
    (boot_refused g.D.Disk c.in-Ok.node c.finish.new.node c.args.disk c.in-Ok.ensures.counted c.in-Err-finish.ensures.leaves.counted c.in-Err-finish.error c.in-Err-finish.ensures.refused)
