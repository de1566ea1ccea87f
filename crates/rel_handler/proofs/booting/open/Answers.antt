use Rattle.std.proofs.Common.{inl, inr, ⊎_elim, sym, subst, ap, ◌∙◌}
use Rattle.rel_records.specs.Lists.{Makes}
use Rattle.rel_records.proofs.Progress.{bodies_in}
use Rattle.rel_records.proofs.RecordLaws.{as_recorded}
use Rattle.rel_store.specs.Contents.{HasOnlyRead}
use Rattle.rel_store.specs.State.{records_in}
use Rattle.rel_handler.specs.Moments.{SettlesAt}
use Rattle.rel_handler.specs.Refusals.{reported_boot}
use Rattle.rel_handler.proofs.Boots.{IsBadOrLack, IsLack, makes_so, only_memory, only_reads, read_so, settles_so}
use Rattle.node_store.proofs.Images.{recorded_image}
use Rattle.rel_handler.proofs.booting.open.Goals as goal

-- the store was synced when it was opened
pub returns-in-Ok-read_list-clause-opened : goal.returns-in-Ok-read_list-clause-opened
returns-in-Ok-read_list-clause-opened g c =
    let store = c.in-Ok.store in
    let list = c.in-Ok-read_list.list in
    let made = c.in-Ok-read_list.ensures.made in
    let synced = ⊎_elim (λ never. absurd never.0) (λ synced. synced) c.in-Ok.ensures.synced in
    record {
      read = record { store = c.in-Ok.ensures.settled; makes = makes_so c.format.result store.format (bodies_in c.records.result.now) (records_in store) list c.format.ensures c.records.ensures made; as_recorded = as_recorded c.format.result (bodies_in c.records.result.now) list made };
      only_read = only_reads g.D.Disk.seen g.D.Disk.may_leave g.D.Disk.moment g.D.Disk.left_since g.met.D.Disk.counts_now c.args.disk store.disk synced.same c.in-Ok.ensures.any_moment;
    }

pub returns-in-Ok-read_list-clause-only : goal.returns-in-Ok-read_list-clause-only
returns-in-Ok-read_list-clause-only g c = λ es image. recorded_image (g.D.Disk.seen c.args.disk) (bodies_in c.records.result.now) c.in-Ok-read_list.list es (read_so (g.D.Disk.seen c.args.disk) (bodies_in c.records.result.now) (records_in c.in-Ok.store) c.records.ensures c.in-Ok.ensures.records) (subst (λ f. Makes f (bodies_in c.records.result.now) c.in-Ok-read_list.list) (c.format.ensures ∙ c.in-Ok.ensures.format) c.in-Ok-read_list.ensures.made) image

pub returns-in-Err-read_list-clause-only : goal.returns-in-Err-read_list-clause-only
returns-in-Err-read_list-clause-only g c = λ es image.
    subst IsLack (sym c.from.ensures) (only_memory (g.D.Disk.seen c.args.disk) (bodies_in c.records.result.now) (records_in c.in-Ok.store) es c.in-Err-read_list.error c.records.ensures c.in-Ok.ensures.records image (subst (λ f. IsBadOrLack f (bodies_in c.records.result.now) c.in-Err-read_list.error) (c.format.ensures ∙ c.in-Ok.ensures.format) c.in-Err-read_list.ensures.bad))

pub returns-in-Ok-read_list-clause-synced : goal.returns-in-Ok-read_list-clause-synced
returns-in-Ok-read_list-clause-synced g c =
    let synced = ⊎_elim (λ never. absurd never.0) (λ synced. synced) c.in-Ok.ensures.synced in
    (c.in-Ok.store.disk, settles_so g.D.Disk c.args.disk c.in-Ok.store.disk (g.met.D.Disk.only_now c.in-Ok.store.disk) synced c.in-Ok.ensures.any_moment)

pub returns-in-Err-read_list-clause-synced : goal.returns-in-Err-read_list-clause-synced
returns-in-Err-read_list-clause-synced g c =
    let synced = ⊎_elim (λ never. absurd never.0) (λ synced. synced) c.in-Ok.ensures.synced in
    inr (subst (λ d. (at : _) × SettlesAt g.D.Disk c.args.disk d at) (sym c.into_disk.ensures)
    (c.in-Ok.store.disk, settles_so g.D.Disk c.args.disk c.in-Ok.store.disk (g.met.D.Disk.only_now c.in-Ok.store.disk) synced c.in-Ok.ensures.any_moment))

pub returns-in-Err-read_list-clause-quiet : goal.returns-in-Err-read_list-clause-quiet
returns-in-Err-read_list-clause-quiet g c =
    let synced = ⊎_elim (λ never. absurd never.0) (λ synced. synced) c.in-Ok.ensures.synced in
    inr (subst (λ d. HasOnlyRead g.D.Disk.seen g.D.Disk.may_leave g.D.Disk.moment g.D.Disk.left_since c.args.disk d) (sym c.into_disk.ensures)
    (only_reads g.D.Disk.seen g.D.Disk.may_leave g.D.Disk.moment g.D.Disk.left_since g.met.D.Disk.counts_now c.args.disk _ synced.same c.in-Ok.ensures.any_moment))

pub returns-in-Err-clause-synced : goal.returns-in-Err-clause-synced
returns-in-Err-clause-synced g c =
    ⊎_elim (λ failed. inl (c.boot_error.ensures ∙ ap reported_boot failed.0, record { until = c.in-Err.ensures.any_moment; unsynced = failed.1 }))
    (λ synced. inr (_, settles_so g.D.Disk c.args.disk _ (g.met.D.Disk.only_now _) synced c.in-Err.ensures.any_moment)) c.in-Err.ensures.synced

pub returns-in-Err-clause-quiet : goal.returns-in-Err-clause-quiet
returns-in-Err-clause-quiet g c =
    ⊎_elim (λ failed. inl (c.boot_error.ensures ∙ ap reported_boot failed.0))
    (λ synced. inr (only_reads g.D.Disk.seen g.D.Disk.may_leave g.D.Disk.moment g.D.Disk.left_since g.met.D.Disk.counts_now c.args.disk _ synced.same c.in-Err.ensures.any_moment)) c.in-Err.ensures.synced
