use Rattle.std.proofs.Common.{◌≡◌, ℕ, ◌+◌, List, [], ◌∷◌, length, inl, refl, sym, ◌∙◌, ap, arith, Ok}
use Rattle.std.specs.Prelude.{◌==◌}
use Rattle.rel_disk.specs.Damage.{overwritten}
use Rattle.rel_disk.specs.Moments.{LeavesOnly}
use Rattle.rel_disk.specs.declared.disk.Disk.{Ghosts}
use Rattle.rel_disk.proofs.Moments.{weakened}
use Rattle.rel_store.specs.Creation.{Creates}
use Rattle.rel_store.specs.Layout.{base_of}
use Rattle.rel_store.specs.Records.{space}
use Rattle.rel_store.proofs.NewStore.{new_stands, new_base, new_selector, new_choice, new_format, begun_after_reading, creates_after_reading}
use Rattle.rel_store.proofs.Refusals.{not_both}
use Rattle.rel_store.proofs.Scan.{failed_since}
use Rattle.rel_store.proofs.store.Store.create.Goals as goal

-- the disk was only read
unwritten : {D : Type 0} (v : Ghosts D) (first start : List ℕ) (old new : D) → LeavesOnly v.moment v.left_since old new (v.may_leave old) → v.syncs new ≡ v.syncs old → Creates v first start old new
unwritten v first start old new leaves unsynced = inl (record { until = weakened v.moment v.left_since old new _ _ (λ c now. inl now) leaves; unsynced = unsynced })

pub returns-in-Err-clause-any_moment : goal.returns-in-Err-clause-any_moment
returns-in-Err-clause-any_moment g c = unwritten g.D.Disk c.args.first.now c.args.start.now c.args.disk c.lay_out.new.disk c.lay_out.ensures.any_moment c.lay_out.ensures.unsynced

pub returns-in-Err-clause-taken : goal.returns-in-Err-clause-taken
returns-in-Err-clause-taken g c = λ magic. (record { same = c.lay_out.ensures.same; any_moment = c.lay_out.ensures.any_moment }, refl)

pub returns-in-Err-clause-counted : goal.returns-in-Err-clause-counted
returns-in-Err-clause-counted g c = c.lay_out.ensures.counted

pub returns-in-Err-clause-refused : goal.returns-in-Err-clause-refused
returns-in-Err-clause-refused g c = c.in-Err.ensures.refused

-- the device has failed while the store was written
pub returns-in-Err-write_store-clause-any_moment : goal.returns-in-Err-write_store-clause-any_moment
returns-in-Err-write_store-clause-any_moment g c =
    let read = c.lay_out.ensures in
    creates_after_reading g.D.Disk c.args.first.now c.args.start.now c.args.disk c.lay_out.new.disk c.write_store.new.disk read.any_moment read.crash read.same read.unsynced (c.write_store.ensures.any_moment c.args.first.now c.args.start.now (rw (← c.deref.ensures.value) at c.in-Ok.ensures.spelled))

pub returns-in-Err-write_store-clause-taken : goal.returns-in-Err-write_store-clause-taken
returns-in-Err-write_store-clause-taken g c = λ magic. absurd (not_both magic c.in-Ok.ensures.free)

pub returns-in-Err-write_store-clause-counted : goal.returns-in-Err-write_store-clause-counted
returns-in-Err-write_store-clause-counted g c = omega (arith, c.lay_out.ensures.counted, c.write_store.ensures.counted)

pub returns-in-Err-write_store-clause-refused : goal.returns-in-Err-write_store-clause-refused
returns-in-Err-write_store-clause-refused g c = failed_since _ _ _ c.lay_out.ensures.counted c.write_store.ensures.counted (c.in-Err-write_store.ensures.cause refl)

-- the store is written
pub returns-in-Ok-write_store-clause-any_moment : goal.returns-in-Ok-write_store-clause-any_moment
returns-in-Ok-write_store-clause-any_moment g c =
    let read = c.lay_out.ensures in
    creates_after_reading g.D.Disk c.args.first.now c.args.start.now c.args.disk c.lay_out.new.disk c.write_store.new.disk read.any_moment read.crash read.same read.unsynced (c.write_store.ensures.any_moment c.args.first.now c.args.start.now (rw (← c.deref.ensures.value) at c.in-Ok.ensures.spelled))

pub returns-in-Ok-write_store-clause-begun : goal.returns-in-Ok-write_store-clause-begun
returns-in-Ok-write_store-clause-begun g c =
    let read = c.lay_out.ensures in
    let begun = c.in-Ok-write_store.ensures.begun c.args.first.now c.args.start.now (rw (← c.deref.ensures.value) at c.in-Ok.ensures.spelled) in
    (begun.0, begun_after_reading g.D.Disk c.args.first.now c.args.start.now c.args.disk c.lay_out.new.disk c.write_store.new.disk read.any_moment read.crash read.same read.unsynced begun.0 begun.1)

pub returns-in-Ok-write_store-clause-bytes : goal.returns-in-Ok-write_store-clause-bytes
returns-in-Ok-write_store-clause-bytes g c = c.in-Ok-write_store.ensures.written ∙ (λ i. overwritten 0 (1 ∷ (c.deref.ensures.value ∙ c.in-Ok.ensures.spelled.spelled) i) (c.lay_out.ensures.same i))

pub returns-in-Ok-write_store-clause-settled : goal.returns-in-Ok-write_store-clause-settled
returns-in-Ok-write_store-clause-settled g c =
    let e = c.in-Ok.ensures in
    let short = e.spelled.short in
    let bytes = g.D.Disk.seen c.write_store.new.disk in
    let written = returns-in-Ok-write_store-clause-bytes g c in
    let here = new_stands c.args.start.now c.requires c.args.first.now short bytes _ written in
    let base = new_base c.args.start.now c.requires c.args.first.now short bytes _ written in
    let size : 288 + (5 + length c.args.first.now) ≡ base_of bytes + space (c.args.first.now ∷ []) = omega (arith, base) in
    record {
      works = refl;
      records = here.records ∙ ap (λ bodies. Ok bodies) (sym e.records);
      durable = c.in-Ok-write_store.ensures.durable;
      end = size ∙ ap (λ bodies. base_of bytes + space bodies) (sym e.records);
      start = ap (λ selector. selector == 1) (sym (new_selector c.args.start.now c.requires c.args.first.now short bytes _ written));
      base = sym base;
      chooses = ap (λ selector. selector == 1) (sym (new_choice c.args.start.now c.requires c.args.first.now short bytes _ written));
      format = sym (new_format c.args.start.now c.requires c.args.first.now short bytes _ written);
    }

pub returns-in-Ok-write_store-clause-start : goal.returns-in-Ok-write_store-clause-start
returns-in-Ok-write_store-clause-start g c =
    (new_stands c.args.start.now c.requires c.args.first.now c.in-Ok.ensures.spelled.short (g.D.Disk.seen c.write_store.new.disk) _ (returns-in-Ok-write_store-clause-bytes g c)).start

pub returns-in-Ok-write_store-clause-sound : goal.returns-in-Ok-write_store-clause-sound
returns-in-Ok-write_store-clause-sound g c = record { settled = λ works. returns-in-Ok-write_store-clause-settled g c }

pub returns-in-Ok-write_store-clause-records : goal.returns-in-Ok-write_store-clause-records
returns-in-Ok-write_store-clause-records g c = c.in-Ok.ensures.records

pub returns-in-Ok-write_store-clause-taken : goal.returns-in-Ok-write_store-clause-taken
returns-in-Ok-write_store-clause-taken g c = λ magic. absurd (not_both magic c.in-Ok.ensures.free)

pub returns-in-Ok-write_store-clause-counted : goal.returns-in-Ok-write_store-clause-counted
returns-in-Ok-write_store-clause-counted g c = omega (arith, c.lay_out.ensures.counted, c.write_store.ensures.counted)
