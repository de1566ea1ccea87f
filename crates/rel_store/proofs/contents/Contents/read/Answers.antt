use Rattle.std.proofs.Common.{◌≡◌, ◌⊎◌, inl, inr, ◌+◌, ◌<◌, ◌≤◌, length, take, drop, refl, sym, ◌∙◌, ap, subst, arith}
use Rattle.rel_store.specs.Contents.{RecordsRefused}
use Rattle.rel_store.specs.Records.{records_from, space}
use Rattle.rel_store.specs.declared.error.StoreError.TheVariants.{Device}
use Rattle.rel_store.proofs.Exits.{no_value}
use Rattle.rel_store.proofs.Layouts.{no_magic, selector_there, choice_there, format_there, no_base, records_there, place_there, refused_by_records}
use Rattle.rel_store.proofs.OnlyReads.{read_first, read_twice, read_on}
use Rattle.rel_store.proofs.Scan.{bodies_of, passed_on, failed_since, refused_since}
use Rattle.rel_store.proofs.contents.Contents.read.Goals as goal

pub returns-then-not-begins_a_store-clause-refused : goal.returns-then-not-begins_a_store-clause-refused
returns-then-not-begins_a_store-clause-refused g c =
    let layout = c.in_ok-read.ensures.bytes ∙ ap (λ l. take 288 l) c.len.ensures.same in
    no_magic (g.D.Disk.seen c.args.disk.now) c.read.new.buf layout (sym c.begins_a_store.ensures ∙ c.if-not-begins_a_store.true)

pub returns-then-base-lt-FIRST_RECORD-clause-refused : goal.returns-then-base-lt-FIRST_RECORD-clause-refused
returns-then-base-lt-FIRST_RECORD-clause-refused g c =
    let bytes = g.D.Disk.seen c.args.disk.now in
    let layout = c.in_ok-read.ensures.bytes ∙ ap (λ l. take 288 l) c.len.ensures.same in
    let len : c.in_ok-len.len ≡ length bytes = c.in_ok-len.ensures.value in
    let long : 289 ≤ length bytes = omega (arith, c.if-len.false, len) in
    let out : (c.place_at-base.result < 288) ⊎ (length bytes ≤ c.place_at-base.result) = elim c.then-base-lt-FIRST_RECORD.either [ inl low ↦ inl low | inr far ↦ inr (omega (arith, far, len)) ] in
    no_base bytes c.read.new.buf layout c.base_slot_of-slot.result c.place_at-base.result long (sym c.begins_a_store.ensures ∙ c.if-not-begins_a_store.false) c.base_slot_of-slot.ensures c.place_at-base.ensures out

pub returns-in_err-found-clause-refused : goal.returns-in_err-found-clause-refused
returns-in_err-found-clause-refused g c =
    let bytes = g.D.Disk.seen c.args.disk.now in
    let layout = c.in_ok-read.ensures.bytes ∙ ap (λ l. take 288 l) c.len.ensures.same in
    let len : c.in_ok-len.len ≡ length bytes = c.in_ok-len.ensures.value in
    let long : 289 ≤ length bytes = omega (arith, c.if-len.false, len) in
    let there = c.read.ensures.same ∙ c.len.ensures.same in
    let why = refused_since _ (g.D.Disk.failures c.args.disk.now) (g.D.Disk.failures c.read.new.self) (g.D.Disk.failures c.read_records.new.disk) c.in_err-found.field-0.0 (omega (arith, c.len.ensures.counted, c.read.ensures.counted)) c.read_records.ensures.counted
    c.in_err-found.ensures.refused in
    passed_on _ c.from_residual-in_err-found.result c.in_err-found.field-0.0 c.from_residual-in_err-found.ensures.1
    (refused_by_records bytes c.read.new.buf layout c.base_slot_of-slot.result c.place_at-base.result long (sym c.begins_a_store.ensures ∙ c.if-not-begins_a_store.false) c.base_slot_of-slot.ensures c.place_at-base.ensures
    c.if-base-lt-FIRST_RECORD.false (omega (arith, c.if-base-len.false, len)) _ _ c.in_err-found.field-0.0 (subst (λ l. RecordsRefused (records_from c.place_at-base.result 0 (drop c.place_at-base.result l)) (g.D.Disk.failures c.args.disk.now) (g.D.Disk.failures c.read_records.new.disk) c.in_err-found.field-0.0) there why))

pub returns-clause-ok : goal.returns-clause-ok
returns-clause-ok g c =
    let bytes = g.D.Disk.seen c.args.disk.now in
    let layout = c.in_ok-read.ensures.bytes ∙ ap (λ l. take 288 l) c.len.ensures.same in
    let len : c.in_ok-len.len ≡ length bytes = c.in_ok-len.ensures.value in
    let long : 289 ≤ length bytes = omega (arith, c.if-len.false, len) in
    let magic = sym c.begins_a_store.ensures ∙ c.if-not-begins_a_store.false in
    let there = c.read.ensures.same ∙ c.len.ensures.same in
    let place = place_there bytes c.read.new.buf layout c.base_slot_of-slot.result c.place_at-base.result long magic c.base_slot_of-slot.ensures c.place_at-base.ensures c.if-base-lt-FIRST_RECORD.false (omega (arith, c.if-base-len.false, len)) in
    record {
      records = records_there bytes c.read.new.buf layout c.base_slot_of-slot.result c.place_at-base.result long magic c.base_slot_of-slot.ensures c.place_at-base.ensures c.if-base-lt-FIRST_RECORD.false (omega (arith, c.if-base-len.false, len)) _ (sym (ap (λ l. records_from c.place_at-base.result 0 (drop c.place_at-base.result l)) there) ∙ c.in_ok-found.ensures.records);
      end = c.in_ok-found.ensures.gate ∙ ap (λ at. at + space (bodies_of c.in_ok-found.found.records.items)) place;
      start = selector_there bytes c.read.new.buf layout;
      base = place;
      chooses = choice_there bytes c.read.new.buf layout;
      format = c.format_of.ensures ∙ format_there bytes c.read.new.buf layout;
    }

pub returns-in_err-len-clause-reads : goal.returns-in_err-len-clause-reads
returns-in_err-len-clause-reads g c = read_first g.D.Disk.seen g.D.Disk.may_leave g.D.Disk.moment g.D.Disk.left_since c.args.disk.now (g.met.D.Disk.only_now c.args.disk.now) c.len.new.self c.len.ensures.same c.len.ensures.crash c.len.ensures.time

pub returns-then-len-clause-reads : goal.returns-then-len-clause-reads
returns-then-len-clause-reads g c = read_first g.D.Disk.seen g.D.Disk.may_leave g.D.Disk.moment g.D.Disk.left_since c.args.disk.now (g.met.D.Disk.only_now c.args.disk.now) c.len.new.self c.len.ensures.same c.len.ensures.crash c.len.ensures.time

pub returns-in_err-read-clause-reads : goal.returns-in_err-read-clause-reads
returns-in_err-read-clause-reads g c = read_twice g.D.Disk.seen g.D.Disk.may_leave g.D.Disk.moment g.D.Disk.left_since c.args.disk.now (g.met.D.Disk.only_now c.args.disk.now) c.len.new.self c.read.new.self c.len.ensures.same c.len.ensures.crash c.len.ensures.time c.read.ensures.same c.read.ensures.crash c.read.ensures.time

pub returns-then-not-begins_a_store-clause-reads : goal.returns-then-not-begins_a_store-clause-reads
returns-then-not-begins_a_store-clause-reads g c = read_twice g.D.Disk.seen g.D.Disk.may_leave g.D.Disk.moment g.D.Disk.left_since c.args.disk.now (g.met.D.Disk.only_now c.args.disk.now) c.len.new.self c.read.new.self c.len.ensures.same c.len.ensures.crash c.len.ensures.time c.read.ensures.same c.read.ensures.crash c.read.ensures.time

pub returns-then-base-lt-FIRST_RECORD-clause-reads : goal.returns-then-base-lt-FIRST_RECORD-clause-reads
returns-then-base-lt-FIRST_RECORD-clause-reads g c = read_twice g.D.Disk.seen g.D.Disk.may_leave g.D.Disk.moment g.D.Disk.left_since c.args.disk.now (g.met.D.Disk.only_now c.args.disk.now) c.len.new.self c.read.new.self c.len.ensures.same c.len.ensures.crash c.len.ensures.time c.read.ensures.same c.read.ensures.crash c.read.ensures.time

pub returns-in_err-found-clause-reads : goal.returns-in_err-found-clause-reads
returns-in_err-found-clause-reads g c = read_on g.D.Disk.seen g.D.Disk.may_leave g.D.Disk.moment g.D.Disk.left_since c.args.disk.now c.read.new.self c.read_records.new.disk (read_twice g.D.Disk.seen g.D.Disk.may_leave g.D.Disk.moment g.D.Disk.left_since c.args.disk.now (g.met.D.Disk.only_now c.args.disk.now) c.len.new.self c.read.new.self c.len.ensures.same c.len.ensures.crash c.len.ensures.time c.read.ensures.same c.read.ensures.crash c.read.ensures.time) c.read_records.ensures.reads

pub returns-clause-reads : goal.returns-clause-reads
returns-clause-reads g c = read_on g.D.Disk.seen g.D.Disk.may_leave g.D.Disk.moment g.D.Disk.left_since c.args.disk.now c.read.new.self c.read_records.new.disk (read_twice g.D.Disk.seen g.D.Disk.may_leave g.D.Disk.moment g.D.Disk.left_since c.args.disk.now (g.met.D.Disk.only_now c.args.disk.now) c.len.new.self c.read.new.self c.len.ensures.same c.len.ensures.crash c.len.ensures.time c.read.ensures.same c.read.ensures.crash c.read.ensures.time) c.read_records.ensures.reads

-- after an error
pub returns-in_err-len-clause-ok : goal.returns-in_err-len-clause-ok
returns-in_err-len-clause-ok g c = no_value _ _ c.from_residual.ensures.0

pub returns-in_err-read-clause-ok : goal.returns-in_err-read-clause-ok
returns-in_err-read-clause-ok g c = no_value _ _ c.from_residual-in_err-read.ensures.0

pub returns-in_err-found-clause-ok : goal.returns-in_err-found-clause-ok
returns-in_err-found-clause-ok g c = no_value _ _ c.from_residual-in_err-found.ensures.0

-- the device fails
pub returns-in_err-len-clause-refused : goal.returns-in_err-len-clause-refused
returns-in_err-len-clause-refused g c = passed_on _ _ Device c.from_residual.ensures.1 (c.in_err-len.ensures.cause refl)

pub returns-in_err-read-clause-refused : goal.returns-in_err-read-clause-refused
returns-in_err-read-clause-refused g c = passed_on _ _ Device c.from_residual-in_err-read.ensures.1 (failed_since _ _ _ c.len.ensures.counted c.read.ensures.counted (c.in_err-read.ensures.cause refl))
