use Rattle.std.proofs.Common.{◌≡◌, ℕ, ◌+◌, ◌≤◌, true, List, [], ◌∷◌, ◌++◌, length, length-drop, drop, get_or, Option, Some, Ok, ap, subst, sym, ◌∙◌, arith}
use Rattle.rel_store.specs.Records.{is_whole, spelled_length}
use Rattle.rel_store.specs.declared.error.StoreError.TheVariants.{NoMemory}
use Rattle.std.specs.Prelude.{IfSome}
use Rattle.std.proofs.lemmas.Grind.{common_steps}
use Rattle.rel_store.proofs.Exits.{no_value}
use Rattle.rel_store.proofs.OnlyReads.{read_on}
use Rattle.rel_store.proofs.Scan.{IsReadTo, whole_from, bodies_of, read_body_more, read_all, refused_there, refused_in_read, passed_on}
use Rattle.rel_store.proofs.contents.read_records.Goals as goal

some_so : {A : Type 0} (P : A → Type 0) (o : Option A) (x : A) → o ≡ Some x → IfSome o P → P x
some_so P o x is holds = subst (λ q. IfSome q P) is holds

-- a whole record is no longer than it may be, and ends within the disk
ends_within : (bytes : List ℕ) (gate size : ℕ) → (get_or bytes gate 0 ≡ 1) × (is_whole (drop (gate + 1) bytes) ≡ true) × (size ≡ spelled_length (drop (gate + 1) bytes)) → (size ≤ 16777216) × (gate + (5 + size) ≤ length bytes)
ends_within bytes gate size there =
    let whole = whole_from (drop (gate + 1) bytes) there.1 in
    (omega (arith, whole.0, there.2), omega (arith, whole.1, there.2, length-drop (gate + 1) bytes))

pub returns-in_err-size-clause-refused : goal.returns-in_err-size-clause-refused
returns-in_err-size-clause-refused g c =
    let (read, reads, counted, unsynced) = c.loop-records.invariant in
    passed_on _ c.from_residual.result c.in_err-size.field-0.0 c.from_residual.ensures.1
    (refused_there (g.D.Disk.seen c.args.disk.now) (g.D.Disk.seen c.loop-records.disk) c.args.base c.loop-records.gate (bodies_of c.loop-records.records.items) (g.D.Disk.failures c.args.disk.now) (g.D.Disk.failures c.loop-records.disk) (g.D.Disk.failures c.record_at.new.disk)
    c.in_err-size.field-0.0 read reads.same counted c.record_at.ensures.counted c.in_err-size.ensures.refused)

pub loop-records-preserved : goal.loop-records-preserved
loop-records-preserved g c =
    let (read, reads, counted, unsynced) = c.loop-records.invariant in
    let added : bodies_of c.push.new.self.items ≡ bodies_of c.loop-records.records.items ++ c.in_ok-body.body.items ∷ [] = grind (arith, common_steps) in
    let next = read_body_more (g.D.Disk.seen c.args.disk.now) (g.D.Disk.seen c.loop-records.disk) (g.D.Disk.seen c.record_at.new.disk) c.args.base c.loop-records.gate c.in-Some.size (bodies_of c.loop-records.records.items) c.in_ok-body.body.items
    read reads.same c.record_at.ensures.reads.same (some_so _ c.in_ok-size.field-0 c.in-Some.size c.in-Some.is c.in_ok-size.ensures.open) c.in_ok-body.ensures.ok in
    let read_so_far = read_on g.D.Disk.seen g.D.Disk.may_leave g.D.Disk.moment g.D.Disk.left_since c.args.disk.now c.loop-records.disk c.record_at.new.disk reads c.record_at.ensures.reads in (
      subst (IsReadTo (g.D.Disk.seen c.args.disk.now) c.args.base (c.loop-records.gate + (5 + c.in-Some.size))) (sym added) next,
      read_on g.D.Disk.seen g.D.Disk.may_leave g.D.Disk.moment g.D.Disk.left_since c.args.disk.now c.record_at.new.disk c.read_body.new.disk read_so_far c.read_body.ensures.reads,
      omega (arith, counted, c.record_at.ensures.counted, c.read_body.ensures.counted),
      c.read_body.ensures.unsynced ∙ c.record_at.ensures.unsynced ∙ unsynced,
    )

pub returns-clause-records : goal.returns-clause-records
returns-clause-records g c =
    let (read, reads, counted, unsynced) = c.loop-records.invariant in
    read_all (g.D.Disk.seen c.args.disk.now) c.args.base c.loop-records.gate (bodies_of c.loop-records.records.items) read (λ is_open. c.in_ok-size.ensures.closed (ap (λ o. Ok o) c.in_default.is) (subst (λ l. get_or l c.loop-records.gate 0 ≡ 1) (sym reads.same) is_open))

pub returns-in_err-size-clause-reads : goal.returns-in_err-size-clause-reads
returns-in_err-size-clause-reads g c = read_on g.D.Disk.seen g.D.Disk.may_leave g.D.Disk.moment g.D.Disk.left_since c.args.disk.now c.loop-records.disk c.record_at.new.disk c.loop-records.invariant.1 c.record_at.ensures.reads

pub returns-in_err-body-clause-reads : goal.returns-in_err-body-clause-reads
returns-in_err-body-clause-reads g c = read_on g.D.Disk.seen g.D.Disk.may_leave g.D.Disk.moment g.D.Disk.left_since c.args.disk.now c.record_at.new.disk c.read_body.new.disk (read_on g.D.Disk.seen g.D.Disk.may_leave g.D.Disk.moment g.D.Disk.left_since c.args.disk.now c.loop-records.disk c.record_at.new.disk c.loop-records.invariant.1 c.record_at.ensures.reads) c.read_body.ensures.reads

pub returns-in_err-push-clause-reads : goal.returns-in_err-push-clause-reads
returns-in_err-push-clause-reads g c = read_on g.D.Disk.seen g.D.Disk.may_leave g.D.Disk.moment g.D.Disk.left_since c.args.disk.now c.record_at.new.disk c.read_body.new.disk (read_on g.D.Disk.seen g.D.Disk.may_leave g.D.Disk.moment g.D.Disk.left_since c.args.disk.now c.loop-records.disk c.record_at.new.disk c.loop-records.invariant.1 c.record_at.ensures.reads) c.read_body.ensures.reads

pub returns-clause-reads : goal.returns-clause-reads
returns-clause-reads g c = read_on g.D.Disk.seen g.D.Disk.may_leave g.D.Disk.moment g.D.Disk.left_since c.args.disk.now c.loop-records.disk c.record_at.new.disk c.loop-records.invariant.1 c.record_at.ensures.reads

-- after an error
pub returns-in_err-size-clause-records : goal.returns-in_err-size-clause-records
returns-in_err-size-clause-records g c = no_value _ _ c.from_residual.ensures.0

pub returns-in_err-size-clause-gate : goal.returns-in_err-size-clause-gate
returns-in_err-size-clause-gate g c = no_value _ _ c.from_residual.ensures.0

pub returns-in_err-body-clause-records : goal.returns-in_err-body-clause-records
returns-in_err-body-clause-records g c = no_value _ _ c.from_residual-in_err-body.ensures.0

pub returns-in_err-body-clause-gate : goal.returns-in_err-body-clause-gate
returns-in_err-body-clause-gate g c = no_value _ _ c.from_residual-in_err-body.ensures.0

pub returns-in_err-push-clause-records : goal.returns-in_err-push-clause-records
returns-in_err-push-clause-records g c = no_value _ _ c.from_residual-in_err-push.ensures.0

pub returns-in_err-push-clause-gate : goal.returns-in_err-push-clause-gate
returns-in_err-push-clause-gate g c = no_value _ _ c.from_residual-in_err-push.ensures.0

-- so much has been read that nothing of it is past the disk's end
pub record_at-requires-clause-within : goal.record_at-requires-clause-within
record_at-requires-clause-within g c = omega (arith, c.loop-records.invariant.0.within, c.requires.len)

pub record_at-requires-clause-len : goal.record_at-requires-clause-len
record_at-requires-clause-len g c = c.requires.len ∙ ap length (sym c.loop-records.invariant.1.same)

pub read_body-requires : goal.read_body-requires
read_body-requires g c =
    let there = ends_within (g.D.Disk.seen c.loop-records.disk) c.loop-records.gate c.in-Some.size (some_so _ c.in_ok-size.field-0 c.in-Some.size c.in-Some.is c.in_ok-size.ensures.open) in
    omega (arith, there.1, ap length c.record_at.ensures.reads.same)

pub overflow_add-gate : goal.overflow_add-gate
overflow_add-gate g c =
    let there = ends_within (g.D.Disk.seen c.loop-records.disk) c.loop-records.gate c.in-Some.size (some_so _ c.in_ok-size.field-0 c.in-Some.size c.in-Some.is c.in_ok-size.ensures.open) in
    omega (arith, there.1, c.requires.len, ap length c.loop-records.invariant.1.same, c.ranges.len)

pub overflow_add-gate-in-Some : goal.overflow_add-gate-in-Some
overflow_add-gate-in-Some g c =
    omega (arith, (ends_within (g.D.Disk.seen c.loop-records.disk) c.loop-records.gate c.in-Some.size (some_so _ c.in_ok-size.field-0 c.in-Some.size c.in-Some.is c.in_ok-size.ensures.open)).0)

pub overflow_add-gate-in-Some-2 : goal.overflow_add-gate-in-Some-2
overflow_add-gate-in-Some-2 g c =
    let there = ends_within (g.D.Disk.seen c.loop-records.disk) c.loop-records.gate c.in-Some.size (some_so _ c.in_ok-size.field-0 c.in-Some.size c.in-Some.is c.in_ok-size.ensures.open) in
    omega (arith, there.1, c.requires.len, ap length c.loop-records.invariant.1.same, c.ranges.len)

pub loop-records-smaller : goal.loop-records-smaller
loop-records-smaller g c = omega (arith, c.loop-records.invariant.0.within, c.requires.len)

-- the device fails, or memory is refused
pub returns-in_err-body-clause-refused : goal.returns-in_err-body-clause-refused
returns-in_err-body-clause-refused g c =
    let (read, reads, counted, unsynced) = c.loop-records.invariant in
    passed_on _ c.from_residual-in_err-body.result c.in_err-body.field-0.0 c.from_residual-in_err-body.ensures.1
    (refused_in_read _ (g.D.Disk.failures c.args.disk.now) (g.D.Disk.failures c.record_at.new.disk) (g.D.Disk.failures c.read_body.new.disk) c.in_err-body.field-0.0 (omega (arith, counted, c.record_at.ensures.counted)) c.read_body.ensures.counted c.in_err-body.ensures.refused)

pub returns-in_err-push-clause-refused : goal.returns-in_err-push-clause-refused
returns-in_err-push-clause-refused g c = passed_on _ _ NoMemory c.from_residual-in_err-push.ensures.1 tt

pub returns-clause-gate : goal.returns-clause-gate
returns-clause-gate g c = c.loop-records.invariant.0.place
