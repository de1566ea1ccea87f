use Rattle.std.proofs.Common.{◌≡◌, ◌⊎◌, inl, inr, ℕ, ◌+◌, ◌-◌, ◌<◌, ◌≤◌, List, length, get_or, take, drop, refl, sym, ◌∙◌, ap, arith}
use Rattle.std.specs.Prelude.{slice_range}
use Rattle.std.proofs.lemmas.List.{get_or-take, get_or-drop}
use Rattle.rel_store.specs.Records.{spelled_length}
use Rattle.rel_store.specs.declared.error.StoreError.TheVariants.{Device}
use Rattle.rel_store.proofs.Exits.{no_value, no_ok}
use Rattle.rel_store.proofs.OnlyReads.{read_first}
use Rattle.rel_store.proofs.Scan.{reported_in_five, byte_in_five, whole_there, broken_there, passed_on}
use Rattle.rel_store.proofs.contents.record_at.Goals.{then-size-gt-MAX_BODY-via-then-size-gt-MAX_BODY, then-size-gt-MAX_BODY-via-else-size-gt-MAX_BODY+then-size-len}
use Rattle.rel_store.proofs.contents.record_at.Goals as goal

five : (bytes head : List ℕ) (gate : ℕ) → head ≡ slice_range bytes gate (gate + 5) → head ≡ take 5 (drop gate bytes)
five bytes head gate read = let count : gate + 5 - gate ≡ 5 = omega arith in read ∙ ap (λ n. take n (drop gate bytes)) count

-- the first byte of what was read
first_read : (bytes : List ℕ) (gate n : ℕ) (buf : List ℕ) → 0 < n → buf ≡ slice_range bytes gate (gate + n) → get_or buf 0 0 ≡ get_or bytes gate 0
first_read bytes gate n buf some read =
    let here : gate + 0 ≡ gate = omega arith in
    ap (λ l. get_or l 0 0) read ∙ get_or-take (gate + n - gate) (drop gate bytes) 0 0 (omega arith) ∙ get_or-drop gate bytes 0 0 ∙ ap (λ i. get_or bytes i 0) here

-- a gate so near the end has no whole record after it
too_near : (bytes : List ℕ) (gate len size : ℕ) → len ≡ length bytes → len - gate ≤ 5 → length bytes - gate ≤ 5 + size
too_near bytes gate len size is near = omega arith

pub returns-then-size-gt-MAX_BODY-clause-refused : goal.returns-then-size-gt-MAX_BODY-clause-refused
returns-then-size-gt-MAX_BODY-clause-refused g c =
    let bytes = g.D.Disk.seen c.args.disk.now in
    let head = five bytes c.read-2.new.buf c.args.gate c.in_ok-read-2.ensures.bytes in
    let reported = reported_in_five bytes c.args.gate c.body_length-size.result c.read-2.new.buf head c.body_length-size.ensures in
    let why : (16777216 < c.body_length-size.result) ⊎ (length bytes - c.args.gate ≤ 5 + c.body_length-size.result) =
    elim c.then-size-gt-MAX_BODY.branch [
      | then-size-gt-MAX_BODY-via-then-size-gt-MAX_BODY w ↦ inl w.if-size-gt-MAX_BODY.true
      | then-size-gt-MAX_BODY-via-else-size-gt-MAX_BODY+then-size-len w ↦ inr (omega (arith, w.if-size-len.true, c.requires.len))
    ] in
    (refl, byte_in_five bytes c.args.gate c.read-2.new.buf 1 head c.if-head-ne-OPEN.false, broken_there bytes c.args.gate c.body_length-size.result reported why)

pub returns-clause-open : goal.returns-clause-open
returns-clause-open g c =
    let bytes = g.D.Disk.seen c.args.disk.now in
    let head = five bytes c.read-2.new.buf c.args.gate c.in_ok-read-2.ensures.bytes in
    let reported = reported_in_five bytes c.args.gate c.body_length-size.result c.read-2.new.buf head c.body_length-size.ensures in (
      byte_in_five bytes c.args.gate c.read-2.new.buf 1 head c.if-head-ne-OPEN.false,
      whole_there bytes c.args.gate c.body_length-size.result reported c.if-size-gt-MAX_BODY.false (omega (arith, c.if-size-len.false, c.requires.len)),
      reported,
    )

pub returns-in_err-read-clause-reads : goal.returns-in_err-read-clause-reads
returns-in_err-read-clause-reads g c = read_first g.D.Disk.seen g.D.Disk.may_leave g.D.Disk.moment g.D.Disk.left_since c.args.disk.now (g.met.D.Disk.only_now c.args.disk.now) c.read.new.self c.read.ensures.same c.read.ensures.crash c.read.ensures.time

pub returns-then-byte-eq-OPEN-clause-reads : goal.returns-then-byte-eq-OPEN-clause-reads
returns-then-byte-eq-OPEN-clause-reads g c = read_first g.D.Disk.seen g.D.Disk.may_leave g.D.Disk.moment g.D.Disk.left_since c.args.disk.now (g.met.D.Disk.only_now c.args.disk.now) c.read.new.self c.read.ensures.same c.read.ensures.crash c.read.ensures.time

pub returns-then-len-gate-clause-reads : goal.returns-then-len-gate-clause-reads
returns-then-len-gate-clause-reads g c = read_first g.D.Disk.seen g.D.Disk.may_leave g.D.Disk.moment g.D.Disk.left_since c.args.disk.now (g.met.D.Disk.only_now c.args.disk.now) c.read.new.self c.read.ensures.same c.read.ensures.crash c.read.ensures.time

pub returns-in_err-read-2-clause-reads : goal.returns-in_err-read-2-clause-reads
returns-in_err-read-2-clause-reads g c = read_first g.D.Disk.seen g.D.Disk.may_leave g.D.Disk.moment g.D.Disk.left_since c.args.disk.now (g.met.D.Disk.only_now c.args.disk.now) c.read-2.new.self c.read-2.ensures.same c.read-2.ensures.crash c.read-2.ensures.time

pub returns-then-head-ne-OPEN-clause-reads : goal.returns-then-head-ne-OPEN-clause-reads
returns-then-head-ne-OPEN-clause-reads g c = read_first g.D.Disk.seen g.D.Disk.may_leave g.D.Disk.moment g.D.Disk.left_since c.args.disk.now (g.met.D.Disk.only_now c.args.disk.now) c.read-2.new.self c.read-2.ensures.same c.read-2.ensures.crash c.read-2.ensures.time

pub returns-then-size-gt-MAX_BODY-clause-reads : goal.returns-then-size-gt-MAX_BODY-clause-reads
returns-then-size-gt-MAX_BODY-clause-reads g c = read_first g.D.Disk.seen g.D.Disk.may_leave g.D.Disk.moment g.D.Disk.left_since c.args.disk.now (g.met.D.Disk.only_now c.args.disk.now) c.read-2.new.self c.read-2.ensures.same c.read-2.ensures.crash c.read-2.ensures.time

pub returns-clause-reads : goal.returns-clause-reads
returns-clause-reads g c = read_first g.D.Disk.seen g.D.Disk.may_leave g.D.Disk.moment g.D.Disk.left_since c.args.disk.now (g.met.D.Disk.only_now c.args.disk.now) c.read-2.new.self c.read-2.ensures.same c.read-2.ensures.crash c.read-2.ensures.time

-- after an error
pub returns-in_err-read-clause-open : goal.returns-in_err-read-clause-open
returns-in_err-read-clause-open g c = no_value _ _ c.from_residual.ensures.0

pub returns-in_err-read-2-clause-open : goal.returns-in_err-read-2-clause-open
returns-in_err-read-2-clause-open g c = no_value _ _ c.from_residual-in_err-read-2.ensures.0

pub returns-in_err-read-clause-closed : goal.returns-in_err-read-clause-closed
returns-in_err-read-clause-closed g c = λ none is. no_ok _ _ c.from_residual.ensures.0 none

pub returns-in_err-read-clause-refused : goal.returns-in_err-read-clause-refused
returns-in_err-read-clause-refused g c = passed_on _ _ Device c.from_residual.ensures.1 (c.in_err-read.ensures.cause refl)

pub returns-then-byte-eq-OPEN-clause-refused : goal.returns-then-byte-eq-OPEN-clause-refused
returns-then-byte-eq-OPEN-clause-refused g c =
    let bytes = g.D.Disk.seen c.args.disk.now in
    let behind = spelled_length (drop (c.args.gate + 1) bytes) in (
      refl,
      sym (first_read bytes c.args.gate 1 c.read.new.buf (omega arith) c.in_ok-read.ensures.bytes) ∙ c.if-byte-eq-OPEN.true,
      broken_there bytes c.args.gate behind refl (inr (too_near bytes c.args.gate c.args.len behind c.requires.len c.if-len-gate.true)),
    )

pub returns-then-len-gate-clause-closed : goal.returns-then-len-gate-clause-closed
returns-then-len-gate-clause-closed g c = λ none is. c.if-byte-eq-OPEN.false (first_read (g.D.Disk.seen c.args.disk.now) c.args.gate 1 c.read.new.buf (omega arith) c.in_ok-read.ensures.bytes ∙ is)

pub returns-then-head-ne-OPEN-clause-closed : goal.returns-then-head-ne-OPEN-clause-closed
returns-then-head-ne-OPEN-clause-closed g c = λ none is. c.if-head-ne-OPEN.true (first_read (g.D.Disk.seen c.args.disk.now) c.args.gate 5 c.read-2.new.buf (omega arith) c.in_ok-read-2.ensures.bytes ∙ is)

pub returns-in_err-read-2-clause-closed : goal.returns-in_err-read-2-clause-closed
returns-in_err-read-2-clause-closed g c = λ none is. no_ok _ _ c.from_residual-in_err-read-2.ensures.0 none

pub returns-in_err-read-2-clause-refused : goal.returns-in_err-read-2-clause-refused
returns-in_err-read-2-clause-refused g c = passed_on _ _ Device c.from_residual-in_err-read-2.ensures.1 (c.in_err-read-2.ensures.cause refl)

pub returns-then-byte-eq-OPEN-clause-closed : goal.returns-then-byte-eq-OPEN-clause-closed
returns-then-byte-eq-OPEN-clause-closed g c = λ none is. no_ok _ _ refl none

pub returns-then-size-gt-MAX_BODY-clause-closed : goal.returns-then-size-gt-MAX_BODY-clause-closed
returns-then-size-gt-MAX_BODY-clause-closed g c = λ none is. no_ok _ _ refl none
