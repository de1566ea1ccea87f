use Rattle.std.proofs.Common.{◌≡◌, ℕ, ◌+◌, ◌-◌, Bool, List, take, drop, refl, sym, ◌∙◌, ap, arith, true≢false}
use Rattle.std.proofs.Math.Nat.{le_refl}
use Rattle.std.specs.Prelude.{◌==◌, if◌then◌else◌, slice_index, slice_range}
use Rattle.rel_store.specs.Layout.{base_of, format_of, start_slot, text_of}
use Rattle.rel_store.specs.Records.{records_of, space}
use Rattle.rel_store.specs.State.{records_in}
use Rattle.rel_store.proofs.Exits.{no_success}
use Rattle.rel_store.proofs.Append.{gate_low, gate_within}
use Rattle.rel_store.proofs.Moments.{after_reading, stands_now}
use Rattle.rel_store.proofs.Slots.{place_low}
use Rattle.rel_store.proofs.OnlyReads.{nothing_read, read_first}
use Rattle.rel_store.specs.declared.error.StoreError.TheVariants.{Device, MustReopen}
use Rattle.rel_store.proofs.Scan.{passed_on}
use Rattle.rel_store.proofs.Refusals.{not_both, device_not_reopened, none_answered, same_store}
use Rattle.rel_store.proofs.store.Store.read_slot.Goals as goal

pub returns-in_err-read-clause-any_moment : goal.returns-in_err-read-clause-any_moment
returns-in_err-read-clause-any_moment g c = λ works.
    after_reading g.D.Disk.moment g.D.Disk.left_since g.D.Disk.seen g.D.Disk.may_leave c.args.self.now (c.requires.settled works) c.read.new.self (g.met.D.Disk.only_now c.args.self.now.disk) c.read.ensures.time c.read.ensures.crash

pub returns-clause-any_moment : goal.returns-clause-any_moment
returns-clause-any_moment g c = λ works.
    after_reading g.D.Disk.moment g.D.Disk.left_since g.D.Disk.seen g.D.Disk.may_leave c.args.self.now (c.requires.settled works) c.read.new.self (g.met.D.Disk.only_now c.args.self.now.disk) c.read.ensures.time c.read.ensures.crash

-- the disk's bytes are what they were
pub returns-clause-settled : goal.returns-clause-settled
returns-clause-settled g c =
    let s = c.requires.settled c.if-self.false in
    let same : g.D.Disk.seen c.read.new.self ≡ g.D.Disk.seen c.args.self.now.disk = c.read.ensures.same in
    record {
      works = refl;
      records = ap (λ l. records_of l) same ∙ s.records;
      durable = λ d now. s.durable d (c.read.ensures.crash d now) ∙ sym same;
      end = s.end ∙ ap (λ l. base_of l + space (records_in c.args.self.now)) (sym same);
      start = s.start ∙ ap (λ l. slice_index l 9 == 1) (sym same);
      base = s.base ∙ ap (λ l. base_of l) (sym same);
      chooses = s.chooses ∙ ap (λ l. slice_index l 10 == 1) (sym same);
      format = s.format ∙ ap (λ l. format_of l) (sym same);
    }

pub returns-clause-sound : goal.returns-clause-sound
returns-clause-sound g c = record { settled = λ works. returns-clause-settled g c }

pub returns-clause-start : goal.returns-clause-start
returns-clause-start g c = ap (λ l. text_of l) c.read.ensures.same

pub returns-in_err-read-clause-start : goal.returns-in_err-read-clause-start
returns-in_err-read-clause-start g c = ap (λ l. text_of l) c.read.ensures.same

-- after an error
pub returns-in_err-read-clause-settled : goal.returns-in_err-read-clause-settled
returns-in_err-read-clause-settled g c = no_success _ _ c.from_residual.ensures.0

pub returns-in_err-read-clause-read : goal.returns-in_err-read-clause-read
returns-in_err-read-clause-read g c = no_success _ _ c.from_residual.ensures.0

-- the disk was read at most
pub returns-then-self-clause-only_read : goal.returns-then-self-clause-only_read
returns-then-self-clause-only_read g c = nothing_read g.D.Disk.seen g.D.Disk.may_leave g.D.Disk.moment g.D.Disk.left_since c.args.self.now.disk (g.met.D.Disk.only_now c.args.self.now.disk)

pub returns-in_err-read-clause-only_read : goal.returns-in_err-read-clause-only_read
returns-in_err-read-clause-only_read g c =
    read_first g.D.Disk.seen g.D.Disk.may_leave g.D.Disk.moment g.D.Disk.left_since c.args.self.now.disk (g.met.D.Disk.only_now c.args.self.now.disk) c.read.new.self c.read.ensures.same c.read.ensures.crash c.read.ensures.time

pub returns-clause-only_read : goal.returns-clause-only_read
returns-clause-only_read g c =
    read_first g.D.Disk.seen g.D.Disk.may_leave g.D.Disk.moment g.D.Disk.left_since c.args.self.now.disk (g.met.D.Disk.only_now c.args.self.now.disk) c.read.new.self c.read.ensures.same c.read.ensures.crash c.read.ensures.time

-- the slots stand before the records
pub read-requires : goal.read-requires
read-requires g c =
    let s = c.requires.settled c.if-self.false in
    let here = stands_now g.D.Disk.moment g.D.Disk.left_since g.D.Disk.seen g.D.Disk.may_leave c.args.self.now s in
    omega (arith, gate_low _ _ _ _ here s.end, gate_within _ _ _ _ here s.end, place_low _ _ c.slot_place.ensures)

-- what was read is the slot that counts
read_text : (old : List ℕ) (second : Bool) (place n : ℕ) (buf : List ℕ) → n ≡ 128 → second ≡ (slice_index old 9 == 1) → place ≡ (if second then 144 else 16) → buf ≡ slice_range old place (place + n) → buf ≡ text_of old
read_text old second place n buf long counts is read =
    let size : place + n - place ≡ 128 = omega arith in
    let at : place ≡ start_slot old = is ∙ ap (λ (b : Bool). if b then 144 else 16) counts in
    read ∙ (λ i. take (size i) (drop (at i) old))

pub returns-clause-read : goal.returns-clause-read
returns-clause-read g c =
    read_text (g.D.Disk.seen c.args.self.now.disk) c.args.self.now.second_start c.slot_place.result _ c.read.new.buf c.told-slot (c.requires.settled c.if-self.false).start c.slot_place.ensures c.in_ok-read.ensures.bytes

-- the store had failed already
pub returns-then-self-clause-any_moment : goal.returns-then-self-clause-any_moment
returns-then-self-clause-any_moment g c = λ works. absurd (not_both c.if-self.true works)

pub returns-then-self-clause-counted : goal.returns-then-self-clause-counted
returns-then-self-clause-counted g c = le_refl _

pub returns-then-self-clause-reopened : goal.returns-then-self-clause-reopened
returns-then-self-clause-reopened g c = (λ reported. c.if-self.true, λ failed. refl)

pub returns-then-self-clause-refused : goal.returns-then-self-clause-refused
returns-then-self-clause-refused g c = (c.if-self.true, same_store _)

-- the device fails
pub returns-in_err-read-clause-sound : goal.returns-in_err-read-clause-sound
returns-in_err-read-clause-sound g c = record { settled = λ works. absurd (true≢false works) }

pub returns-in_err-read-clause-counted : goal.returns-in_err-read-clause-counted
returns-in_err-read-clause-counted g c = c.read.ensures.counted

pub returns-in_err-read-clause-reopened : goal.returns-in_err-read-clause-reopened
returns-in_err-read-clause-reopened g c = device_not_reopened _ _ c.if-self.false c.from_residual.ensures.1

pub returns-in_err-read-clause-refused : goal.returns-in_err-read-clause-refused
returns-in_err-read-clause-refused g c = passed_on _ _ Device c.from_residual.ensures.1 (c.in_err-read.ensures.cause refl, c.if-self.false, refl, refl)

-- and doesn't fail
pub returns-clause-counted : goal.returns-clause-counted
returns-clause-counted g c = c.read.ensures.counted

pub returns-clause-reopened : goal.returns-clause-reopened
returns-clause-reopened g c = none_answered _ MustReopen _ (λ failed. not_both failed c.if-self.false)

pub returns-in_err-read-clause-records : goal.returns-in_err-read-clause-records
returns-in_err-read-clause-records g c = refl

pub returns-in_err-read-clause-base : goal.returns-in_err-read-clause-base
returns-in_err-read-clause-base g c = refl

pub returns-in_err-read-clause-end : goal.returns-in_err-read-clause-end
returns-in_err-read-clause-end g c = refl

pub returns-in_err-read-clause-room : goal.returns-in_err-read-clause-room
returns-in_err-read-clause-room g c = λ n has. has

pub returns-clause-records : goal.returns-clause-records
returns-clause-records g c = refl

pub returns-clause-base : goal.returns-clause-base
returns-clause-base g c = refl

pub returns-clause-end : goal.returns-clause-end
returns-clause-end g c = refl

pub returns-clause-room : goal.returns-clause-room
returns-clause-room g c = λ n has. has

pub returns-then-self-clause-sound : goal.returns-then-self-clause-sound
returns-then-self-clause-sound g c = c.requires

pub returns-then-self-clause-room : goal.returns-then-self-clause-room
returns-then-self-clause-room g c = λ n has. has
