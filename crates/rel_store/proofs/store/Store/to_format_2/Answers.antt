use Rattle.std.proofs.Common.{◌≡◌, ℕ, ◌+◌, refl, sym, ◌∙◌, ap, arith, true≢false}
use Rattle.std.specs.Prelude.{◌==◌, if◌then◌else◌}
use Rattle.rel_disk.proofs.Moments.{weakened}
use Rattle.rel_store.specs.Changed.{IsFormat}
use Rattle.rel_store.specs.Records.{space}
use Rattle.rel_store.specs.State.{records_in}
use Rattle.rel_store.proofs.Exits.{no_success}
use Rattle.rel_store.proofs.Append.{gate_low, gate_within}
use Rattle.rel_store.proofs.Moments.{format_1, resting, stands_now}
use Rattle.rel_store.proofs.Ownership.{Owns, at_rest, write_leaves}
use Rattle.rel_store.proofs.Slots.{format_leaves, formatted}
use Rattle.rel_store.specs.declared.error.StoreError.TheVariants.{Device, MustReopen}
use Rattle.rel_store.proofs.Scan.{passed_on}
use Rattle.rel_store.proofs.Refusals.{not_both, device_not_reopened, none_answered, same_store}
use Rattle.rel_store.proofs.store.Store.to_format_2.Goals as goal

is_format : (format : ℕ) → format ≡ 1 → Owns (IsFormat format) 11 1
is_format format one = λ i from within. (one, omega (arith, from, within))

pub write_through-requires : goal.write_through-requires
write_through-requires g c =
    let s = c.requires.settled c.if-self.false in
    let here = stands_now g.D.Disk.moment g.D.Disk.left_since g.D.Disk.seen g.D.Disk.may_leave c.args.self.now s in
    omega (arith, gate_low _ _ _ _ here s.end, gate_within _ _ _ _ here s.end)

-- the byte is written, and the store stands as it was
pub returns-in_err-write_through-clause-any_moment : goal.returns-in_err-write_through-clause-any_moment
returns-in_err-write_through-clause-any_moment g c = λ works.
    let s = c.requires.settled works in
    let here = stands_now g.D.Disk.moment g.D.Disk.left_since g.D.Disk.seen g.D.Disk.may_leave c.args.self.now s in
    weakened g.D.Disk.moment g.D.Disk.left_since c.args.self.now.disk c.write_through.new.disk _ _ (format_leaves _ _ _ _ here s.durable) c.write_through.ensures.any_moment

pub returns-clause-any_moment : goal.returns-clause-any_moment
returns-clause-any_moment g c = λ works.
    let s = c.requires.settled works in
    let here = stands_now g.D.Disk.moment g.D.Disk.left_since g.D.Disk.seen g.D.Disk.may_leave c.args.self.now s in
    weakened g.D.Disk.moment g.D.Disk.left_since c.args.self.now.disk c.write_through.new.disk _ _ (format_leaves _ _ _ _ here s.durable) c.write_through.ensures.any_moment

pub returns-in_err-write_through-clause-others : goal.returns-in_err-write_through-clause-others
returns-in_err-write_through-clause-others g c = λ works.
    write_leaves g.D.Disk.moment g.D.Disk.left_since g.D.Disk.seen g.D.Disk.may_leave (IsFormat c.args.self.now.format) c.args.self.now.disk (c.requires.settled works).durable 11 1 (is_format c.args.self.now.format (format_1 g.D.Disk.moment g.D.Disk.left_since g.D.Disk.seen g.D.Disk.may_leave c.args.self.now (c.requires.settled works) c.if-self-eq2.false)) c.write_through.new.disk c.write_through.ensures.any_moment

pub returns-clause-others : goal.returns-clause-others
returns-clause-others g c = λ works.
    write_leaves g.D.Disk.moment g.D.Disk.left_since g.D.Disk.seen g.D.Disk.may_leave (IsFormat c.args.self.now.format) c.args.self.now.disk (c.requires.settled works).durable 11 1 (is_format c.args.self.now.format (format_1 g.D.Disk.moment g.D.Disk.left_since g.D.Disk.seen g.D.Disk.may_leave c.args.self.now (c.requires.settled works) c.if-self-eq2.false)) c.write_through.new.disk c.write_through.ensures.any_moment

pub returns-clause-settled : goal.returns-clause-settled
returns-clause-settled g c =
    let s = c.requires.settled c.if-self.false in
    let here = stands_now g.D.Disk.moment g.D.Disk.left_since g.D.Disk.seen g.D.Disk.may_leave c.args.self.now s in
    let f = formatted _ _ (g.D.Disk.seen c.args.self.now.disk) (g.D.Disk.seen c.write_through.new.disk) here c.in_ok-write_through.ensures.written in
    record {
      works = refl;
      records = f.here.records;
      durable = c.in_ok-write_through.ensures.durable;
      end = s.end ∙ ap (λ base. base + space (records_in c.args.self.now)) (sym f.base);
      start = s.start ∙ ap (λ b. b == 1) (sym f.selector);
      base = s.base ∙ sym f.base;
      chooses = s.chooses ∙ ap (λ b. b == 1) (sym f.choice);
      format = sym (ap (λ b. if b == 0 then 1 else 2) f.kind);
    }

pub returns-clause-start : goal.returns-clause-start
returns-clause-start g c =
    let s = c.requires.settled c.if-self.false in
    let here = stands_now g.D.Disk.moment g.D.Disk.left_since g.D.Disk.seen g.D.Disk.may_leave c.args.self.now s in
    (formatted _ _ (g.D.Disk.seen c.args.self.now.disk) (g.D.Disk.seen c.write_through.new.disk) here c.in_ok-write_through.ensures.written).here.start

pub returns-clause-sound : goal.returns-clause-sound
returns-clause-sound g c = record { settled = λ works. returns-clause-settled g c }

-- it is one of format 2 already
pub returns-then-self-eq2-clause-any_moment : goal.returns-then-self-eq2-clause-any_moment
returns-then-self-eq2-clause-any_moment g c = λ works. resting g.D.Disk.moment g.D.Disk.left_since g.D.Disk.seen g.D.Disk.may_leave c.args.self.now (c.requires.settled works) _ (λ f here. here) (g.met.D.Disk.only_now c.args.self.now.disk)

pub returns-then-self-eq2-clause-others : goal.returns-then-self-eq2-clause-others
returns-then-self-eq2-clause-others g c = λ works. at_rest g.D.Disk.moment g.D.Disk.left_since g.D.Disk.seen g.D.Disk.may_leave _ c.args.self.now.disk (c.requires.settled works).durable (g.met.D.Disk.only_now c.args.self.now.disk)

-- the store had failed already
pub returns-then-self-clause-any_moment : goal.returns-then-self-clause-any_moment
returns-then-self-clause-any_moment g c = λ works. absurd (not_both c.if-self.true works)

pub returns-then-self-clause-others : goal.returns-then-self-clause-others
returns-then-self-clause-others g c = λ works. absurd (not_both c.if-self.true works)

pub returns-then-self-clause-reopened : goal.returns-then-self-clause-reopened
returns-then-self-clause-reopened g c = (λ reported. c.if-self.true, λ failed. refl)

pub returns-then-self-clause-refused : goal.returns-then-self-clause-refused
returns-then-self-clause-refused g c = (c.if-self.true, same_store _)

-- the device fails
pub returns-in_err-write_through-clause-sound : goal.returns-in_err-write_through-clause-sound
returns-in_err-write_through-clause-sound g c = record { settled = λ works. absurd (true≢false works) }

pub returns-in_err-write_through-clause-settled : goal.returns-in_err-write_through-clause-settled
returns-in_err-write_through-clause-settled g c = no_success _ _ c.from_residual.ensures.0

pub returns-in_err-write_through-clause-format : goal.returns-in_err-write_through-clause-format
returns-in_err-write_through-clause-format g c = no_success _ _ c.from_residual.ensures.0

pub returns-in_err-write_through-clause-start : goal.returns-in_err-write_through-clause-start
returns-in_err-write_through-clause-start g c = no_success _ _ c.from_residual.ensures.0

pub returns-in_err-write_through-clause-reopened : goal.returns-in_err-write_through-clause-reopened
returns-in_err-write_through-clause-reopened g c = device_not_reopened _ _ c.if-self.false c.from_residual.ensures.1

pub returns-in_err-write_through-clause-refused : goal.returns-in_err-write_through-clause-refused
returns-in_err-write_through-clause-refused g c = passed_on _ _ Device c.from_residual.ensures.1 (c.in_err-write_through.ensures.cause refl, c.if-self.false, refl, refl)

pub returns-clause-reopened : goal.returns-clause-reopened
returns-clause-reopened g c = none_answered _ MustReopen _ (λ failed. not_both failed c.if-self.false)

pub returns-in_err-write_through-clause-bytes : goal.returns-in_err-write_through-clause-bytes
returns-in_err-write_through-clause-bytes g c = no_success _ _ c.from_residual.ensures.0
