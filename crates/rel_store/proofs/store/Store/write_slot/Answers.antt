use Rattle.std.proofs.Common.{◌≡◌, inl, inr, ℕ, ◌+◌, ◌-◌, ◌≤◌, List, [], ◌∷◌, length, length-append, replicate, refl, sym, ◌∙◌, ap, arith, true≢false}
use Rattle.std.proofs.lemmas.List.{length-replicate}
use Rattle.std.specs.Prelude.{◌==◌}
use Rattle.rel_disk.specs.Damage.{overwritten}
use Rattle.rel_store.specs.Changed.{IsInOtherSlot}
use Rattle.rel_store.specs.Layout.{other_slot, slot_with}
use Rattle.rel_store.specs.Records.{space}
use Rattle.rel_store.specs.State.{records_in}
use Rattle.rel_store.proofs.Exits.{no_success}
use Rattle.rel_store.proofs.Layouts.{format_same}
use Rattle.rel_store.proofs.Append.{gate_low, gate_within}
use Rattle.rel_store.proofs.Moments.{after_start, selected_slot, stands_now}
use Rattle.rel_store.proofs.Ownership.{Owns, steps_leave, other}
use Rattle.rel_store.proofs.Slots.{place_low}
use Rattle.std.proofs.Math.Nat.{le_refl}
use Rattle.rel_store.specs.declared.error.StoreError.TheVariants.{Device, MustReopen}
use Rattle.rel_store.proofs.Scan.{passed_on}
use Rattle.rel_store.proofs.Refusals.{not_both, device_not_reopened, none_answered, same_store}
use Rattle.rel_store.proofs.store.Store.write_slot.Goals as goal

-- the slot that doesn't count, and the selector, are the call's own
in_slot : (bytes : List ℕ) (place : ℕ) (slot text : List ℕ) → length text ≤ 127 → place ≡ other_slot bytes → slot ≡ slot_with text → Owns (IsInOtherSlot bytes) place (length slot)
in_slot bytes place slot text few at spelled = λ i from within.
    inr (omega (arith, from, at), omega (arith, within, at, ap length spelled, length-append text (replicate (127 - length text) 0), length-replicate {A = ℕ} (127 - length text) 0))

is_selector : (bytes : List ℕ) → Owns (IsInOtherSlot bytes) 9 1
is_selector bytes = λ i from within. inl (omega (arith, from, within))

-- the slots and their selector stand before the records
pub write_and_commit-requires : goal.write_and_commit-requires
write_and_commit-requires g c =
    let s = c.requires.sound.settled c.if-self.false in
    let here = stands_now g.D.Disk.moment g.D.Disk.left_since g.D.Disk.seen g.D.Disk.may_leave c.args.self.now s in
    let low = gate_low _ _ _ _ here s.end in
    let within = gate_within _ _ _ _ here s.end in
    record { at = omega (arith, low, within, place_low _ _ c.slot_place.ensures); mark = omega (arith, low, within) }

-- the slot that doesn't count is written first, then the selector
pub returns-in_err-write_and_commit-clause-any_moment : goal.returns-in_err-write_and_commit-clause-any_moment
returns-in_err-write_and_commit-clause-any_moment g c = λ works. after_start g.D.Disk.moment g.D.Disk.left_since g.D.Disk.seen g.D.Disk.may_leave c.args.self.now (c.requires.sound.settled works) c.spell_slot.result c.args.text.now c.requires.short c.spell_slot.ensures c.slot_place.result c.slot_place.ensures c.write_and_commit.new.disk c.write_and_commit.ensures.any_moment

pub returns-clause-any_moment : goal.returns-clause-any_moment
returns-clause-any_moment g c = λ works. after_start g.D.Disk.moment g.D.Disk.left_since g.D.Disk.seen g.D.Disk.may_leave c.args.self.now (c.requires.sound.settled works) c.spell_slot.result c.args.text.now c.requires.short c.spell_slot.ensures c.slot_place.result c.slot_place.ensures c.write_and_commit.new.disk c.write_and_commit.ensures.any_moment

-- and the new text stands
pub returns-clause-settled : goal.returns-clause-settled
returns-clause-settled g c =
    let s = c.requires.sound.settled c.if-self.false in
    let new = selected_slot g.D.Disk.moment g.D.Disk.left_since g.D.Disk.seen g.D.Disk.may_leave c.args.self.now s c.spell_slot.result c.args.text.now c.requires.short c.spell_slot.ensures c.slot_place.result c.slot_place.ensures c.write_and_commit.new.disk c.selector_of.result c.selector_of.ensures c.in_ok-write_and_commit.ensures.written in
    record {
      works = refl;
      records = new.here.records;
      durable = c.in_ok-write_and_commit.ensures.durable;
      end = s.end ∙ ap (λ base. base + space (records_in c.args.self.now)) (sym new.base);
      start = sym new.counts;
      base = s.base ∙ sym new.base;
      chooses = s.chooses ∙ ap (λ b. b == 1) (sym new.choice);
      format = s.format ∙ sym (format_same (g.D.Disk.seen c.write_and_commit.new.disk) (g.D.Disk.seen c.args.self.now.disk) new.kind);
    }

pub returns-clause-written : goal.returns-clause-written
returns-clause-written g c =
    (selected_slot g.D.Disk.moment g.D.Disk.left_since g.D.Disk.seen g.D.Disk.may_leave c.args.self.now (c.requires.sound.settled c.if-self.false) c.spell_slot.result c.args.text.now c.requires.short c.spell_slot.ensures c.slot_place.result c.slot_place.ensures c.write_and_commit.new.disk c.selector_of.result c.selector_of.ensures c.in_ok-write_and_commit.ensures.written).here.start

pub returns-clause-sound : goal.returns-clause-sound
returns-clause-sound g c = record { settled = λ works. returns-clause-settled g c }

pub returns-in_err-write_and_commit-clause-others : goal.returns-in_err-write_and_commit-clause-others
returns-in_err-write_and_commit-clause-others g c = λ works.
    let s = c.requires.sound.settled works in
    let old = g.D.Disk.seen c.args.self.now.disk in
    let place = other 144 16 c.args.self.now.second_start c.slot_place.result old s.start c.slot_place.ensures in
    steps_leave g.D.Disk.moment g.D.Disk.left_since g.D.Disk.seen g.D.Disk.may_leave _ c.args.self.now.disk s.durable _ _ _ (in_slot old c.slot_place.result _ c.args.text.now c.requires.short place c.spell_slot.ensures) (is_selector old) c.write_and_commit.new.disk c.write_and_commit.ensures.any_moment

pub returns-clause-others : goal.returns-clause-others
returns-clause-others g c = λ works.
    let s = c.requires.sound.settled works in
    let old = g.D.Disk.seen c.args.self.now.disk in
    let place = other 144 16 c.args.self.now.second_start c.slot_place.result old s.start c.slot_place.ensures in
    steps_leave g.D.Disk.moment g.D.Disk.left_since g.D.Disk.seen g.D.Disk.may_leave _ c.args.self.now.disk s.durable _ _ _ (in_slot old c.slot_place.result _ c.args.text.now c.requires.short place c.spell_slot.ensures) (is_selector old) c.write_and_commit.new.disk c.write_and_commit.ensures.any_moment

pub returns-clause-bytes : goal.returns-clause-bytes
returns-clause-bytes g c =
    let s = c.requires.sound.settled c.if-self.false in
    let old = g.D.Disk.seen c.args.self.now.disk in
    let place = other 144 16 c.args.self.now.second_start c.slot_place.result old s.start c.slot_place.ensures in
    let selector = other 1 0 c.args.self.now.second_start c.selector_of.result old s.start c.selector_of.ensures in
    c.in_ok-write_and_commit.ensures.written
    ∙ (λ i. overwritten 9 (c.selector_of.result ∷ []) (overwritten (place i) (c.spell_slot.ensures i) old))
    ∙ ap (λ b. overwritten 9 (b ∷ []) (overwritten (other_slot old) (slot_with c.args.text.now) old)) selector

-- after an error
pub returns-in_err-write_and_commit-clause-settled : goal.returns-in_err-write_and_commit-clause-settled
returns-in_err-write_and_commit-clause-settled g c = no_success _ _ c.from_residual.ensures.0

pub returns-in_err-write_and_commit-clause-written : goal.returns-in_err-write_and_commit-clause-written
returns-in_err-write_and_commit-clause-written g c = no_success _ _ c.from_residual.ensures.0

pub returns-in_err-write_and_commit-clause-bytes : goal.returns-in_err-write_and_commit-clause-bytes
returns-in_err-write_and_commit-clause-bytes g c = no_success _ _ c.from_residual.ensures.0

-- the store had failed already
pub returns-then-self-clause-sound : goal.returns-then-self-clause-sound
returns-then-self-clause-sound g c = c.requires.sound

pub returns-then-self-clause-room : goal.returns-then-self-clause-room
returns-then-self-clause-room g c = λ n has. has

pub returns-then-self-clause-any_moment : goal.returns-then-self-clause-any_moment
returns-then-self-clause-any_moment g c = λ works. absurd (not_both c.if-self.true works)

pub returns-then-self-clause-others : goal.returns-then-self-clause-others
returns-then-self-clause-others g c = λ works. absurd (not_both c.if-self.true works)

pub returns-then-self-clause-counted : goal.returns-then-self-clause-counted
returns-then-self-clause-counted g c = le_refl _

pub returns-then-self-clause-reopened : goal.returns-then-self-clause-reopened
returns-then-self-clause-reopened g c = (λ reported. c.if-self.true, λ failed. refl)

pub returns-then-self-clause-refused : goal.returns-then-self-clause-refused
returns-then-self-clause-refused g c = (c.if-self.true, same_store _)

-- the device fails
pub returns-in_err-write_and_commit-clause-sound : goal.returns-in_err-write_and_commit-clause-sound
returns-in_err-write_and_commit-clause-sound g c = record { settled = λ works. absurd (true≢false works) }

pub returns-in_err-write_and_commit-clause-records : goal.returns-in_err-write_and_commit-clause-records
returns-in_err-write_and_commit-clause-records g c = refl

pub returns-in_err-write_and_commit-clause-base : goal.returns-in_err-write_and_commit-clause-base
returns-in_err-write_and_commit-clause-base g c = refl

pub returns-in_err-write_and_commit-clause-end : goal.returns-in_err-write_and_commit-clause-end
returns-in_err-write_and_commit-clause-end g c = refl

pub returns-in_err-write_and_commit-clause-room : goal.returns-in_err-write_and_commit-clause-room
returns-in_err-write_and_commit-clause-room g c = λ n has. has

pub returns-in_err-write_and_commit-clause-counted : goal.returns-in_err-write_and_commit-clause-counted
returns-in_err-write_and_commit-clause-counted g c = c.write_and_commit.ensures.counted

pub returns-in_err-write_and_commit-clause-reopened : goal.returns-in_err-write_and_commit-clause-reopened
returns-in_err-write_and_commit-clause-reopened g c = device_not_reopened _ _ c.if-self.false c.from_residual.ensures.1

pub returns-in_err-write_and_commit-clause-refused : goal.returns-in_err-write_and_commit-clause-refused
returns-in_err-write_and_commit-clause-refused g c = passed_on _ _ Device c.from_residual.ensures.1 (c.in_err-write_and_commit.ensures.cause refl, c.if-self.false, refl, refl)

-- and doesn't fail
pub returns-clause-records : goal.returns-clause-records
returns-clause-records g c = refl

pub returns-clause-base : goal.returns-clause-base
returns-clause-base g c = refl

pub returns-clause-end : goal.returns-clause-end
returns-clause-end g c = refl

pub returns-clause-room : goal.returns-clause-room
returns-clause-room g c = λ n has. has

pub returns-clause-counted : goal.returns-clause-counted
returns-clause-counted g c = c.write_and_commit.ensures.counted

pub returns-clause-reopened : goal.returns-clause-reopened
returns-clause-reopened g c = none_answered _ MustReopen _ (λ failed. not_both failed c.if-self.false)
