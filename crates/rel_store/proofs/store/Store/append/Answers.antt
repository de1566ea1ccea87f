use Rattle.std.proofs.Common.{◌≡◌, ℕ, ◌+◌, ◌-◌, List, [], ◌∷◌, ◌++◌, map, length, length-append, take, drop, inl, refl, sym, ◌∙◌, ap, arith, Ok, true≢false}
use Rattle.std.specs.Prelude.{◌==◌}
use Rattle.std.proofs.lemmas.Grind.{common_steps}
use Rattle.std.proofs.lemmas.List.{take_all}
use Rattle.rel_disk.specs.Damage.{overwritten}
use Rattle.rel_store.specs.Changed.{IsInRecord}
use Rattle.rel_store.specs.Layout.{base_of}
use Rattle.rel_store.specs.Records.{record_bytes, space}
use Rattle.rel_store.proofs.Exits.{no_success}
use Rattle.rel_store.proofs.Append.{gate_within}
use Rattle.rel_store.proofs.Layouts.{format_same}
use Rattle.rel_store.proofs.Moments.{stands_now, resting, after_append, appended_now}
use Rattle.rel_store.proofs.Ownership.{Owns, at_rest, steps_leave, overwritten_in_two}
use Rattle.rel_store.proofs.ReadLemmas.{length-record}
use Rattle.std.proofs.Math.Nat.{le_refl}
use Rattle.rel_store.specs.declared.error.StoreError.TheVariants.{Device, MustReopen, Full}
use Rattle.rel_store.proofs.Scan.{passed_on}
use Rattle.rel_store.proofs.Refusals.{not_both, device_not_reopened, device_not_full, memory_not_reopened, memory_not_full, none_answered, same_store, sound_still}
use Rattle.rel_store.proofs.store.Store.append.Goals as goal

-- what stands after the gate in a record's bytes
behind_gate : (bytes body : List ℕ) → bytes ≡ 1 ∷ (record_bytes body ++ 0 ∷ []) → take (length bytes - 1) (drop 1 bytes) ≡ record_bytes body ++ 0 ∷ []
behind_gate bytes body spelled =
    ap (λ l. take (length l - 1) (drop 1 l)) spelled ∙ take_all (length (1 ∷ (record_bytes body ++ 0 ∷ [])) - 1) (record_bytes body ++ 0 ∷ []) (omega arith)

-- a record's bytes after its gate, and the gate, are an append's own
in_record : (bytes : List ℕ) (gate : ℕ) (body : List ℕ) → bytes ≡ record_bytes body ++ 0 ∷ [] → Owns (IsInRecord gate (length body)) (gate + 1) (length bytes)
in_record bytes gate body spelled = λ i from within. (omega (arith, from), omega (arith, within, ap length spelled, length-append (record_bytes body) (0 ∷ []), length-record body))

is_gate : (gate n : ℕ) → Owns (IsInRecord gate n) gate 1
is_gate gate n = λ i from within. (from, omega (arith, within))

pub returns-then-not-fits-clause-any_moment : goal.returns-then-not-fits-clause-any_moment
returns-then-not-fits-clause-any_moment g c = λ works. resting g.D.Disk.moment g.D.Disk.left_since g.D.Disk.seen g.D.Disk.may_leave c.args.self.now (c.requires.settled works) _ (λ f here. inl here) (g.met.D.Disk.only_now c.args.self.now.disk)

pub returns-in_err-reserve-clause-any_moment : goal.returns-in_err-reserve-clause-any_moment
returns-in_err-reserve-clause-any_moment g c = λ works. resting g.D.Disk.moment g.D.Disk.left_since g.D.Disk.seen g.D.Disk.may_leave c.args.self.now (c.requires.settled works) _ (λ f here. inl here) (g.met.D.Disk.only_now c.args.self.now.disk)

pub returns-in_err-spell_record-clause-any_moment : goal.returns-in_err-spell_record-clause-any_moment
returns-in_err-spell_record-clause-any_moment g c = λ works. resting g.D.Disk.moment g.D.Disk.left_since g.D.Disk.seen g.D.Disk.may_leave c.args.self.now (c.requires.settled works) _ (λ f here. inl here) (g.met.D.Disk.only_now c.args.self.now.disk)

pub write_and_commit-requires : goal.write_and_commit-requires
write_and_commit-requires g c =
    let s = c.requires.settled c.if-self.false in
    let within = gate_within _ _ _ _ (stands_now g.D.Disk.moment g.D.Disk.left_since g.D.Disk.seen g.D.Disk.may_leave c.args.self.now s) s.end in
    record { at = omega (arith, within); mark = omega (arith, within) }

pub returns-in_err-write_and_commit-clause-any_moment : goal.returns-in_err-write_and_commit-clause-any_moment
returns-in_err-write_and_commit-clause-any_moment g c = λ works.
    let short = (c.if-not-fits.ensures.0 refl).0 in
    let spelled = behind_gate c.deref.result.now c.args.body.now (c.deref.ensures.value ∙ c.in_ok-spell_record.ensures.ok) in
    after_append g.D.Disk.moment g.D.Disk.left_since g.D.Disk.seen g.D.Disk.may_leave c.args.self.now (c.requires.settled works) c.args.body.now _ short spelled c.write_and_commit.new.disk c.write_and_commit.ensures.any_moment

pub returns-clause-any_moment : goal.returns-clause-any_moment
returns-clause-any_moment g c = λ works.
    let short = (c.if-not-fits.ensures.0 refl).0 in
    let spelled = behind_gate c.deref.result.now c.args.body.now (c.deref.ensures.value ∙ c.in_ok-spell_record.ensures.ok) in
    after_append g.D.Disk.moment g.D.Disk.left_since g.D.Disk.seen g.D.Disk.may_leave c.args.self.now (c.requires.settled works) c.args.body.now _ short spelled c.write_and_commit.new.disk c.write_and_commit.ensures.any_moment

pub returns-clause-start : goal.returns-clause-start
returns-clause-start g c =
    let s = c.requires.settled c.if-self.false in
    let short = (c.if-not-fits.ensures.0 refl).0 in
    let spelled = behind_gate c.deref.result.now c.args.body.now (c.deref.ensures.value ∙ c.in_ok-spell_record.ensures.ok) in
    (appended_now g.D.Disk.moment g.D.Disk.left_since g.D.Disk.seen g.D.Disk.may_leave c.args.self.now s c.args.body.now _ short spelled c.write_and_commit.new.disk c.in_ok-write_and_commit.ensures.written).here.start

pub returns-clause-added : goal.returns-clause-added
returns-clause-added g c = grind (arith, common_steps)

pub returns-clause-settled : goal.returns-clause-settled
returns-clause-settled g c =
    let s = c.requires.settled c.if-self.false in
    let short = (c.if-not-fits.ensures.0 refl).0 in
    let spelled = behind_gate c.deref.result.now c.args.body.now (c.deref.ensures.value ∙ c.in_ok-spell_record.ensures.ok) in
    let a = appended_now g.D.Disk.moment g.D.Disk.left_since g.D.Disk.seen g.D.Disk.may_leave c.args.self.now s c.args.body.now _ short spelled c.write_and_commit.new.disk c.in_ok-write_and_commit.ensures.written in
    let added = returns-clause-added g c in
    record {
      works = refl;
      records = a.here.records ∙ ap (λ bodies. Ok bodies) (sym added);
      durable = c.in_ok-write_and_commit.ensures.durable;
      end = a.end ∙ ap (λ bodies. base_of (g.D.Disk.seen c.write_and_commit.new.disk) + space bodies) (sym added);
      start = s.start ∙ ap (λ selector. selector == 1) (sym a.selector);
      base = s.base ∙ sym a.base;
      chooses = s.chooses ∙ ap (λ selector. selector == 1) (sym a.choice);
      format = s.format ∙ sym (format_same (g.D.Disk.seen c.write_and_commit.new.disk) (g.D.Disk.seen c.args.self.now.disk) a.kind);
    }

pub returns-clause-sound : goal.returns-clause-sound
returns-clause-sound g c = record { settled = λ works. returns-clause-settled g c }

pub returns-then-not-fits-clause-others : goal.returns-then-not-fits-clause-others
returns-then-not-fits-clause-others g c = λ works. at_rest g.D.Disk.moment g.D.Disk.left_since g.D.Disk.seen g.D.Disk.may_leave _ c.args.self.now.disk (c.requires.settled works).durable (g.met.D.Disk.only_now c.args.self.now.disk)

pub returns-in_err-reserve-clause-others : goal.returns-in_err-reserve-clause-others
returns-in_err-reserve-clause-others g c = λ works. at_rest g.D.Disk.moment g.D.Disk.left_since g.D.Disk.seen g.D.Disk.may_leave _ c.args.self.now.disk (c.requires.settled works).durable (g.met.D.Disk.only_now c.args.self.now.disk)

pub returns-in_err-spell_record-clause-others : goal.returns-in_err-spell_record-clause-others
returns-in_err-spell_record-clause-others g c = λ works. at_rest g.D.Disk.moment g.D.Disk.left_since g.D.Disk.seen g.D.Disk.may_leave _ c.args.self.now.disk (c.requires.settled works).durable (g.met.D.Disk.only_now c.args.self.now.disk)

pub returns-in_err-write_and_commit-clause-others : goal.returns-in_err-write_and_commit-clause-others
returns-in_err-write_and_commit-clause-others g c = λ works.
    let spelled = behind_gate c.deref.result.now c.args.body.now (c.deref.ensures.value ∙ c.in_ok-spell_record.ensures.ok) in
    steps_leave g.D.Disk.moment g.D.Disk.left_since g.D.Disk.seen g.D.Disk.may_leave _ c.args.self.now.disk (c.requires.settled works).durable _ _ _ (in_record _ c.args.self.now.gate c.args.body.now spelled) (is_gate c.args.self.now.gate (length c.args.body.now)) c.write_and_commit.new.disk c.write_and_commit.ensures.any_moment

pub returns-clause-others : goal.returns-clause-others
returns-clause-others g c = λ works.
    let spelled = behind_gate c.deref.result.now c.args.body.now (c.deref.ensures.value ∙ c.in_ok-spell_record.ensures.ok) in
    steps_leave g.D.Disk.moment g.D.Disk.left_since g.D.Disk.seen g.D.Disk.may_leave _ c.args.self.now.disk (c.requires.settled works).durable _ _ _ (in_record _ c.args.self.now.gate c.args.body.now spelled) (is_gate c.args.self.now.gate (length c.args.body.now)) c.write_and_commit.new.disk c.write_and_commit.ensures.any_moment

pub returns-clause-bytes : goal.returns-clause-bytes
returns-clause-bytes g c =
    let s = c.requires.settled c.if-self.false in
    let old = g.D.Disk.seen c.args.self.now.disk in
    let spelled = behind_gate c.deref.result.now c.args.body.now (c.deref.ensures.value ∙ c.in_ok-spell_record.ensures.ok) in
    let within = gate_within _ _ _ _ (stands_now g.D.Disk.moment g.D.Disk.left_since g.D.Disk.seen g.D.Disk.may_leave c.args.self.now s) s.end in
    c.in_ok-write_and_commit.ensures.written
    ∙ ap (λ l. overwritten c.args.self.now.gate (1 ∷ []) (overwritten (c.args.self.now.gate + 1) l old)) spelled
    ∙ overwritten_in_two c.args.self.now.gate 1 (record_bytes c.args.body.now ++ 0 ∷ []) old within

-- after an error
pub returns-in_err-reserve-clause-settled : goal.returns-in_err-reserve-clause-settled
returns-in_err-reserve-clause-settled g c = no_success _ _ c.from_residual.ensures.0

pub returns-in_err-reserve-clause-added : goal.returns-in_err-reserve-clause-added
returns-in_err-reserve-clause-added g c = no_success _ _ c.from_residual.ensures.0

pub returns-in_err-reserve-clause-start : goal.returns-in_err-reserve-clause-start
returns-in_err-reserve-clause-start g c = no_success _ _ c.from_residual.ensures.0

pub returns-in_err-reserve-clause-end : goal.returns-in_err-reserve-clause-end
returns-in_err-reserve-clause-end g c = no_success _ _ c.from_residual.ensures.0

pub returns-in_err-reserve-clause-bytes : goal.returns-in_err-reserve-clause-bytes
returns-in_err-reserve-clause-bytes g c = no_success _ _ c.from_residual.ensures.0

pub returns-in_err-spell_record-clause-settled : goal.returns-in_err-spell_record-clause-settled
returns-in_err-spell_record-clause-settled g c = no_success _ _ c.from_residual-in_err-spell_record.ensures.0

pub returns-in_err-spell_record-clause-added : goal.returns-in_err-spell_record-clause-added
returns-in_err-spell_record-clause-added g c = no_success _ _ c.from_residual-in_err-spell_record.ensures.0

pub returns-in_err-spell_record-clause-start : goal.returns-in_err-spell_record-clause-start
returns-in_err-spell_record-clause-start g c = no_success _ _ c.from_residual-in_err-spell_record.ensures.0

pub returns-in_err-spell_record-clause-end : goal.returns-in_err-spell_record-clause-end
returns-in_err-spell_record-clause-end g c = no_success _ _ c.from_residual-in_err-spell_record.ensures.0

pub returns-in_err-spell_record-clause-bytes : goal.returns-in_err-spell_record-clause-bytes
returns-in_err-spell_record-clause-bytes g c = no_success _ _ c.from_residual-in_err-spell_record.ensures.0

pub returns-in_err-write_and_commit-clause-settled : goal.returns-in_err-write_and_commit-clause-settled
returns-in_err-write_and_commit-clause-settled g c = no_success _ _ c.from_residual-in_err-write_and_commit.ensures.0

pub returns-in_err-write_and_commit-clause-added : goal.returns-in_err-write_and_commit-clause-added
returns-in_err-write_and_commit-clause-added g c = no_success _ _ c.from_residual-in_err-write_and_commit.ensures.0

pub returns-in_err-write_and_commit-clause-start : goal.returns-in_err-write_and_commit-clause-start
returns-in_err-write_and_commit-clause-start g c = no_success _ _ c.from_residual-in_err-write_and_commit.ensures.0

pub returns-in_err-write_and_commit-clause-end : goal.returns-in_err-write_and_commit-clause-end
returns-in_err-write_and_commit-clause-end g c = no_success _ _ c.from_residual-in_err-write_and_commit.ensures.0

pub returns-in_err-write_and_commit-clause-bytes : goal.returns-in_err-write_and_commit-clause-bytes
returns-in_err-write_and_commit-clause-bytes g c = no_success _ _ c.from_residual-in_err-write_and_commit.ensures.0

-- the store had failed already
pub returns-then-self-clause-sound : goal.returns-then-self-clause-sound
returns-then-self-clause-sound g c = c.requires

pub returns-then-self-clause-any_moment : goal.returns-then-self-clause-any_moment
returns-then-self-clause-any_moment g c = λ works. absurd (not_both c.if-self.true works)

pub returns-then-self-clause-others : goal.returns-then-self-clause-others
returns-then-self-clause-others g c = λ works. absurd (not_both c.if-self.true works)

pub returns-then-self-clause-counted : goal.returns-then-self-clause-counted
returns-then-self-clause-counted g c = le_refl _

pub returns-then-self-clause-full : goal.returns-then-self-clause-full
returns-then-self-clause-full g c = (λ reported. cc reported, λ p. absurd (not_both c.if-self.true p.0))

pub returns-then-self-clause-reopened : goal.returns-then-self-clause-reopened
returns-then-self-clause-reopened g c = (λ reported. c.if-self.true, λ failed. refl)

pub returns-then-self-clause-refused : goal.returns-then-self-clause-refused
returns-then-self-clause-refused g c = (c.if-self.true, same_store _)

-- the record doesn't fit
pub returns-then-not-fits-clause-sound : goal.returns-then-not-fits-clause-sound
returns-then-not-fits-clause-sound g c = c.requires

pub returns-then-not-fits-clause-counted : goal.returns-then-not-fits-clause-counted
returns-then-not-fits-clause-counted g c = le_refl _

pub returns-then-not-fits-clause-full : goal.returns-then-not-fits-clause-full
returns-then-not-fits-clause-full g c = (λ reported. (c.if-self.false, λ fits. not_both (c.if-not-fits.ensures.1 fits) refl), λ p. refl)

pub returns-then-not-fits-clause-reopened : goal.returns-then-not-fits-clause-reopened
returns-then-not-fits-clause-reopened g c = (λ reported. cc reported, λ failed. absurd (not_both failed c.if-self.false))

pub returns-then-not-fits-clause-refused : goal.returns-then-not-fits-clause-refused
returns-then-not-fits-clause-refused g c = (λ fits. not_both (c.if-not-fits.ensures.1 fits) refl, c.if-self.false, same_store _)

-- memory is refused
pub returns-in_err-reserve-clause-sound : goal.returns-in_err-reserve-clause-sound
returns-in_err-reserve-clause-sound g c = sound_still g.D.Disk.seen g.D.Disk.may_leave c.args.self.now c.reserve.new.self _ c.reserve.ensures.items c.requires

pub returns-in_err-reserve-clause-counted : goal.returns-in_err-reserve-clause-counted
returns-in_err-reserve-clause-counted g c = le_refl _

pub returns-in_err-reserve-clause-full : goal.returns-in_err-reserve-clause-full
returns-in_err-reserve-clause-full g c = memory_not_full _ _ (λ p. p.1 (c.if-not-fits.ensures.0 refl)) c.from_residual.ensures.1

pub returns-in_err-reserve-clause-reopened : goal.returns-in_err-reserve-clause-reopened
returns-in_err-reserve-clause-reopened g c = memory_not_reopened _ _ c.if-self.false c.from_residual.ensures.1

pub returns-in_err-spell_record-clause-sound : goal.returns-in_err-spell_record-clause-sound
returns-in_err-spell_record-clause-sound g c = sound_still g.D.Disk.seen g.D.Disk.may_leave c.args.self.now c.reserve.new.self _ c.reserve.ensures.items c.requires

pub returns-in_err-spell_record-clause-counted : goal.returns-in_err-spell_record-clause-counted
returns-in_err-spell_record-clause-counted g c = le_refl _

pub returns-in_err-spell_record-clause-full : goal.returns-in_err-spell_record-clause-full
returns-in_err-spell_record-clause-full g c = memory_not_full _ _ (λ p. p.1 (c.if-not-fits.ensures.0 refl)) c.from_residual-in_err-spell_record.ensures.1

pub returns-in_err-spell_record-clause-reopened : goal.returns-in_err-spell_record-clause-reopened
returns-in_err-spell_record-clause-reopened g c = memory_not_reopened _ _ c.if-self.false c.from_residual-in_err-spell_record.ensures.1

-- the device fails
pub returns-in_err-write_and_commit-clause-sound : goal.returns-in_err-write_and_commit-clause-sound
returns-in_err-write_and_commit-clause-sound g c = record { settled = λ works. absurd (true≢false works) }

pub returns-in_err-write_and_commit-clause-counted : goal.returns-in_err-write_and_commit-clause-counted
returns-in_err-write_and_commit-clause-counted g c = c.write_and_commit.ensures.counted

pub returns-in_err-write_and_commit-clause-full : goal.returns-in_err-write_and_commit-clause-full
returns-in_err-write_and_commit-clause-full g c = device_not_full _ _ (λ p. p.1 (c.if-not-fits.ensures.0 refl)) c.from_residual-in_err-write_and_commit.ensures.1

pub returns-in_err-write_and_commit-clause-reopened : goal.returns-in_err-write_and_commit-clause-reopened
returns-in_err-write_and_commit-clause-reopened g c = device_not_reopened _ _ c.if-self.false c.from_residual-in_err-write_and_commit.ensures.1

pub returns-in_err-write_and_commit-clause-refused : goal.returns-in_err-write_and_commit-clause-refused
returns-in_err-write_and_commit-clause-refused g c = passed_on _ _ Device c.from_residual-in_err-write_and_commit.ensures.1 (c.in_err-write_and_commit.ensures.cause refl, c.if-self.false, refl, ap (map (λ v. v.items)) c.reserve.ensures.items)

-- and doesn't fail
pub returns-clause-counted : goal.returns-clause-counted
returns-clause-counted g c = c.write_and_commit.ensures.counted

pub returns-clause-full : goal.returns-clause-full
returns-clause-full g c = none_answered _ Full _ (λ p. p.1 (c.if-not-fits.ensures.0 refl))

pub returns-clause-reopened : goal.returns-clause-reopened
returns-clause-reopened g c = none_answered _ MustReopen _ (λ failed. not_both failed c.if-self.false)

-- what was reserved stays where the record is refused
pub returns-in_err-reserve-clause-room : goal.returns-in_err-reserve-clause-room
returns-in_err-reserve-clause-room g c = λ failed n room. (room.0, omega (arith, room.1, c.reserve.ensures.len, c.reserve.ensures.capacity))

pub returns-in_err-spell_record-clause-room : goal.returns-in_err-spell_record-clause-room
returns-in_err-spell_record-clause-room g c = λ failed n room. (omega (arith, room.0, c.spell_record.ensures.keeps), omega (arith, room.1, c.reserve.ensures.len, c.reserve.ensures.capacity))

pub returns-in_err-write_and_commit-clause-room : goal.returns-in_err-write_and_commit-clause-room
returns-in_err-write_and_commit-clause-room g c = λ failed n room. (omega (arith, room.0, c.spell_record.ensures.keeps), omega (arith, room.1, c.reserve.ensures.len, c.reserve.ensures.capacity))
