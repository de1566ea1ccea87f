use Rattle.std.proofs.Common.{◌≡◌, ℕ, length, map, ap, inl, refl, sym, ◌∙◌, subst, arith, Option, Some}
use Rattle.std.specs.Prelude.{◌↔◌, IfSome, IsSome}
use Rattle.std.proofs.lemmas.Grind.{common_steps}
use Rattle.rel_store.specs.declared.error.StoreError.TheVariants.{Device, Full}
use Rattle.rel_disk.specs.Moments.{LeavesOnly}
use Rattle.rel_store.specs.Changed.{KeepsOthers, IsInCompaction}
use Rattle.rel_store.proofs.ImageBytes.{others_now, others_leave}
use Rattle.rel_store.proofs.ImageSteps.{within_now, ends_now, ends_leave, after_compaction, replaced_now, settled_now}
use Rattle.rel_store.proofs.Moments.{resting}
use Rattle.rel_store.proofs.Scan.{passed_on}
use Rattle.rel_store.proofs.Refusals.{device_not_full, memory_not_full, none_answered}
use Rattle.rel_store.proofs.store.Store.compact.Goals as goal

-- nothing has been written
pub returns-in_err-place-clause-any_moment : goal.returns-in_err-place-clause-any_moment
returns-in_err-place-clause-any_moment g c = λ works. resting g.D.Disk.moment g.D.Disk.left_since g.D.Disk.seen g.D.Disk.may_leave c.args.self.now (c.requires.settled works) _ (λ f here. inl here) (g.met.D.Disk.only_now c.args.self.now.disk)

pub returns-in_err-place-clause-ends : goal.returns-in_err-place-clause-ends
returns-in_err-place-clause-ends g c = λ works. ends_now g.D.Disk.moment g.D.Disk.left_since g.D.Disk.seen g.D.Disk.may_leave c.args.self.now (c.requires.settled works) c.args.image.now _ (g.met.D.Disk.only_now c.args.self.now.disk)

pub returns-in_err-place-clause-others : goal.returns-in_err-place-clause-others
returns-in_err-place-clause-others g c = λ works. others_now g.D.Disk.moment g.D.Disk.left_since g.D.Disk.seen g.D.Disk.may_leave c.args.self.now (c.requires.settled works) _ (g.met.D.Disk.only_now c.args.self.now.disk)

pub returns-in_err-reserve-clause-any_moment : goal.returns-in_err-reserve-clause-any_moment
returns-in_err-reserve-clause-any_moment g c = λ works. resting g.D.Disk.moment g.D.Disk.left_since g.D.Disk.seen g.D.Disk.may_leave c.args.self.now (c.requires.settled works) _ (λ f here. inl here) (g.met.D.Disk.only_now c.args.self.now.disk)

pub returns-in_err-reserve-clause-ends : goal.returns-in_err-reserve-clause-ends
returns-in_err-reserve-clause-ends g c = λ works. ends_now g.D.Disk.moment g.D.Disk.left_since g.D.Disk.seen g.D.Disk.may_leave c.args.self.now (c.requires.settled works) c.args.image.now _ (g.met.D.Disk.only_now c.args.self.now.disk)

pub returns-in_err-reserve-clause-others : goal.returns-in_err-reserve-clause-others
returns-in_err-reserve-clause-others g c = λ works. others_now g.D.Disk.moment g.D.Disk.left_since g.D.Disk.seen g.D.Disk.may_leave c.args.self.now (c.requires.settled works) _ (g.met.D.Disk.only_now c.args.self.now.disk)

pub returns-in_err-spell_record-clause-any_moment : goal.returns-in_err-spell_record-clause-any_moment
returns-in_err-spell_record-clause-any_moment g c = λ works. resting g.D.Disk.moment g.D.Disk.left_since g.D.Disk.seen g.D.Disk.may_leave c.args.self.now (c.requires.settled works) _ (λ f here. inl here) (g.met.D.Disk.only_now c.args.self.now.disk)

pub returns-in_err-spell_record-clause-ends : goal.returns-in_err-spell_record-clause-ends
returns-in_err-spell_record-clause-ends g c = λ works. ends_now g.D.Disk.moment g.D.Disk.left_since g.D.Disk.seen g.D.Disk.may_leave c.args.self.now (c.requires.settled works) c.args.image.now _ (g.met.D.Disk.only_now c.args.self.now.disk)

pub returns-in_err-spell_record-clause-others : goal.returns-in_err-spell_record-clause-others
returns-in_err-spell_record-clause-others g c = λ works. others_now g.D.Disk.moment g.D.Disk.left_since g.D.Disk.seen g.D.Disk.may_leave c.args.self.now (c.requires.settled works) _ (g.met.D.Disk.only_now c.args.self.now.disk)

-- the image's place, and that it fits there
at_place : (found : Option ℕ) (place : ℕ) (P : ℕ → Type 0) → found ≡ Some place → IfSome found P → P place
at_place found place P is there = subst (λ o. IfSome o P) is there

fits_so : (found : Option ℕ) (place : ℕ) (Fits : Type 0) → found ≡ Some place → IsSome found ↔ Fits → Fits
fits_so found place Fits is both = both.0 (subst IsSome (sym is) refl)

pub put_image-requires-clause-place : goal.put_image-requires-clause-place
put_image-requires-clause-place g c = within_now g.D.Disk.moment g.D.Disk.left_since g.D.Disk.seen g.D.Disk.may_leave c.args.self.now (c.requires.settled c.if-self.false) c.args.image.now c.in_ok-place.place (at_place _ _ _ c.in_ok-place.ensures.ok_part c.place_of_image.ensures.place) (fits_so _ _ _ c.in_ok-place.ensures.ok_part c.place_of_image.ensures.fits)

pub returns-in_err-spell_record-clause-full : goal.returns-in_err-spell_record-clause-full
returns-in_err-spell_record-clause-full g c = memory_not_full _ _ (λ p. p.1 (fits_so _ _ _ c.in_ok-place.ensures.ok_part c.place_of_image.ensures.fits)) c.from_residual-in_err-spell_record.ensures.1

pub returns-in_err-put_image-clause-full : goal.returns-in_err-put_image-clause-full
returns-in_err-put_image-clause-full g c = device_not_full _ _ (λ p. p.1 (fits_so _ _ _ c.in_ok-place.ensures.ok_part c.place_of_image.ensures.fits)) c.from_residual-in_err-put_image.ensures.1

-- the image is written, its place made the base, and the disk cut
pub returns-in_err-put_image-clause-any_moment : goal.returns-in_err-put_image-clause-any_moment
returns-in_err-put_image-clause-any_moment g c = λ works.
    after_compaction g.D.Disk.moment g.D.Disk.left_since g.D.Disk.seen g.D.Disk.may_leave c.args.self.now (c.requires.settled works) c.args.image.now c.in_ok-place.place (at_place _ _ _ c.in_ok-place.ensures.ok_part c.place_of_image.ensures.place) (fits_so _ _ _ c.in_ok-place.ensures.ok_part c.place_of_image.ensures.fits) c.put_image.new.disk c.deref.result.now (c.deref.ensures.value ∙ c.in_ok-spell_record.ensures.ok) c.put_image.ensures.any_moment

pub returns-in_err-put_image-clause-ends : goal.returns-in_err-put_image-clause-ends
returns-in_err-put_image-clause-ends g c = λ works.
    ends_leave g.D.Disk.moment g.D.Disk.left_since g.D.Disk.seen g.D.Disk.may_leave c.args.self.now (c.requires.settled works) c.args.image.now c.in_ok-place.place (at_place _ _ _ c.in_ok-place.ensures.ok_part c.place_of_image.ensures.place) (fits_so _ _ _ c.in_ok-place.ensures.ok_part c.place_of_image.ensures.fits) c.put_image.new.disk c.deref.result.now (c.deref.ensures.value ∙ c.in_ok-spell_record.ensures.ok) c.put_image.ensures.any_moment

pub returns-in_err-put_image-clause-others : goal.returns-in_err-put_image-clause-others
returns-in_err-put_image-clause-others g c = λ works.
    subst (λ place. LeavesOnly g.D.Disk.moment g.D.Disk.left_since c.args.self.now.disk c.put_image.new.disk (KeepsOthers (IsInCompaction (g.D.Disk.seen c.args.self.now.disk) place (length c.args.image.now)) (g.D.Disk.seen c.args.self.now.disk))) (at_place _ _ _ c.in_ok-place.ensures.ok_part c.place_of_image.ensures.place)
    (others_leave g.D.Disk.moment g.D.Disk.left_since g.D.Disk.seen g.D.Disk.may_leave c.args.self.now (c.requires.settled works) c.args.image.now c.in_ok-place.place c.put_image.new.disk c.deref.result.now (c.deref.ensures.value ∙ c.in_ok-spell_record.ensures.ok) c.put_image.ensures.any_moment)

pub returns-clause-any_moment : goal.returns-clause-any_moment
returns-clause-any_moment g c = λ works.
    after_compaction g.D.Disk.moment g.D.Disk.left_since g.D.Disk.seen g.D.Disk.may_leave c.args.self.now (c.requires.settled works) c.args.image.now c.in_ok-place.place (at_place _ _ _ c.in_ok-place.ensures.ok_part c.place_of_image.ensures.place) (fits_so _ _ _ c.in_ok-place.ensures.ok_part c.place_of_image.ensures.fits) c.put_image.new.disk c.deref.result.now (c.deref.ensures.value ∙ c.in_ok-spell_record.ensures.ok) c.put_image.ensures.any_moment

pub returns-clause-ends : goal.returns-clause-ends
returns-clause-ends g c = λ works.
    ends_leave g.D.Disk.moment g.D.Disk.left_since g.D.Disk.seen g.D.Disk.may_leave c.args.self.now (c.requires.settled works) c.args.image.now c.in_ok-place.place (at_place _ _ _ c.in_ok-place.ensures.ok_part c.place_of_image.ensures.place) (fits_so _ _ _ c.in_ok-place.ensures.ok_part c.place_of_image.ensures.fits) c.put_image.new.disk c.deref.result.now (c.deref.ensures.value ∙ c.in_ok-spell_record.ensures.ok) c.put_image.ensures.any_moment

pub returns-clause-others : goal.returns-clause-others
returns-clause-others g c = λ works.
    subst (λ place. LeavesOnly g.D.Disk.moment g.D.Disk.left_since c.args.self.now.disk c.put_image.new.disk (KeepsOthers (IsInCompaction (g.D.Disk.seen c.args.self.now.disk) place (length c.args.image.now)) (g.D.Disk.seen c.args.self.now.disk))) (at_place _ _ _ c.in_ok-place.ensures.ok_part c.place_of_image.ensures.place)
    (others_leave g.D.Disk.moment g.D.Disk.left_since g.D.Disk.seen g.D.Disk.may_leave c.args.self.now (c.requires.settled works) c.args.image.now c.in_ok-place.place c.put_image.new.disk c.deref.result.now (c.deref.ensures.value ∙ c.in_ok-spell_record.ensures.ok) c.put_image.ensures.any_moment)

pub returns-clause-start : goal.returns-clause-start
returns-clause-start g c =
    (replaced_now g.D.Disk.moment g.D.Disk.left_since g.D.Disk.seen g.D.Disk.may_leave c.args.self.now (c.requires.settled c.if-self.false) c.args.image.now c.in_ok-place.place (at_place _ _ _ c.in_ok-place.ensures.ok_part c.place_of_image.ensures.place) (fits_so _ _ _ c.in_ok-place.ensures.ok_part c.place_of_image.ensures.fits) c.put_image.new.disk c.deref.result.now (c.deref.ensures.value ∙ c.in_ok-spell_record.ensures.ok) c.in_ok-put_image.ensures.written).moved.start

pub returns-clause-bytes : goal.returns-clause-bytes
returns-clause-bytes g c =
    (replaced_now g.D.Disk.moment g.D.Disk.left_since g.D.Disk.seen g.D.Disk.may_leave c.args.self.now (c.requires.settled c.if-self.false) c.args.image.now c.in_ok-place.place (at_place _ _ _ c.in_ok-place.ensures.ok_part c.place_of_image.ensures.place) (fits_so _ _ _ c.in_ok-place.ensures.ok_part c.place_of_image.ensures.fits) c.put_image.new.disk c.deref.result.now (c.deref.ensures.value ∙ c.in_ok-spell_record.ensures.ok) c.in_ok-put_image.ensures.written).is

pub returns-clause-full : goal.returns-clause-full
returns-clause-full g c = none_answered _ Full _ (λ p. p.1 (fits_so _ _ _ c.in_ok-place.ensures.ok_part c.place_of_image.ensures.fits))

pub returns-clause-compacted : goal.returns-clause-compacted
returns-clause-compacted g c = grind (arith, common_steps)

pub returns-clause-settled : goal.returns-clause-settled
returns-clause-settled g c =
    let r = replaced_now g.D.Disk.moment g.D.Disk.left_since g.D.Disk.seen g.D.Disk.may_leave c.args.self.now (c.requires.settled c.if-self.false) c.args.image.now c.in_ok-place.place (at_place _ _ _ c.in_ok-place.ensures.ok_part c.place_of_image.ensures.place) (fits_so _ _ _ c.in_ok-place.ensures.ok_part c.place_of_image.ensures.fits) c.put_image.new.disk c.deref.result.now (c.deref.ensures.value ∙ c.in_ok-spell_record.ensures.ok) c.in_ok-put_image.ensures.written in
    settled_now g.D.Disk.moment g.D.Disk.left_since g.D.Disk.seen g.D.Disk.may_leave c.args.self.now (c.requires.settled c.if-self.false) c.args.image.now c.in_ok-place.place (at_place _ _ _ c.in_ok-place.ensures.ok_part c.place_of_image.ensures.place) (fits_so _ _ _ c.in_ok-place.ensures.ok_part c.place_of_image.ensures.fits) _ refl r c.in_ok-put_image.ensures.durable (returns-clause-compacted g c) refl refl refl refl refl

pub returns-clause-sound : goal.returns-clause-sound
returns-clause-sound g c = record { settled = λ works. returns-clause-settled g c }

pub returns-in_err-reserve-clause-full : goal.returns-in_err-reserve-clause-full
returns-in_err-reserve-clause-full g c = memory_not_full _ _ (λ p. p.1 (fits_so _ _ _ c.in_ok-place.ensures.ok_part c.place_of_image.ensures.fits)) c.from_residual-in_err-reserve.ensures.1

pub returns-in_err-put_image-clause-refused : goal.returns-in_err-put_image-clause-refused
returns-in_err-put_image-clause-refused g c = passed_on _ _ Device c.from_residual-in_err-put_image.ensures.1 (c.in_err-put_image.ensures.cause refl, c.if-self.false, refl, ap (map (λ v. v.items)) c.reserve.ensures.items)

-- what was reserved stays where the image is refused
pub returns-in_err-reserve-clause-room : goal.returns-in_err-reserve-clause-room
returns-in_err-reserve-clause-room g c = λ failed n room. (room.0, omega (arith, room.1, c.reserve.ensures.len, c.reserve.ensures.capacity))

pub returns-in_err-spell_record-clause-room : goal.returns-in_err-spell_record-clause-room
returns-in_err-spell_record-clause-room g c = λ failed n room. (omega (arith, room.0, c.spell_record.ensures.keeps), omega (arith, room.1, c.reserve.ensures.len, c.reserve.ensures.capacity))

pub returns-in_err-put_image-clause-room : goal.returns-in_err-put_image-clause-room
returns-in_err-put_image-clause-room g c = λ failed n room. (omega (arith, room.0, c.spell_record.ensures.keeps), omega (arith, room.1, c.reserve.ensures.len, c.reserve.ensures.capacity))
