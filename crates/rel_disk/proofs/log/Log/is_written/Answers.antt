use Rattle.std.proofs.Common.{inl, inr, ap, drop, subst, ◌∙◌, arith}
use Rattle.std.proofs.lemmas.List.{take_rest}
use Rattle.rel_disk.specs.Calls.{since_sync}
use Rattle.rel_disk.specs.LogBytes.{entries_of, AllFit}
use Rattle.rel_disk.specs.LogState.{LogState}
use Rattle.rel_disk.proofs.WrittenPlaces.{begins, has_head, goes_on, is_over}
use Rattle.rel_disk.proofs.log.Log.is_written.Goals as goal
use Rattle.rel_disk.proofs.log.Log.is_written.Goals.{else-at-place-via-then-at-place+else-place-at, else-at-place-via-else-at-place}

pub loop-from-init : goal.loop-from-init
loop-from-init c =
    begins c.args.place c.args.self.now.calls _
    (take_rest c.deref.result.now c.self.inside.synced ∙ ap (drop c.self.inside.synced) c.deref.ensures.value ∙ c.self.invariant.recent ∙ ap (λ (s : LogState). entries_of (since_sync s.calls)) c.self.view_is)
    (subst AllFit (ap (λ (s : LogState). s.calls) c.self.view_is) c.self.invariant.fit)

pub number_at-at-requires : goal.number_at-at-requires
number_at-at-requires c = omega (arith, has_head _ _ _ c.loop-from.from c.loop-from.invariant (omega arith))

pub number_at-count-requires : goal.number_at-count-requires
number_at-count-requires c = omega (arith, has_head _ _ _ c.loop-from.from c.loop-from.invariant (omega arith))

pub returns-then-place-at : goal.returns-then-place-at
returns-then-place-at c =
    (goes_on _ _ _ c.loop-from.from c.loop-from.invariant (omega arith) c.number_at-at.result c.number_at-count.result c.number_at-at.ensures c.number_at-count.ensures).found (omega arith) (omega arith)

pub overflow_add-from-in-loop-from-2 : goal.overflow_add-from-in-loop-from-2
overflow_add-from-in-loop-from-2 c =
    omega (arith, (goes_on _ _ _ c.loop-from.from c.loop-from.invariant (omega arith) c.number_at-at.result c.number_at-count.result c.number_at-at.ensures c.number_at-count.ensures).whole)

pub overflow_add-from-in-loop-from-3 : goal.overflow_add-from-in-loop-from-3
overflow_add-from-in-loop-from-3 c =
    omega (arith, (goes_on _ _ _ c.loop-from.from c.loop-from.invariant (omega arith) c.number_at-at.result c.number_at-count.result c.number_at-at.ensures c.number_at-count.ensures).whole)

pub loop-from-preserved : goal.loop-from-preserved
loop-from-preserved c =
    (goes_on _ _ _ c.loop-from.from c.loop-from.invariant (omega arith) c.number_at-at.result c.number_at-count.result c.number_at-at.ensures c.number_at-count.ensures).further
    (elim c.else-at-place.branch [ else-at-place-via-then-at-place+else-place-at w ↦ inr (omega arith) | else-at-place-via-else-at-place w ↦ inl (omega arith) ])

pub returns : goal.returns
returns c = is_over _ _ _ c.loop-from.from c.loop-from.invariant (omega arith)
