use Rattle.std.proofs.Common.{◌++◌, ◌∷◌, [], refl, ap, sym, subst, ◌∙◌, Option}
use Rattle.held_processes.specs.Following.{AllFollow, HeldForm, HeldSlots}
use Rattle.held_processes.specs.Slots.{dropped}
use Rattle.held_processes.proofs.FollowLemmas.{past_of}
use Rattle.held_processes.proofs.ReleaseLemmas.{all_going, all_ended, ends_free, ends_held, dropped_keeps_free, left_dropped, may_end}
use Rattle.held_processes.proofs.processes.HeldProcesses.roll_back.Goals as goal

pub loop-place-init : goal.loop-place-init
loop-place-init g c = (
  λ first cs all. all_going first cs dropped c.self.inside.places.items c.args.access.now (subst (λ (hs : HeldSlots). AllFollow first cs hs c.args.access.now) (sym c.self.view_is) all),
  λ p. refl,
  refl,
)

pub loop-place-preserved : goal.loop-place-preserved
loop-place-preserved g c = (
  λ first cs all. ends_free first cs dropped c.loop-place.places.items c.pop.new.self.items c.loop-place.access dropped_keeps_free
      (c.in-Some.ensures.items ∙ ap (λ (x : Option HeldForm). c.pop.new.self.items ++ x ∷ []) c.in_default-place.is) (c.loop-place.invariant.0 first cs all),
  c.loop-place.invariant.1,
  c.loop-place.invariant.2,
)

pub roll_back-requires : goal.roll_back-requires
roll_back-requires g c =
    let asked = c.requires.follow in
    let first = asked.0 in
    let cs = asked.1 in
    let process = c.in-Some-place.process in record {
      held = (
        past_of first cs process.held.slot,
        may_end first cs dropped c.loop-place.places.items c.pop.new.self.items process c.loop-place.access
            (c.in-Some.ensures.items ∙ ap (λ (x : Option HeldForm). c.pop.new.self.items ++ x ∷ []) c.in-Some-place.is) (c.loop-place.invariant.0 first cs asked.2),
      );
    }

pub loop-place-preserved-in-Some-place : goal.loop-place-preserved-in-Some-place
loop-place-preserved-in-Some-place g c =
    let is = c.in-Some.ensures.items ∙ ap (λ (x : Option HeldForm). c.pop.new.self.items ++ x ∷ []) c.in-Some-place.is in
    let process = c.in-Some-place.process in
    let v = c.loop-place.access in (
      λ first cs all. let e = c.loop-place.invariant.0 first cs all in
          ends_held first cs dropped c.loop-place.places.items c.pop.new.self.items process v c.roll_back.new.access is e
          (c.roll_back.ensures.gone (past_of first cs process.held.slot) (may_end first cs dropped c.loop-place.places.items c.pop.new.self.items process v is e)),
      λ p. c.roll_back.ensures.seen p ∙ c.loop-place.invariant.1 p,
      c.roll_back.ensures.found ∙ c.loop-place.invariant.2,
    )

pub returns-clause-left : goal.returns-clause-left
returns-clause-left g c = λ first cs all.
    left_dropped first cs c.loop-place.access
    (all_ended first cs dropped c.loop-place.places.items c.loop-place.access (sym c.loop-place.places.ok.0 ∙ c.in_default.ensures.cases.0) (c.loop-place.invariant.0 first cs all))
