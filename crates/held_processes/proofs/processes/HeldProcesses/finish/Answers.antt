use Rattle.std.proofs.Common.{◌++◌, ◌∷◌, [], refl, ap, sym, subst, ◌∙◌, Option}
use Rattle.held_processes.specs.Following.{AllFollow, HeldForm, HeldSlots}
use Rattle.held_processes.proofs.ReleaseLemmas.{all_going, all_ended, ends_free, ends_held, finish_keeps_free, finish_let_go, may_end}
use Rattle.held_processes.proofs.SlotLemmas.{longer_both, longer_still}
use Rattle.held_processes.proofs.processes.HeldProcesses.finish.Goals as goal

pub loop-place-init : goal.loop-place-init
loop-place-init g c = (
  all_going g.followed.first g.followed.courses _ c.self.inside.places.items c.args.access.now
      (subst (λ (hs : HeldSlots). AllFollow g.followed.first g.followed.courses hs c.args.access.now) (sym c.self.view_is) c.requires.1),
  longer_still c.args.access.now,
)

pub loop-place-preserved : goal.loop-place-preserved
loop-place-preserved g c = (
  ends_free g.followed.first g.followed.courses _ c.loop-place.places.items c.pop.new.self.items c.loop-place.access finish_keeps_free
      (c.in-Some.ensures.items ∙ ap (λ (x : Option HeldForm). c.pop.new.self.items ++ x ∷ []) c.in_default-place.is) c.loop-place.invariant.0,
  c.loop-place.invariant.1,
)

pub let_go-requires : goal.let_go-requires
let_go-requires g c κs within = (
  within,
  may_end g.followed.first g.followed.courses _ c.loop-place.places.items c.pop.new.self.items c.in-Some-place.process c.loop-place.access
      (c.in-Some.ensures.items ∙ ap (λ (x : Option HeldForm). c.pop.new.self.items ++ x ∷ []) c.in-Some-place.is) c.loop-place.invariant.0,
)

pub loop-place-preserved-in-Some-place : goal.loop-place-preserved-in-Some-place
loop-place-preserved-in-Some-place g c =
    let is = c.in-Some.ensures.items ∙ ap (λ (x : Option HeldForm). c.pop.new.self.items ++ x ∷ []) c.in-Some-place.is in (
      ends_held g.followed.first g.followed.courses _ c.loop-place.places.items c.pop.new.self.items c.in-Some-place.process c.loop-place.access c.let_go.new.access is
          c.loop-place.invariant.0
          (finish_let_go g.followed.first g.followed.courses c.loop-place.places.items c.pop.new.self.items c.in-Some-place.process c.loop-place.access c.let_go.new.access is c.loop-place.invariant.0
          c.let_go.ensures.gone),
      longer_both c.args.access.now c.loop-place.access c.let_go.new.access c.loop-place.invariant.1 c.let_go.ensures.longer,
    )

pub returns-clause-left : goal.returns-clause-left
returns-clause-left g c =
    all_ended g.followed.first g.followed.courses _ c.loop-place.places.items c.loop-place.access (sym c.loop-place.places.ok.0 ∙ c.in_default.ensures.cases.0) c.loop-place.invariant.0
