use Rattle.std.proofs.Common.{◌≡◌, ◌+◌, ◌-◌, drop, length-set, sym, subst, ap, ◌∙◌, arith}
use Rattle.std.specs.Option.{option_map}
use Rattle.std.specs.Str.{bytes_eq}
use Rattle.proc_table.proofs.Slots.{slots_is}
use Rattle.started_members.specs.Members.{Notes, processes_among}
use Rattle.started_members.proofs.FindLemmas.{member_noted}
use Rattle.started_members.proofs.finds.note_users.Goals as goal

pub bounds-used-process : goal.bounds-used-process
bounds-used-process c = let inside = c.in-Some.process.now.pid.inside in let is = slots_is in omega (arith, inside, is)

pub loop-place-preserved-in-Some : goal.loop-place-preserved-in-Some
loop-place-preserved-in-Some c =
    let place = c.loop-place.place in
    let some = c.loop-place-test.true in
    let few = c.loop-place.auto.place in
    let long = c.loop-place.invariant.0 in
    let slot = c.in-Some.process.now.pid.slot in
    let inside = c.in-Some.process.now.pid.inside in
    let next : place ≡ (place - 1) + 1 = omega (arith, some) in (
      length-set c.loop-place.used slot c.eq.result ∙ long,
      member_noted c.args.«module».now c.args.members.now (place - 1) c.index-members-place.result c.in-Some.process.now c.args.used.now c.loop-place.used c.eq.result
          (omega (arith, some, few)) c.index-members-place.is (sym c.process.ensures ∙ ap (option_map (λ p. p.now)) c.in-Some.is) (omega (arith, inside, long))
          (c.eq.ensures ∙ ap (bytes_eq c.args.«module».now) c.as_str.ensures)
          (subst (λ n. Notes c.args.«module».now (processes_among (drop n c.args.members.now)) c.args.used.now c.loop-place.used) next c.loop-place.invariant.1),
    )
