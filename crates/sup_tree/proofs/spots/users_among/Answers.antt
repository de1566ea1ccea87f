use Rattle.std.proofs.Common.{◌≡◌, ◌+◌, ◌-◌, false, List, [], length, map, drop, sym, subst, ap, ◌∙◌, arith}
use Rattle.std.specs.Option.{option_map_or}
use Rattle.std.specs.Str.{bytes_eq}
use Rattle.std.proofs.lemmas.List.{drop_all}
use Rattle.proc_table.proofs.Slots.{slots_is}
use Rattle.started_members.specs.Members.{Notes, processes_among}
use Rattle.sup_tree.specs.declared.tree.StartedApp.{StartedApp}
use Rattle.sup_tree.specs.Tree.{NotesUsers, app_of, module_in}
use Rattle.sup_tree.proofs.SlotLemmas.{app_noted, none_noted}
use Rattle.sup_tree.proofs.spots.users_among.Goals as goal

pub loop-place-init : goal.loop-place-init
loop-place-init c =
    let apps = c.args.apps.now in
    let none : drop (length apps) apps ≡ [] = drop_all (length apps) apps (omega arith) in
    (sym slots_is, λ p. none_noted 256 p ∙ sym (ap (λ (rest : List StartedApp). option_map_or (bytes_eq c.args.«module».now) (module_in p (map app_of rest)) false) none))

pub loop-place-preserved : goal.loop-place-preserved
loop-place-preserved c =
    let apps = c.args.apps.now in
    let name = c.args.«module».now in
    let place = c.loop-place.place in
    let some = c.loop-place-test.true in
    let few = c.loop-place.auto.place in
    let next : place ≡ (place - 1) + 1 = omega (arith, some) in (
      c.note_users.ensures.long,
      app_noted name apps (place - 1) c.index-apps-place.result c.loop-place.used c.note_users.new.used (omega (arith, some, few)) c.index-apps-place.is
          (subst (λ n. NotesUsers name (map app_of (drop n apps)) c.loop-place.used) next c.loop-place.invariant.1)
          (subst (λ (x : StartedApp). Notes name (processes_among x.members.items) c.loop-place.used c.note_users.new.used) (sym c.index-apps-place.is)
          (subst (λ ms. Notes name (processes_among ms) c.loop-place.used c.note_users.new.used) c.as_slice.ensures.value c.note_users.ensures.noted)),
    )
