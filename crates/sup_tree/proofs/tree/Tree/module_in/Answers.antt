use Rattle.std.proofs.Common.{◌≡◌, ◌∷◌, ◌+◌, map, drop, ap, sym, ◌∙◌}
use Rattle.std.specs.Option.{option_map}
use Rattle.std.proofs.lemmas.List.{drop_more}
use Rattle.sup_tree.specs.Tree.{app_of, module_in}
use Rattle.started_members.specs.Members.{module_among, processes_among}
use Rattle.sup_tree.proofs.SlotLemmas.{not_here, found_here}
use Rattle.sup_tree.proofs.tree.Tree.module_in.Goals as goal

pub loop-app-preserved : goal.loop-app-preserved
loop-app-preserved c =
    let apps = c.as_slice-app-items.result.now in
    let later = drop (c.loop-app.app-index + 1) apps in
    let split : drop c.loop-app.app-index apps ≡ c.app-item.result ∷ later =
    drop_more apps c.loop-app.app-index c.app-item.result c.loop-app-test.true ∙ ap (λ a. a ∷ later) (sym c.app-item.is) in
    let none = ap (λ ms. module_among c.args.slot (processes_among ms)) (sym c.as_slice.ensures.value) ∙ (sym c.module_among.ensures ∙ ap (option_map (λ m. m.now)) c.in_default.is) in
    not_here c.args.slot _ (map app_of later) (app_of c.app-item.result) _ (ap (map app_of) split) none c.loop-app.invariant

pub returns-in-Some : goal.returns-in-Some
returns-in-Some c =
    let apps = c.as_slice-app-items.result.now in
    let later = drop (c.loop-app.app-index + 1) apps in
    let split : drop c.loop-app.app-index apps ≡ c.app-item.result ∷ later =
    drop_more apps c.loop-app.app-index c.app-item.result c.loop-app-test.true ∙ ap (λ a. a ∷ later) (sym c.app-item.is) in
    let found = ap (λ ms. module_among c.args.slot (processes_among ms)) (sym c.as_slice.ensures.value) ∙ (sym c.module_among.ensures ∙ ap (option_map (λ m. m.now)) c.in-Some.is) in
    found_here c.args.slot _ (map app_of later) (app_of c.app-item.result) c.in-Some.module.now _ (ap (map app_of) split) found c.loop-app.invariant
    ∙ (ap (λ as'. module_in c.args.slot (map app_of as')) c.as_slice-app-items.ensures.value ∙ ap (module_in c.args.slot) c.self.view_is)
