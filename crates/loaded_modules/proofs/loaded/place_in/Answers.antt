use Rattle.std.proofs.Common.{◌≡◌, ◌<◌, ◌≤◌, cond, min, length, get_or, Some, ap, sym, ◌∙◌, arith, string_bytes}
use Rattle.std.specs.Option.{option_map}
use Rattle.std.specs.Str.{bytes_eq}
use Rattle.std.proofs.lemmas.List.{length-map, get_or-map}
use Rattle.library.specs.InMemory.{library_of, table_term_of}
use Rattle.loaded_modules.specs.Loaded.{module_at}
use Rattle.loaded_modules.proofs.LoadedLemmas.{one_loaded, all_loaded}
use Rattle.loaded_modules.proofs.loaded.place_in.Goals as goal
use Rattle.loaded_modules.proofs.loaded.place_in.Goals.{then-eq, else-eq}

pub loop-place-preserved : goal.loop-place-preserved
loop-place-preserved c =
    let library = c.args.library.now in
    let l = library_of library in
    let place = c.loop-place.place in
    let name = c.args.name.now in
    let at = c.as_str.result.now in
    let before = option_map (module_at l) c.loop-place.found in
    let named : place < length library.app.modules.items = omega (arith, c.loop-place-test.true, c.min-place-end.ensures, c.len.ensures, library.app.modules.ok.0) in
    let name_there : place < length l.app.modules = omega (arith, named, length-map library.app.modules.items string_bytes) in
    let table_there : place < length l.tables =
    omega (arith, c.loop-place-test.true, c.min-place-end.ensures, c.len-2.ensures, library.tables.ok.0, length-map library.tables.items (λ t. option_map table_term_of t)) in
    let name_is : get_or l.app.modules place at ≡ at =
    get_or-map string_bytes library.app.modules.items place c.index.result.now at named ∙ (ap string_bytes (sym c.index.ensures) ∙ sym c.as_str.ensures.value) in
    let found : option_map (module_at l) c.if-eq.found ≡ cond (bytes_eq at name) (Some (module_at l place)) before = elim c.if-eq.branch [
      | then-eq w ↦ ap (option_map (module_at l)) w.found-is ∙ ap (λ b. cond b (Some (module_at l place)) before) (sym (sym c.eq.ensures ∙ w.if-eq.true))
      | else-eq w ↦ ap (option_map (module_at l)) w.found-is ∙ ap (λ b. cond b (Some (module_at l place)) before) (sym (sym c.eq.ensures ∙ w.if-eq.false))
    ] in
    one_loaded l.app l.app.modules l.tables place name at _ _ _ name_there table_there name_is found c.loop-place.invariant

pub returns : goal.returns
returns c =
    let library = c.args.library.now in
    let l = library_of library in
    let none_left : min (length l.app.modules) (length l.tables) ≤ c.loop-place.place =
    omega (
      arith,
      c.loop-place-test.false,
      c.min-place-end.ensures,
      c.len.ensures,
      c.len-2.ensures,
      library.app.modules.ok.0,
      library.tables.ok.0,
      length-map library.app.modules.items string_bytes,
      length-map library.tables.items (λ t. option_map table_term_of t),
    ) in
    all_loaded l.app l.app.modules l.tables c.loop-place.place c.args.name.now _ _ none_left c.loop-place.invariant
