use Rattle.std.proofs.Common.{◌≡◌, ◌<◌, ◌≤◌, min, length, get_or, vec_len, ap, sym, ◌∙◌, arith, string_bytes}
use Rattle.std.specs.Option.{option_map}
use Rattle.std.proofs.lemmas.List.{length-map, get_or-map}
use Rattle.library.specs.declared.library.Library.{Library}
use Rattle.library.specs.InMemory.{shared_of, table_term_of}
use Rattle.loaded_modules.proofs.LoadedLemmas.{one_loaded, all_loaded}
use Rattle.loaded_modules.proofs.ListingLemmas.{one_listed, all_listed}
use Rattle.loaded_modules.proofs.loaded.load_library.Goals as goal

pub loop-place-preserved : goal.loop-place-preserved
loop-place-preserved c =
    let l = shared_of c.args.library.now in
    let library = c.args.library.now.value in
    let place = c.loop-place.place in
    let at = c.index.result.now in
    let names = c.len.ensures ∙ ap (λ (l : Library). vec_len l.app.modules) c.as_ref.ensures in
    let tables = c.len-2.ensures ∙ ap (λ (l : Library). vec_len l.tables) c.as_ref.ensures in
    let named : place < length library.app.modules.items = omega (arith, c.loop-place-test.true, c.min-place-end.ensures, names, library.app.modules.ok.0) in
    let name_there : place < length l.app.modules = omega (arith, named, length-map library.app.modules.items string_bytes) in
    let table_there : place < length l.tables =
    omega (arith, c.loop-place-test.true, c.min-place-end.ensures, tables, library.tables.ok.0, length-map library.tables.items (λ t. option_map table_term_of t)) in
    let name_is : get_or l.app.modules place c.as_str.result.now ≡ c.as_str.result.now =
    get_or-map string_bytes library.app.modules.items place at c.as_str.result.now named
    ∙ (ap string_bytes (sym (c.index.ensures ∙ ap (λ (l : Library). get_or l.app.modules.items place at) c.as_ref.ensures)) ∙ sym c.as_str.ensures.value) in
    record {
      loaded = λ q.
          one_loaded l.app l.app.modules l.tables place q c.as_str.result.now _ _ _ name_there table_there name_is (c.in_ok-load_module.ensures.loaded q) (c.loop-place.invariant.loaded q);
      listed =
          one_listed l.app l.app.modules l.tables place c.as_str.result.now _ _ _ name_there table_there name_is c.in_ok-load_module.ensures.listed c.loop-place.invariant.listed;
    }

pub returns : goal.returns
returns c =
    let l = shared_of c.args.library.now in
    let library = c.args.library.now.value in
    let names = c.len.ensures ∙ ap (λ (l : Library). vec_len l.app.modules) c.as_ref.ensures in
    let tables = c.len-2.ensures ∙ ap (λ (l : Library). vec_len l.tables) c.as_ref.ensures in
    let none_left : min (length l.app.modules) (length l.tables) ≤ c.loop-place.place =
    omega (
      arith,
      c.loop-place-test.false,
      c.min-place-end.ensures,
      names,
      tables,
      library.app.modules.ok.0,
      library.tables.ok.0,
      length-map library.app.modules.items string_bytes,
      length-map library.tables.items (λ t. option_map table_term_of t),
    ) in
    record {
      loaded = λ q. all_loaded l.app l.app.modules l.tables c.loop-place.place q _ _ none_left (c.loop-place.invariant.loaded q);
      listed = all_listed l.app l.app.modules l.tables c.loop-place.place _ _ none_left c.loop-place.invariant.listed;
    }
