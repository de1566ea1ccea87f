use Rattle.std.proofs.Common.{cond, Some, map, refl, ap, ◌∙◌, string_bytes}
use Rattle.std.specs.String.{string_cmp}
use Rattle.std.specs.Cmp.Lexicographic.{slice_cmp}
use Rattle.std.specs.Ordering.{nat_cmp}
use Rattle.std.specs.Option.{option_map}
use Rattle.std.specs.Str.{bytes_eq}
use Rattle.std.specs.BTreeMap.{get_by_text, insert_entry}
use Rattle.std.proofs.lemmas.Map.Text.{btree_map_updates_text}
use Rattle.library.specs.InMemory.{library_of}
use Rattle.loaded_modules.specs.Loaded.{module_at, module_in, modules_in_map, named_in, listed_in_map}
use Rattle.loaded_modules.proofs.LoadedLemmas.{map_cond}
use Rattle.loaded_modules.proofs.ListingLemmas.{insert_entry-read}
use Rattle.loaded_modules.proofs.loaded.load_module.Goals as goal

pub returns-clause-loaded : goal.returns-clause-loaded
returns-clause-loaded c = λ q.
    let key = c.in_ok-from_str.field-0 in
    let put = btree_map_updates_text (string_bytes key) c.args.modules.now c.insert.new.self _ c.in_ok-insert.ensures.updates q in
    let old = modules_in_map c.args.modules.now q in
    ap (option_map module_in) put
    ∙ (map_cond module_in (bytes_eq (string_bytes key) q) _ (get_by_text c.args.modules.now q)
    ∙ (ap (λ b. cond (bytes_eq b q) (Some (module_at (library_of c.in_ok-library.library.value) c.args.place)) old) c.in_ok-from_str.ensures.ok
    ∙ ap (λ l. cond (bytes_eq c.args.name.now q) (Some (module_at (library_of l) c.args.place)) old) c.in_ok-library.ensures.cases))

pub returns-clause-listed : goal.returns-clause-listed
returns-clause-listed c =
    let key = c.in_ok-from_str.field-0 in
    let old = listed_in_map c.args.modules.now in
    ap (map named_in) c.in_ok-insert.ensures.entries
    ∙ (insert_entry-read string_cmp (slice_cmp nat_cmp) string_bytes module_in (λ a b. refl) c.args.modules.now.entries key _
    ∙ (ap (λ name. insert_entry (slice_cmp nat_cmp) old name (module_at (library_of c.in_ok-library.library.value) c.args.place)) c.in_ok-from_str.ensures.ok
    ∙ ap (λ l. insert_entry (slice_cmp nat_cmp) old c.args.name.now (module_at (library_of l) c.args.place)) c.in_ok-library.ensures.cases))
