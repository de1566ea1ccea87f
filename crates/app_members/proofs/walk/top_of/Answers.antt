use Rattle.std.proofs.Common.{◌≡◌, Option, Some, String, Global, string_bytes, ap, sym, ◌∙◌, refl}
use Rattle.std.specs.Option.{option_map}
use Rattle.mod_table.specs.declared.table.Table.TheVariants.{Worker}
use Rattle.loaded_modules.specs.Loaded.{modules_in, tables_of}
use Rattle.app_members.specs.Walk.{top_fault, worker_at_top}
use Rattle.app_members.specs.Walk.StartFault.{no_table}
use Rattle.app_members.proofs.walk.top_of.Goals as goal

pub returns-in-Worker : goal.returns-in-Worker
returns-in-Worker c =
    let tables = tables_of (modules_in c.args.loaded.now) in
    let top = string_bytes c.in-Some.top in
    let at : tables c.as_str-module.result.now ≡ Some (Worker c.in-Worker.field-0) =
    sym c.table.ensures ∙ (ap (option_map (λ t. t.now)) c.in-Some-table.is ∙ ap Some c.in-Worker.is) in (
      no_table c.as_str-module.result.now,
      ap (λ (o : Option (String Global)). worker_at_top tables (option_map string_bytes o)) c.in-Some.is
          ∙ (ap (top_fault top) (ap tables (sym c.as_str-module.ensures.value) ∙ at) ∙ ap (λ m. Some (no_table m)) (sym c.as_str-module.ensures.value)),
      refl,
    )
