use Rattle.std.proofs.Common.{◌≡◌, ◌+◌, ◌∷◌, ◌++◌, Option, map, drop, sym, ap, ◌∙◌}
use Rattle.std.specs.Option.{option_map}
use Rattle.std.proofs.lemmas.List.{drop_more}
use Rattle.rel_files.specs.Release.{application_of}
use Rattle.mod_table.specs.declared.reader.ModFile.{ModFile}
use Rattle.library.specs.InMemory.{table_term_of}
use Rattle.library.specs.Library.{TableTerm, tables_there}
use Rattle.rel_check.specs.InMemory.{named_of}
use Rattle.rel_check.specs.Names.{named_by, ids_in}
use Rattle.rel_check.proofs.PartRows.{ids_more, ids_same}
use Rattle.rel_check.proofs.names.child_ids.Goals.{in-Some+in_ok-add_ids, in_default}
use Rattle.rel_check.proofs.names.child_ids.Goals as goal

pub loop-file-preserved : goal.loop-file-preserved
loop-file-preserved c =
    let files = c.as_slice-file-items.result.now in
    let i = c.loop-file.file-index in
    let view : Option ModFile → Option TableTerm = λ t. option_map table_term_of t in
    let later = drop (i + 1) files in
    let split : drop i files ≡ c.file-item.result ∷ later = drop_more files i c.file-item.result c.loop-file-test.true ∙ ap (λ f. f ∷ later) (sym c.file-item.is) in
    let a = application_of c.args.part.app.now in
    elim c.match-file.branch [
      | in-Some+in_ok-add_ids w ↦
          ids_more a (map view (drop i files)) (table_term_of w.in-Some.file) (map view later) (map named_of c.loop-file.names.items)
          (map named_of c.match-file.names.items) _ (ap (map view) split ∙ ap (λ f. view f ∷ map view later) w.in-Some.is)
          (ap (λ n. map named_of n.items) w.names-is ∙ w.in_ok-add_ids.ensures) c.loop-file.invariant
      | in_default w ↦
          ids_same a (map view (drop i files)) (map view later) (map named_of c.match-file.names.items) _
          (ap (map view) split ∙ ap (λ f. view f ∷ map view later) w.in_default.is)
          (ap (λ n. map named_of n.items ++ named_by a (ids_in (tables_there (map view (drop i files))))) w.names-is ∙ c.loop-file.invariant)
    ]
