use Rattle.rel_unpack.specs.Refusal.{refusal_of}
use Rattle.std.proofs.Common.{string_bytes, sym, ap, subst, ◌∙◌, Ok, Err, inl}
use Rattle.rel_files.specs.Release.{application_of}
use Rattle.library.specs.InMemory.{table_term_of}
use Rattle.rel_unpack.specs.Refusal.Refusal.{vsn_mismatch}
use Rattle.rel_unpack.specs.Source.{FileSays}
use Rattle.rel_unpack.specs.Paths.{mod_path}
use Rattle.rel_unpack.specs.Applications.{mod_form, is_of, TableAt}
use Rattle.rel_unpack.proofs.Steps.{passes, fails_test, passed_on, no_memory_left}
use Rattle.rel_unpack.proofs.tables.read_table.Goals as goal

pub returns-then-is_of : goal.returns-then-is_of
returns-then-is_of g c =
    let place = mod_path (application_of c.args.app.now) c.args.name.now in
    passes (FileSays mod_form (g.F.Files.gives c.args.files.now) place) (is_of c.args.name.now) (vsn_mismatch place) (table_term_of c.in_ok-file.file)
    (subst (λ p. FileSays mod_form (g.F.Files.gives c.args.files.now) p (Ok (table_term_of c.in_ok-file.file))) (c.as_str.ensures.value ∙ c.in_ok-path.ensures) c.in_ok-file.ensures)
    (sym c.is_of.ensures ∙ c.if-is_of.true)

pub returns-else-is_of : goal.returns-else-is_of
returns-else-is_of g c = λ ne.
    let place = mod_path (application_of c.args.app.now) c.args.name.now in
    fails_test (FileSays mod_form (g.F.Files.gives c.args.files.now) place) (is_of c.args.name.now) (vsn_mismatch place) (vsn_mismatch (string_bytes c.in_ok-path.path)) (table_term_of c.in_ok-file.file)
    (subst (λ p. FileSays mod_form (g.F.Files.gives c.args.files.now) p (Ok (table_term_of c.in_ok-file.file))) (c.as_str.ensures.value ∙ c.in_ok-path.ensures) c.in_ok-file.ensures)
    (sym c.is_of.ensures ∙ c.if-is_of.false) (ap vsn_mismatch c.in_ok-path.ensures)

pub returns-in_err-path : goal.returns-in_err-path
returns-in_err-path g c = no_memory_left table_term_of (TableAt (g.F.Files.gives c.args.files.now) (application_of c.args.app.now) c.args.name.now) c.from_residual.result c.from_residual.ensures.0 c.from_residual.ensures.1

pub returns-in_err-file : goal.returns-in_err-file
returns-in_err-file g c =
    passed_on table_term_of (TableAt (g.F.Files.gives c.args.files.now) (application_of c.args.app.now) c.args.name.now) c.in_err-file.field-0.0 c.from_residual-in_err-file.result
    c.from_residual-in_err-file.ensures.0 c.from_residual-in_err-file.ensures.1
    (λ ne. inl (subst (λ p. FileSays mod_form (g.F.Files.gives c.args.files.now) p (Err (refusal_of c.in_err-file.field-0.0))) (c.as_str.ensures.value ∙ c.in_ok-path.ensures) (c.in_err-file.ensures ne)))
