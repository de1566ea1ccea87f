use Rattle.std.proofs.Common.{map, inl, inr, refl}
use Rattle.std.specs.Option.{option_map}
use Rattle.rel_files.specs.Release.{application_of}
use Rattle.rel_files.specs.AppInMemory.{specification_of}
use Rattle.library.specs.InMemory.{table_term_of, library_of}
use Rattle.rel_unpack.specs.Applications.{LibraryAt}
use Rattle.rel_unpack.proofs.Steps.{passed_on}
use Rattle.rel_unpack.proofs.applications.read_library.Goals as goal

pub returns-in_err-specification : goal.returns-in_err-specification
returns-in_err-specification g c =
    passed_on library_of (LibraryAt (g.F.Files.gives c.args.files.now) (application_of c.args.app.now)) c.in_err-specification.field-0.0 c.from_residual.result
    c.from_residual.ensures.0 c.from_residual.ensures.1 (λ ne. inl (c.in_err-specification.ensures ne))

pub returns-in_err-tables : goal.returns-in_err-tables
returns-in_err-tables g c =
    passed_on library_of (LibraryAt (g.F.Files.gives c.args.files.now) (application_of c.args.app.now)) c.in_err-tables.field-0.0 c.from_residual-in_err-tables.result
    c.from_residual-in_err-tables.ensures.0 c.from_residual-in_err-tables.ensures.1
    (λ ne. inr (specification_of c.in_ok-specification.specification, c.in_ok-specification.ensures, inl (rw c.as_slice.ensures.value at (c.in_err-tables.ensures ne))))

pub returns : goal.returns
returns g c = (
  specification_of c.in_ok-specification.specification,
  c.in_ok-specification.ensures,
  (map (λ t. option_map table_term_of t) c.in_ok-tables.tables.items, (rw c.as_slice.ensures.value at c.in_ok-tables.ensures), refl),
)
