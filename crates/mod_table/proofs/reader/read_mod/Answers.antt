use Rattle.std.proofs.Common.{◌≡◌, ◌∙◌, Result, Ok, Err, MatchResult, IsErr, IsErrAnd}
use Rattle.rel_files.specs.declared.fault.FileFault.{FileFault}
use Rattle.rel_files.specs.declared.fault.FileFault.TheVariants.{NoMemory}
use Rattle.mod_table.specs.declared.table.Table.{Table}
use Rattle.mod_table.proofs.reader.read_mod.Goals as goal

-- an error that is passed on
only_memory : (result : Result Table FileFault) (f : FileFault) (t : Table) → IsErr result × IsErrAnd result (λ g. g ≡ f) → f ≡ NoMemory
    → MatchResult result (λ table. table ≡ t) (λ g. g ≡ NoMemory)
only_memory (Ok x) f t is e = absurd is.1
only_memory (Err g) f t is e = is.1 ∙ e

pub returns-in_err-file-clause-only : goal.returns-in_err-file-clause-only
returns-in_err-file-clause-only c = λ t says.
    only_memory c.from_residual.result c.in_err-file.field-0.0 t c.from_residual.ensures (c.in_err-file.ensures.only t says)
