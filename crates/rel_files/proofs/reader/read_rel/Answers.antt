use Rattle.std.proofs.Common.{◌≡◌, ◌∙◌, Result, Ok, Err, MatchResult, IsErr, IsErrAnd}
use Rattle.rel_files.specs.declared.fault.FileFault.{FileFault}
use Rattle.rel_files.specs.declared.fault.FileFault.TheVariants.{NoMemory}
use Rattle.rel_files.specs.declared.release.Rel.{Rel}
use Rattle.rel_files.specs.Release.{Release, release_of}
use Rattle.rel_files.proofs.reader.read_rel.Goals as goal

-- an error that is passed on
only_memory : (result : Result Rel FileFault) (f : FileFault) (r : Release) → IsErr result × IsErrAnd result (λ g. g ≡ f) → f ≡ NoMemory
    → MatchResult result (λ rel. release_of rel ≡ r) (λ g. g ≡ NoMemory)
only_memory (Ok x) f r is e = absurd is.1
only_memory (Err g) f r is e = is.1 ∙ e

pub returns-in_err-file-clause-only : goal.returns-in_err-file-clause-only
returns-in_err-file-clause-only c = λ r says.
    only_memory c.from_residual.result c.in_err-file.field-0.0 r c.from_residual.ensures (c.in_err-file.ensures.only r says)
