use Rattle.std.proofs.Common.{◌≡◌, ◌≢◌, ◌∙◌, ℕ, List, Result, Ok, Err, MatchResult, IfErr, IsErr, IsErrAnd, inl, inr, subst, sym}
use Rattle.erl_term.specs.Value.{value_of}
use Rattle.rel_files.specs.declared.fault.FileFault.{FileFault}
use Rattle.rel_files.specs.declared.fault.FileFault.TheVariants.{NoMemory}
use Rattle.rel_files.specs.declared.reader.RelFile.{RelFile}
use Rattle.rel_files.specs.Release.{Release, release_of}
use Rattle.rel_files.specs.File.{IsReleaseTerm, IsRelFault}
use Rattle.rel_files.proofs.OneTermFile.{has_term, of_its_term}
use Rattle.rel_files.proofs.reader.read_rel_file.Goals as goal

-- an error that is passed on
only_memory : (result : Result RelFile FileFault) (f : FileFault) (r : Release) → IsErr result × IsErrAnd result (λ g. g ≡ f) → f ≡ NoMemory
    → MatchResult result (λ file. release_of file.release ≡ r) (λ g. g ≡ NoMemory)
only_memory (Ok x) f r is e = absurd is.1
only_memory (Err g) f r is e = is.1 ∙ e

reports : (result : Result RelFile FileFault) (f : FileFault) (bytes : List ℕ) → IsErr result × IsErrAnd result (λ g. g ≡ f) → (f ≢ NoMemory → IsRelFault bytes f)
    → IfErr result (λ g. g ≢ NoMemory → IsRelFault bytes g)
reports (Ok x) f bytes is fault = tt
reports (Err g) f bytes is fault = let P : FileFault → Type 0 = λ h. h ≢ NoMemory → IsRelFault bytes h in subst P (sym is.1) fault

pub returns-in_err-file-clause-only : goal.returns-in_err-file-clause-only
returns-in_err-file-clause-only c = λ r says.
    only_memory c.from_residual.result c.in_err-file.field-0.0 r c.from_residual.ensures (c.in_err-file.ensures.only says.1.0 says.1.1)

pub returns-in_err-file-clause-fault : goal.returns-in_err-file-clause-fault
returns-in_err-file-clause-fault c =
    let f = c.in_err-file.field-0.0 in
    reports c.from_residual.result f c.args.bytes.now c.from_residual.ensures (λ other. inl (c.in_err-file.ensures.fault other))

pub returns-in_err-release-clause-only : goal.returns-in_err-release-clause-only
returns-in_err-release-clause-only c = λ r says.
    let read = c.in_ok-file.ensures.only says.1.0 says.1.1 in
    let is = of_its_term IsReleaseTerm c.args.bytes.now r (value_of c.in_ok-file.file.term) says read.1 in
    only_memory c.from_residual-in_err-release.result c.in_err-release.field-0.0 r c.from_residual-in_err-release.ensures (c.in_err-release.ensures.only r is)

pub returns-in_err-release-clause-fault : goal.returns-in_err-release-clause-fault
returns-in_err-release-clause-fault c =
    let f = c.in_err-release.field-0.0 in
    reports c.from_residual-in_err-release.result f c.args.bytes.now c.from_residual-in_err-release.ensures
    (λ other. inr (c.in_ok-file.file.at, value_of c.in_ok-file.file.term, c.in_ok-file.ensures.says, c.in_err-release.ensures.fault other))

pub returns-clause-says : goal.returns-clause-says
returns-clause-says c =
    (has_term c.args.bytes.now c.in_ok-file.file.at (value_of c.in_ok-file.file.term) c.in_ok-file.ensures.says, c.in_ok-release.ensures.says)

pub returns-clause-only : goal.returns-clause-only
returns-clause-only c = λ r says.
    let read = c.in_ok-file.ensures.only says.1.0 says.1.1 in
    c.in_ok-release.ensures.only r (of_its_term IsReleaseTerm c.args.bytes.now r (value_of c.in_ok-file.file.term) says read.1)
