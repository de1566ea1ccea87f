use Rattle.std.proofs.Common.{◌≡◌, ◌≢◌, ◌∙◌, ℕ, Some, Result, Ok, Err, MatchResult, IfErr, IsErr, IsErrAnd, subst, sym}
use Rattle.erl_term.specs.Value.{Value, value_of}
use Rattle.rel_files.specs.declared.fault.FileFault.{FileFault}
use Rattle.rel_files.specs.declared.fault.FileFault.TheVariants.{NoMemory}
use Rattle.rel_files.specs.declared.app_contents.Contents.{Contents}
use Rattle.rel_files.specs.AppParts.{contents_in}
use Rattle.rel_files.specs.AppFile.{Specification, with_term, IsTermFault}
use Rattle.rel_files.specs.AppInMemory.{contents_of}
use Rattle.rel_files.proofs.AppReadings.{only_memory}
use Rattle.rel_files.proofs.app_reader.contents_of_term.Goals as goal

-- an error that is passed on
passed : (v : Value) (result : Result Contents FileFault) (f : FileFault) (a : Specification) → IsErr result × IsErrAnd result (λ g. g ≡ f) → f ≡ NoMemory
    → MatchResult result (λ c. with_term v (contents_of c) ≡ a) (λ g. g ≡ NoMemory)
passed v (Ok x) f a is e = absurd is.1
passed v (Err g) f a is e = is.1 ∙ e

reports : (result : Result Contents FileFault) (f : FileFault) (v : Value) (at : ℕ) → IsErr result × IsErrAnd result (λ g. g ≡ f) → (f ≢ NoMemory → IsTermFault v at f)
    → IfErr result (λ g. g ≢ NoMemory → IsTermFault v at g)
reports (Ok x) f v at is fault = tt
reports (Err g) f v at is fault = let P : FileFault → Type 0 = λ h. h ≢ NoMemory → IsTermFault v at h in subst P (sym is.1) fault

pub returns-in_err-check_contents-clause-only : goal.returns-in_err-check_contents-clause-only
returns-in_err-check_contents-clause-only c = λ a is.
    let v = value_of c.args.term.now in
    let f = c.in_err-check_contents.field-0.0 in
    let some : Some (contents_of c.in-Some.contents) ≡ contents_in v = rw c.in-Some.is at c.in_ok-contents.ensures in
    passed v c.from_residual-in_err-check_contents.result f a c.from_residual-in_err-check_contents.ensures
    (only_memory v c.args.at a f is (c.in_err-check_contents.ensures.fault v c.args.at some))

pub returns-in_err-check_contents-clause-fault : goal.returns-in_err-check_contents-clause-fault
returns-in_err-check_contents-clause-fault c =
    let v = value_of c.args.term.now in
    let f = c.in_err-check_contents.field-0.0 in
    let some : Some (contents_of c.in-Some.contents) ≡ contents_in v = rw c.in-Some.is at c.in_ok-contents.ensures in
    reports c.from_residual-in_err-check_contents.result f v c.args.at c.from_residual-in_err-check_contents.ensures
    (c.in_err-check_contents.ensures.fault v c.args.at some)
