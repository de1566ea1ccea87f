use Rattle.erl_term.specs.Within.{IsWithin}
use Rattle.erl_term.specs.Value.{value_of}
use Rattle.std.proofs.Common.{IfSome, inl, refl}
use Rattle.rel_unpack.specs.Release.{found_of}
use Rattle.rel_unpack.specs.Relup.{RelupFound}
use Rattle.rel_unpack.specs.Unpacking.{BroughtAt, brought_of, libraries_of, refusal_in, relup_read_of}
use Rattle.rel_unpack.proofs.BroughtRelup.{read_within}
use Rattle.rel_unpack.proofs.Steps.{passed_on, no_memory_left, nothing_given}
use Rattle.rel_unpack.proofs.unpacking.unpack_release.Goals as goal

pub returns-in_err-file-clause-answer : goal.returns-in_err-file-clause-answer
returns-in_err-file-clause-answer g c =
    passed_on brought_of (BroughtAt (g.F.Files.gives c.args.files.now) c.args.path.now) c.in_err-file.field-0.0 c.from_residual.result
    c.from_residual.ensures.0 c.from_residual.ensures.1 (λ ne. inl (c.in_err-file.ensures.answer ne))

pub returns-clause-answer : goal.returns-clause-answer
returns-clause-answer g c =
    let read = c.in_ok-applications.applications in (
      found_of c.in_ok-file.file,
      c.in_ok-file.ensures.answer,
      (
        libraries_of read,
        refusal_in read,
        (rw c.as_slice.ensures.value at c.in_ok-applications.ensures),
        (relup_read_of c.in_ok-relup.relup, (rw c.as_str.ensures.value at c.in_ok-relup.ensures), refl),
      ),
    )

pub returns-in_err-file-clause-within : goal.returns-in_err-file-clause-within
returns-in_err-file-clause-within g c = nothing_given (λ r. IsWithin 65 (value_of r.file.term)) c.from_residual.result c.from_residual.ensures.0

pub returns-in_err-applications-clause-answer : goal.returns-in_err-applications-clause-answer
returns-in_err-applications-clause-answer g c =
    no_memory_left brought_of (BroughtAt (g.F.Files.gives c.args.files.now) c.args.path.now) c.from_residual-in_err-applications.result
    c.from_residual-in_err-applications.ensures.0 c.from_residual-in_err-applications.ensures.1

pub returns-in_err-applications-clause-within : goal.returns-in_err-applications-clause-within
returns-in_err-applications-clause-within g c =
    nothing_given (λ r. IsWithin 65 (value_of r.file.term)) c.from_residual-in_err-applications.result c.from_residual-in_err-applications.ensures.0

pub returns-clause-within : goal.returns-clause-within
returns-clause-within g c = c.in_ok-file.ensures.within

pub returns-clause-relup_within : goal.returns-clause-relup_within
returns-clause-relup_within g c =
    read_within (g.F.Files.gives c.args.files.now) c.args.path.now c.as_str.result.now (refusal_in c.in_ok-applications.applications) (relup_read_of c.in_ok-relup.relup) c.in_ok-relup.ensures

pub returns-in_err-file-clause-relup_within : goal.returns-in_err-file-clause-relup_within
returns-in_err-file-clause-relup_within g c = nothing_given (λ r. IfSome (brought_of r).relup (λ (f : RelupFound). IsWithin 65 f.term)) c.from_residual.result c.from_residual.ensures.0

pub returns-in_err-applications-clause-relup_within : goal.returns-in_err-applications-clause-relup_within
returns-in_err-applications-clause-relup_within g c =
    nothing_given (λ r. IfSome (brought_of r).relup (λ (f : RelupFound). IsWithin 65 f.term)) c.from_residual-in_err-applications.result c.from_residual-in_err-applications.ensures.0

pub returns-in_err-relup-clause-answer : goal.returns-in_err-relup-clause-answer
returns-in_err-relup-clause-answer g c =
    no_memory_left brought_of (BroughtAt (g.F.Files.gives c.args.files.now) c.args.path.now) c.from_residual-in_err-relup.result
    c.from_residual-in_err-relup.ensures.0 c.from_residual-in_err-relup.ensures.1

pub returns-in_err-relup-clause-within : goal.returns-in_err-relup-clause-within
returns-in_err-relup-clause-within g c = nothing_given (λ r. IsWithin 65 (value_of r.file.term)) c.from_residual-in_err-relup.result c.from_residual-in_err-relup.ensures.0

pub returns-in_err-relup-clause-relup_within : goal.returns-in_err-relup-clause-relup_within
returns-in_err-relup-clause-relup_within g c =
    nothing_given (λ r. IfSome (brought_of r).relup (λ (f : RelupFound). IsWithin 65 f.term)) c.from_residual-in_err-relup.result c.from_residual-in_err-relup.ensures.0
