use Rattle.std.proofs.Common.{Err, inl, inr, ap, ◌∙◌}
use Rattle.erl_term.specs.Value.{value_of}
use Rattle.erl_term.specs.Within.{IsWithin}
use Rattle.rel_unpack.specs.Relup.{RelupIn, relup_found_of, unless_mismatch}
use Rattle.rel_unpack.proofs.Steps.{nothing_given, passed_on}
use Rattle.rel_unpack.proofs.relup.relup_in.Goals as goal

pub returns-in-Ok-clause-answer : goal.returns-in-Ok-clause-answer
returns-in-Ok-clause-answer g c =
    let found = relup_found_of c.in_ok-file.file in
    (found, c.in_ok-file.ensures.answer, ap (unless_mismatch c.args.path.now found) c.in-Ok.ensures)

pub returns-in-Err-clause-answer : goal.returns-in-Err-clause-answer
returns-in-Err-clause-answer g c = λ ne.
    let found = relup_found_of c.in_ok-file.file in
    inr (found, c.in_ok-file.ensures.answer, (ap Err (c.refusal_for_mismatch.ensures ne) ∙ ap (unless_mismatch c.args.path.now found) c.in-Err.ensures))

pub returns-in_err-file-clause-answer : goal.returns-in_err-file-clause-answer
returns-in_err-file-clause-answer g c =
    passed_on relup_found_of (RelupIn (g.F.Files.gives c.args.files.now) c.args.path.now c.args.vsn.now) c.in_err-file.field-0.0 c.from_residual.result
    c.from_residual.ensures.0 c.from_residual.ensures.1 (λ ne. inl (c.in_err-file.ensures.answer ne))

pub returns-in_err-file-clause-within : goal.returns-in_err-file-clause-within
returns-in_err-file-clause-within g c = nothing_given (λ file. IsWithin 65 (value_of file.term)) c.from_residual.result c.from_residual.ensures.0
