use Rattle.std.proofs.Common.{inl}
use Rattle.erl_term.specs.Value.{value_of}
use Rattle.erl_term.specs.Within.{IsWithin}
use Rattle.rel_unpack.specs.Refusal.Trouble.{faulty_relup}
use Rattle.rel_unpack.specs.Relup.{relup_form, relup_found_of}
use Rattle.rel_unpack.specs.Source.{FileSays}
use Rattle.rel_unpack.proofs.Steps.{fails_at, nothing_given, passed_on}
use Rattle.rel_unpack.proofs.relup.relup_of_file.Goals as goal

pub returns-in_err-bytes-clause-answer : goal.returns-in_err-bytes-clause-answer
returns-in_err-bytes-clause-answer g c =
    passed_on relup_found_of (FileSays relup_form (g.F.Files.gives c.args.files.now) c.args.path.now) c.in_err-bytes.field-0.0 c.from_residual.result
    c.from_residual.ensures.0 c.from_residual.ensures.1 (λ ne. inl (c.in_err-bytes.ensures ne))

pub returns-in_err-bytes-clause-within : goal.returns-in_err-bytes-clause-within
returns-in_err-bytes-clause-within g c = nothing_given (λ file. IsWithin 65 (value_of file.term)) c.from_residual.result c.from_residual.ensures.0

pub returns-in-Ok-clause-answer : goal.returns-in-Ok-clause-answer
returns-in-Ok-clause-answer g c = (c.in_ok-bytes.bytes.items, c.in_ok-bytes.ensures, (rw c.as_slice.ensures.value at c.in-Ok.ensures.says))

pub returns-in-Ok-clause-within : goal.returns-in-Ok-clause-within
returns-in-Ok-clause-within g c = c.in-Ok.ensures.within

pub returns-clause-answer : goal.returns-clause-answer
returns-clause-answer g c = λ ne.
    let reported = c.refusal_for_fault.ensures ne in
    fails_at relup_form (g.F.Files.gives c.args.files.now) c.args.path.now c.in_ok-bytes.bytes.items c.refusal_for_fault.result (faulty_relup c.in-Err.fault)
    c.in_ok-bytes.ensures (rw c.as_slice.ensures.value at (c.in-Err.ensures.fault reported.0)) reported.1
