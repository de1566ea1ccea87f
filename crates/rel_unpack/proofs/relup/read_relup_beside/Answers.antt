use Rattle.std.proofs.Common.{IfSome}
use Rattle.std.specs.Option.{option_map}
use Rattle.erl_term.specs.Value.{value_of}
use Rattle.erl_term.specs.Within.{IsWithin}
use Rattle.relup_file.specs.declared.reader.RelupFile.{RelupFile}
use Rattle.rel_unpack.specs.Relup.{RelupAt, RelupIn, relup_found_of, relup_path}
use Rattle.rel_unpack.proofs.RelupSteps.{no_relup}
use Rattle.rel_unpack.proofs.Steps.{no_memory_left, nothing_given, unless_there}
use Rattle.rel_unpack.proofs.relup.read_relup_beside.Goals as goal

pub returns-clause-answer : goal.returns-clause-answer
returns-clause-answer g c =
    let source = g.F.Files.gives c.args.files.now in
    let place = relup_path c.args.path.now in
    let vsn = c.args.vsn.now in
    unless_there relup_found_of source place (RelupIn source place vsn) c.in-Err.error c.unless_missing.result (no_relup source place vsn)
    (rw (c.as_str.ensures.value, c.in_ok-beside.ensures) at c.in-Err.ensures.answer) c.unless_missing.ensures

pub returns-in-Ok-clause-answer : goal.returns-in-Ok-clause-answer
returns-in-Ok-clause-answer g c = (rw (c.as_str.ensures.value, c.in_ok-beside.ensures) at c.in-Ok.ensures.answer)

pub returns-in_err-beside-clause-answer : goal.returns-in_err-beside-clause-answer
returns-in_err-beside-clause-answer g c =
    no_memory_left (λ relup. option_map relup_found_of relup) (RelupAt (g.F.Files.gives c.args.files.now) c.args.path.now c.args.vsn.now) c.from_residual.result
    c.from_residual.ensures.0 c.from_residual.ensures.1

pub returns-in_err-beside-clause-within : goal.returns-in_err-beside-clause-within
returns-in_err-beside-clause-within g c = nothing_given (λ relup. IfSome relup (λ (file : RelupFile). IsWithin 65 (value_of file.term))) c.from_residual.result c.from_residual.ensures.0
