use Rattle.erl_term.specs.Within.{IsWithin}
use Rattle.erl_term.specs.Value.{value_of}
use Rattle.std.proofs.Common.{sym, ◌∙◌, inl}
use Rattle.rel_unpack.specs.Refusal.Refusal.{too_many}
use Rattle.rel_unpack.specs.Source.{FileSays}
use Rattle.rel_unpack.specs.Release.{Found, found_of, rel_form, ReleaseAt}
use Rattle.rel_check.specs.Limits.{is_small}
use Rattle.rel_unpack.proofs.Steps.{passes, fails_test, passed_on, nothing_given}
use Rattle.rel_unpack.proofs.release.read_release.Goals as goal

pub returns-then-is_small-clause-answer : goal.returns-then-is_small-clause-answer
returns-then-is_small-clause-answer g c =
    passes (FileSays rel_form (g.F.Files.gives c.args.files.now) c.args.path.now) (λ (f : Found). is_small f.release) too_many (found_of c.in_ok-file.file)
    c.in_ok-file.ensures.answer (sym c.is_small.ensures ∙ c.if-is_small.true)

pub returns-else-is_small-clause-answer : goal.returns-else-is_small-clause-answer
returns-else-is_small-clause-answer g c = λ ne.
    fails_test (FileSays rel_form (g.F.Files.gives c.args.files.now) c.args.path.now) (λ (f : Found). is_small f.release) too_many too_many (found_of c.in_ok-file.file)
    c.in_ok-file.ensures.answer (sym c.is_small.ensures ∙ c.if-is_small.false) (λ j. too_many)

pub returns-in_err-file-clause-answer : goal.returns-in_err-file-clause-answer
returns-in_err-file-clause-answer g c =
    passed_on found_of (ReleaseAt (g.F.Files.gives c.args.files.now) c.args.path.now) c.in_err-file.field-0.0 c.from_residual.result
    c.from_residual.ensures.0 c.from_residual.ensures.1 (λ ne. inl (c.in_err-file.ensures.answer ne))

pub returns-in_err-file-clause-within : goal.returns-in_err-file-clause-within
returns-in_err-file-clause-within g c = nothing_given (λ file. IsWithin 65 (value_of file.term)) c.from_residual.result c.from_residual.ensures.0
