use Rattle.std.proofs.Common.{◌∙◌, rules, arith}
use Rattle.std.proofs.lemmas.Result.{IfOk-from_err}
use Rattle.std.specs.Prelude.{Option, string_bytes}
use Rattle.session_input.specs.Input.{lines_left, file_left}
use Rattle.session_input.specs.declared.line.Line.{Line}
use Rattle.session_input.specs.Commands.{most_file}
use Rattle.session_input.proofs.Causes.{cause_passes, cause_of_memory, next_without_memory, error_of_memory}
use Rattle.session_input.proofs.CommandLemmas.{no_lines, one_more_line, ends_file, ends_within, error_inside}
use Rattle.session_input.proofs.input.Input.file_at.Goals as goal

pub loop-file-init : goal.loop-file-init
loop-file-init g c = (λ most le. no_lines _ _ _ (search rules), omega arith, search rules, c.requires.end, omega arith)

pub loop-file-preserved : goal.loop-file-preserved
loop-file-preserved g c =
    let less = rw c.in-Some.is at c.in_ok-line.ensures.spends in
    let lower = c.loop-file.invariant.1 in
    let further = c.in_ok-line.ensures.further in
    let before = c.loop-file.invariant.4 in (
      λ most le. one_more_line _ _ _ c.in-Some.line c.is_end.result _ _ _ (c.loop-file.invariant.0 most (omega arith)) ((rw c.in-Some.is at c.in_ok-line.ensures.line) most le) c.is_end.ensures c.if-is_end.false c.in_ok-push_line.ensures.pushed,
      omega arith,
      search rules,
      c.in_ok-line.ensures.end,
      omega arith,
    )

-- a line could not be read
pub returns-in_err-line-clause-command : goal.returns-in_err-line-clause-command
returns-in_err-line-clause-command g c =
    error_inside _ _ most_file _ _ _ _ (file_left g.R.Read.remaining (string_bytes c.args.path) c.args.self.now) (lines_left g.R.Read.remaining c.loop-file.self) (lines_left g.R.Read.remaining c.next_line.new.self)
    c.from_residual.ensures.1 (c.loop-file.invariant.0 _ c.in_err-line.ensures.further) c.in_err-line.ensures.line

pub returns-in_err-line-clause-some : goal.returns-in_err-line-clause-some
returns-in_err-line-clause-some g c = IfOk-from_err c.from_residual.result _ c.from_residual.ensures.0

pub returns-in_err-line-clause-spends : goal.returns-in_err-line-clause-spends
returns-in_err-line-clause-spends g c = IfOk-from_err c.from_residual.result _ c.from_residual.ensures.0

pub returns-in_err-line-clause-cause : goal.returns-in_err-line-clause-cause
returns-in_err-line-clause-cause g c =
    cause_passes (Option Line) _ _ c.args.self.now c.loop-file.self c.next_line.new.self c.from_residual.ensures.1 c.loop-file.invariant.2 c.in_err-line.ensures.cause

-- memory was refused for it
pub returns-in_err-push_line-clause-command : goal.returns-in_err-push_line-clause-command
returns-in_err-push_line-clause-command g c =
    next_without_memory _ _ _ _ _ (error_of_memory _ _ c.from_residual-in_err-push_line.ensures.1 c.in_err-push_line.ensures.memory)

pub returns-in_err-push_line-clause-some : goal.returns-in_err-push_line-clause-some
returns-in_err-push_line-clause-some g c = IfOk-from_err c.from_residual-in_err-push_line.result _ c.from_residual-in_err-push_line.ensures.0

pub returns-in_err-push_line-clause-spends : goal.returns-in_err-push_line-clause-spends
returns-in_err-push_line-clause-spends g c = IfOk-from_err c.from_residual-in_err-push_line.result _ c.from_residual-in_err-push_line.ensures.0

pub returns-in_err-push_line-clause-cause : goal.returns-in_err-push_line-clause-cause
returns-in_err-push_line-clause-cause g c =
    cause_of_memory _ c.args.self.now c.next_line.new.self (error_of_memory _ _ c.from_residual-in_err-push_line.ensures.1 c.in_err-push_line.ensures.memory) (c.in_ok-line.ensures.cause ∙ c.loop-file.invariant.2)

pub returns-then-is_end-clause-command : goal.returns-then-is_end-clause-command
returns-then-is_end-clause-command g c = λ most le.
    let further = c.in_ok-line.ensures.further in
    ends_file _ _ c.in-Some.line c.is_end.result _ _ _ (c.loop-file.invariant.0 most (omega arith)) ((rw c.in-Some.is at c.in_ok-line.ensures.line) most le) c.is_end.ensures c.if-is_end.true

pub returns-then-is_end-clause-spends : goal.returns-then-is_end-clause-spends
returns-then-is_end-clause-spends g c =
    let less = rw c.in-Some.is at c.in_ok-line.ensures.spends in
    let lower = c.loop-file.invariant.1 in
    omega arith

pub returns-then-is_end-clause-cause : goal.returns-then-is_end-clause-cause
returns-then-is_end-clause-cause g c = c.in_ok-line.ensures.cause ∙ c.loop-file.invariant.2

pub returns-clause-command : goal.returns-clause-command
returns-clause-command g c = λ most le.
    let further = c.in_ok-line.ensures.further in
    ends_within _ _ _ _ _ (c.loop-file.invariant.0 most (omega arith)) ((rw c.in_default.is at c.in_ok-line.ensures.line) most le)

pub returns-clause-cause : goal.returns-clause-cause
returns-clause-cause g c = c.in_ok-line.ensures.cause ∙ c.loop-file.invariant.2
