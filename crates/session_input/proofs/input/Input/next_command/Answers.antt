use Rattle.std.proofs.Common.{◌∙◌, rules, arith, refl}
use Rattle.std.proofs.lemmas.Result.{IfOk-from_err}
use Rattle.session_input.specs.Input.{left, lines_left, commands_left, file_left}
use Rattle.std.specs.Prelude.{Option, string_bytes}
use Rattle.session_input.specs.declared.line.Line.{Line}
use Rattle.session_input.specs.Commands.{most_line}
use Rattle.session_input.proofs.Causes.{cause_behind, cause_passes, cause_of_memory, next_without_memory, file_spends}
use Rattle.session_input.proofs.FeedLemmas.{stays_itself, next_before}
use Rattle.session_input.proofs.CommandLemmas.{passes_blank, says_command, opens_file, no_command, error_before}
use Rattle.session_input.proofs.input.Input.next_command.Goals as goal

pub loop-line-init : goal.loop-line-init
loop-line-init g c = (λ most le. stays_itself _, omega arith, search rules, c.requires.end, omega arith)

-- a line could not be read
pub returns-in_err-line-clause-command : goal.returns-in_err-line-clause-command
returns-in_err-line-clause-command g c =
    error_before _ _ most_line _ _ (commands_left g.R.Read.remaining c.args.self.now) (lines_left g.R.Read.remaining c.loop-line.self) (lines_left g.R.Read.remaining c.next_line.new.self)
    c.from_residual.ensures.1 (c.loop-line.invariant.0 _ c.in_err-line.ensures.further) c.in_err-line.ensures.line

pub returns-in_err-line-clause-spends : goal.returns-in_err-line-clause-spends
returns-in_err-line-clause-spends g c = IfOk-from_err c.from_residual.result _ c.from_residual.ensures.0

pub returns-in_err-line-clause-cause : goal.returns-in_err-line-clause-cause
returns-in_err-line-clause-cause g c =
    cause_passes (Option Line) _ _ c.args.self.now c.loop-line.self c.next_line.new.self c.from_residual.ensures.1 c.loop-line.invariant.2 c.in_err-line.ensures.cause

-- there is none
pub returns-clause-command : goal.returns-clause-command
returns-clause-command g c = λ most le.
    let further = c.in_ok-line.ensures.further in
    no_command _ _ _ (c.loop-line.invariant.0 most (omega arith)) ((rw c.in_default.is at c.in_ok-line.ensures.line) most le)

pub returns-clause-cause : goal.returns-clause-cause
returns-clause-cause g c = c.in_ok-line.ensures.cause ∙ c.loop-line.invariant.2

-- memory was refused for what it says
pub returns-in_err-of-clause-command : goal.returns-in_err-of-clause-command
returns-in_err-of-clause-command g c = next_without_memory _ _ _ _ _ c.from_residual-in_err-of.ensures.1

pub returns-in_err-of-clause-spends : goal.returns-in_err-of-clause-spends
returns-in_err-of-clause-spends g c = IfOk-from_err c.from_residual-in_err-of.result _ c.from_residual-in_err-of.ensures.0

pub returns-in_err-of-clause-cause : goal.returns-in_err-of-clause-cause
returns-in_err-of-clause-cause g c = cause_of_memory _ c.args.self.now c.next_line.new.self c.from_residual-in_err-of.ensures.1 (c.in_ok-line.ensures.cause ∙ c.loop-line.invariant.2)

-- a file begins
pub returns-in-FileBegins-clause-command : goal.returns-in-FileBegins-clause-command
returns-in-FileBegins-clause-command g c =
    let further = c.in_ok-line.ensures.further in
    let beyond = c.file_at.ensures.further in
    next_before _ _ _ (commands_left g.R.Read.remaining c.args.self.now) (file_left g.R.Read.remaining (string_bytes c.in-FileBegins.path) c.next_line.new.self) (commands_left g.R.Read.remaining c.file_at.new.self)
    (λ most le. opens_file c.in-Some.line _ _ _ _ _ (c.loop-line.invariant.0 most (omega arith)) ((rw c.in-Some.is at c.in_ok-line.ensures.line) most (omega arith)) (rw c.in-FileBegins.is at c.in_ok-of.ensures) refl)
    c.file_at.ensures.command

pub returns-in-FileBegins-clause-spends : goal.returns-in-FileBegins-clause-spends
returns-in-FileBegins-clause-spends g c =
    file_spends c.file_at.result (left c.args.self.now) (left c.loop-line.self) (left c.next_line.new.self) (left c.file_at.new.self)
    (rw c.in-Some.is at c.in_ok-line.ensures.spends) c.loop-line.invariant.1 c.file_at.ensures.spends

pub returns-in-FileBegins-clause-cause : goal.returns-in-FileBegins-clause-cause
returns-in-FileBegins-clause-cause g c =
    cause_behind _ c.args.self.now c.next_line.new.self c.file_at.new.self (c.in_ok-line.ensures.cause ∙ c.loop-line.invariant.2) c.file_at.ensures.cause

-- a command
pub returns-in-Command-clause-command : goal.returns-in-Command-clause-command
returns-in-Command-clause-command g c = λ most le.
    let further = c.in_ok-line.ensures.further in
    says_command c.in-Some.line _ c.in-Command.command _ _ _ (c.loop-line.invariant.0 most (omega arith)) ((rw c.in-Some.is at c.in_ok-line.ensures.line) most le) (rw c.in-Command.is at c.in_ok-of.ensures) refl

pub returns-in-Command-clause-spends : goal.returns-in-Command-clause-spends
returns-in-Command-clause-spends g c =
    let less = rw c.in-Some.is at c.in_ok-line.ensures.spends in
    let lower = c.loop-line.invariant.1 in
    omega arith

pub returns-in-Command-clause-cause : goal.returns-in-Command-clause-cause
returns-in-Command-clause-cause g c = c.in_ok-line.ensures.cause ∙ c.loop-line.invariant.2

pub loop-line-preserved : goal.loop-line-preserved
loop-line-preserved g c =
    let less = rw c.in-Some.is at c.in_ok-line.ensures.spends in
    let lower = c.loop-line.invariant.1 in
    let further = c.in_ok-line.ensures.further in
    let before = c.loop-line.invariant.4 in (
      λ most le. passes_blank c.in-Some.line _ _ _ _ (c.loop-line.invariant.0 most (omega arith)) ((rw c.in-Some.is at c.in_ok-line.ensures.line) most le) (rw c.in-Blank.is at c.in_ok-of.ensures) refl,
      omega arith,
      search rules,
      c.in_ok-line.ensures.end,
      omega arith,
    )
