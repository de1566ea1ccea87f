use Rattle.std.proofs.Common.{◌∙◌, ℕ, rules, arith}
use Rattle.std.specs.Prelude.{Option}
use Rattle.std.proofs.lemmas.Result.{IfOk-from_err}
use Rattle.session_input.proofs.Causes.{cause_passes, cause_of_memory, next_without_memory, error_of_memory}
use Rattle.session_input.specs.Input.{bytes_left, lines_left}
use Rattle.session_input.proofs.LineLemmas.{no_bytes, one_more, ends_at_newline, ends_at_end, error_passes}
use Rattle.session_input.proofs.input.Input.next_line.Goals as goal

pub returns-in_err-byte-clause-line : goal.returns-in_err-byte-clause-line
returns-in_err-byte-clause-line g c =
    error_passes _ _ _ _ _ _ (lines_left g.R.Read.remaining c.args.self.now) (bytes_left g.R.Read.remaining c.loop-line.self) (bytes_left g.R.Read.remaining c.next.new.self)
    c.from_residual.ensures.1 (c.loop-line.invariant.0 _ c.in_err-byte.ensures.further) c.in_err-byte.ensures.byte

pub returns-then-byte-eq10-clause-line : goal.returns-then-byte-eq10-clause-line
returns-then-byte-eq10-clause-line g c = λ most le.
    let further = c.in_ok-byte.ensures.further in
    ends_at_newline _ _ _ _ _ _ _ (c.loop-line.invariant.0 most (omega arith)) ((rw c.in-Some.is at c.in_ok-byte.ensures.byte) most le) c.if-byte-eq10.true

pub loop-line-init : goal.loop-line-init
loop-line-init g c = (λ most le. no_bytes _ _ _ (search rules), omega arith, λ begun. absurd cc, search rules, c.requires.end, omega arith)

pub loop-line-preserved : goal.loop-line-preserved
loop-line-preserved g c =
    let less = rw c.in-Some.is at c.in_ok-byte.ensures.spends in
    let lower = c.loop-line.invariant.1 in
    let further = c.in_ok-byte.ensures.further in
    let before = c.loop-line.invariant.5 in (
      λ most le. one_more _ _ _ _ _ _ _ _ (c.loop-line.invariant.0 most (omega arith)) ((rw c.in-Some.is at c.in_ok-byte.ensures.byte) most le) c.if-byte-eq10.false c.in_ok-push.ensures.pushed,
      omega arith,
      λ _. omega arith,
      search rules,
      c.in_ok-byte.ensures.end,
      omega arith,
    )

pub returns-then-is_begun-clause-line : goal.returns-then-is_begun-clause-line
returns-then-is_begun-clause-line g c = λ most le.
    let further = c.in_ok-byte.ensures.further in
    ends_at_end _ _ _ _ _ _ c.if-is_begun.true (c.loop-line.invariant.0 most (omega arith)) ((rw c.in_default.is at c.in_ok-byte.ensures.byte) most le)

pub returns-then-is_begun-clause-spends : goal.returns-then-is_begun-clause-spends
returns-then-is_begun-clause-spends g c =
    let same = rw c.in_default.is at c.in_ok-byte.ensures.spends in
    let less = c.loop-line.invariant.2 c.if-is_begun.true in
    omega arith

pub returns-in_err-byte-clause-spends : goal.returns-in_err-byte-clause-spends
returns-in_err-byte-clause-spends g c = IfOk-from_err c.from_residual.result _ c.from_residual.ensures.0

pub returns-in_err-byte-clause-cause : goal.returns-in_err-byte-clause-cause
returns-in_err-byte-clause-cause g c =
    cause_passes (Option ℕ) _ _ c.args.self.now c.loop-line.self c.next.new.self c.from_residual.ensures.1 c.loop-line.invariant.3 c.in_err-byte.ensures.cause

pub returns-in_err-push-clause-line : goal.returns-in_err-push-clause-line
returns-in_err-push-clause-line g c =
    next_without_memory _ _ _ _ _ (error_of_memory _ _ c.from_residual-in_err-push.ensures.1 c.in_err-push.ensures.memory)

pub returns-in_err-push-clause-spends : goal.returns-in_err-push-clause-spends
returns-in_err-push-clause-spends g c = IfOk-from_err c.from_residual-in_err-push.result _ c.from_residual-in_err-push.ensures.0

pub returns-in_err-push-clause-cause : goal.returns-in_err-push-clause-cause
returns-in_err-push-clause-cause g c =
    cause_of_memory _ c.args.self.now c.next.new.self (error_of_memory _ _ c.from_residual-in_err-push.ensures.1 c.in_err-push.ensures.memory) (c.in_ok-byte.ensures.cause ∙ c.loop-line.invariant.3)
