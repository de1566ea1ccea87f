use Rattle.std.proofs.Common.{◌≢◌, ℕ, arith, refl, ◌∙◌}
use Rattle.std.proofs.lemmas.Grind.{common_steps}
use Rattle.erl_consult.specs.Listing.{IsReported}
use Rattle.erl_consult.specs.declared.error.ConsultError.TheVariants.{Read, Write}
use Rattle.erl_consult.proofs.ReadLemmas.{nothing_yet, piece_read, all_read, too_much_read, passes_on, read_reported, no_write, reports_on, reports_done, reports_since, takes_more, takes_so_far}
use Rattle.erl_consult.proofs.streams.read_text.Goals as goal

pub loop-room-init : goal.loop-room-init
loop-room-init g c = (nothing_yet _ _ c.new-bytes.ensures.items, grind (arith, common_steps), refl)

-- a read is refused
pub returns-in_err-read_some-clause-refused : goal.returns-in_err-read_some-clause-refused
returns-in_err-read_some-clause-refused g c = passes_on (IsReported _) _ _ c.from_residual-in_err-read_some.ensures.1 (read_reported _ _ c.in_err-read_some.ensures.error)

pub returns-in_err-read_some-clause-unwritten : goal.returns-in_err-read_some-clause-unwritten
returns-in_err-read_some-clause-unwritten g c = passes_on (λ e. e ≢ Write) _ _ c.from_residual-in_err-read_some.ensures.1 (no_write _ c.in_err-read_some.ensures.error)

pub returns-in_err-read_some-clause-cause : goal.returns-in_err-read_some-clause-cause
returns-in_err-read_some-clause-cause g c = reports_since Read _ _ _ _ c.loop-room.invariant.2 (reports_on {V = ℕ} Read _ _ _ _ c.from_residual-in_err-read_some.ensures.1 c.in_err-read_some.ensures.cause)

pub returns-in_err-read_some-clause-bounded : goal.returns-in_err-read_some-clause-bounded
returns-in_err-read_some-clause-bounded g c =
    takes_more _ _ _ _ _ c.loop-room.invariant.0 (omega (arith, c.loop-room-test.true, c.min-most.ensures, c.len-in-loop-room-2.ensures, c.len.ensures)) c.in_err-read_some.ensures.bounded

-- the end was read
pub returns-then-branch-eq0-clause-read : goal.returns-then-branch-eq0-clause-read
returns-then-branch-eq0-clause-read g c =
    all_read _ _ _ _ _ _ c.loop-room.invariant.0 c.in_ok-read_some.ensures.read c.if-branch-eq0.true (c.in_ok-read_some.ensures.end c.if-branch-eq0.true)
    (omega (arith, c.len.ensures, c.loop-room-test.true))

pub returns-then-branch-eq0-clause-cause : goal.returns-then-branch-eq0-clause-cause
returns-then-branch-eq0-clause-cause g c = reports_done {V = ℕ} Read _ _ _ _ _ c.loop-room.invariant.2 c.in_ok-read_some.ensures.cause

pub returns-then-branch-eq0-clause-bounded : goal.returns-then-branch-eq0-clause-bounded
returns-then-branch-eq0-clause-bounded g c =
    takes_more _ _ _ _ _ c.loop-room.invariant.0 (omega (arith, c.loop-room-test.true, c.min-most.ensures, c.len-in-loop-room-2.ensures, c.len.ensures)) c.in_ok-read_some.ensures.bounded

-- more is to be read
pub loop-room-preserved : goal.loop-room-preserved
loop-room-preserved g c = (
  piece_read _ _ _ _ _ _ c.loop-room.invariant.0 c.in_ok-read_some.ensures.read (omega (arith, c.loop-room-test.true, c.in_ok-read_some.ensures.bound, c.min-most.ensures, c.len-in-loop-room-2.ensures, c.len.ensures)),
  grind (arith, common_steps),
  c.in_ok-read_some.ensures.cause.1 (λ reported. cc reported) ∙ c.loop-room.invariant.2,
)

-- too much was read
pub returns-clause-refused : goal.returns-clause-refused
returns-clause-refused g c = too_much_read _ _ _ c.loop-room.invariant.0 (omega (arith, c.len.ensures, c.loop-room-test.false))

pub returns-clause-bounded : goal.returns-clause-bounded
returns-clause-bounded g c = takes_so_far _ _ _ c.loop-room.invariant.0
