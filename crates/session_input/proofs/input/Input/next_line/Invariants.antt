use Rattle.std.proofs.Common.{◌≡◌, ℕ, ◌<◌, ◌≤◌, true}
use Rattle.session_input.specs.Input.{left, lines_left, reached, KnowsEnd}
use Rattle.session_input.proofs.LineLemmas.{IsSoFar}
use Rattle.session_input.proofs.input.Input.next_line.Given as goal

abbrev pub invariant-loop-line : goal.invariant-loop-line
invariant-loop-line g l =
    ((most : ℕ) → reached l.self ≤ most → IsSoFar l.most l.is_begun l.line (lines_left g.R.Read.remaining l.initial.self most) (lines_left g.R.Read.remaining l.self most))
    × (left l.self ≤ left l.initial.self)
    × (l.is_begun ≡ true → left l.self < left l.initial.self)
    × (l.self.reader.failures ≡ l.initial.self.reader.failures)
    × KnowsEnd g.R.Read.remaining l.self
    × (reached l.initial.self ≤ reached l.self)

abbrev pub decreases-loop-line : goal.decreases-loop-line
decreases-loop-line g l = left l.self
