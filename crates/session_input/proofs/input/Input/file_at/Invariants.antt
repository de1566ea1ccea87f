use Rattle.std.proofs.Common.{◌≡◌, ℕ, ◌≤◌, string_bytes}
use Rattle.session_input.specs.Input.{left, lines_left, file_left, reached, KnowsEnd}
use Rattle.session_input.proofs.CommandLemmas.{IsWithin}
use Rattle.session_input.proofs.input.Input.file_at.Given as goal

abbrev pub invariant-loop-file : goal.invariant-loop-file
invariant-loop-file g l =
    ((most : ℕ) → reached l.self ≤ most
    → IsWithin (string_bytes l.path) l.file (file_left g.R.Read.remaining (string_bytes l.path) l.initial.self most) (lines_left g.R.Read.remaining l.self most))
    × (left l.self ≤ left l.initial.self)
    × (l.self.reader.failures ≡ l.initial.self.reader.failures)
    × KnowsEnd g.R.Read.remaining l.self
    × (reached l.initial.self ≤ reached l.self)

abbrev pub decreases-loop-file : goal.decreases-loop-file
decreases-loop-file g l = left l.self
