-- The pattern that an error reports.
use Rattle.std.proofs.Common.{List, sym}
use Rattle.relup_instruction.specs.declared.instruction.Direction.{Direction}
use Rattle.appup_file.specs.Instruction.{AppupForm}
use Rattle.appup_file.specs.Search.{entries_of}
use Rattle.appup_plain.specs.declared.fault.PlainError.{PlainError}
use Rattle.appup_plain.specs.declared.fault.PlainError.TheVariants as plain_error
use Rattle.appup_plain.specs.Plain.{Refuses}
use Rattle.relup_row.specs.Release.{RelupAppForm, RelupReleaseForm}
use Rattle.relup_by_patterns.specs.declared.error.PatternError.{PatternError}
use Rattle.relup_by_patterns.specs.declared.error.PatternError.TheVariants as pattern_error
use Rattle.relup_by_patterns.specs.Plain.{BadPattern, bad_pattern_of, IfBad, Reports, EntriesHaveFault, asked}

pub if_bad_weaker : (e : PatternError) (P Q : BadPattern → Type 0) → ((b : BadPattern) → P b → Q b) → IfBad e P → IfBad e Q
if_bad_weaker (pattern_error.BadPattern b) P Q weaker h = weaker (bad_pattern_of b) h
if_bad_weaker pattern_error.NoMemory P Q weaker h = tt

one : (d : Direction) (rs : List RelupReleaseForm) (a : RelupAppForm) (p : AppupForm) (e : PlainError) (b : BadPattern) → Reports a.name d e b
    → Refuses (entries_of d p) (asked a rs) e → EntriesHaveFault d rs a p b
one d rs a p (plain_error.BadPattern place f) b h refused =
    record { app = h.0; direction = h.1; comes = rw (sym h.2, sym h.3) at refused }
one d rs a p plain_error.NoMemory b h refused = absurd h

-- The error that reports that of the entries reports their fault.
pub reported : (d : Direction) (rs : List RelupReleaseForm) (a : RelupAppForm) (p : AppupForm) (e : PlainError) (r : PatternError) → IfBad r (Reports a.name d e)
    → Refuses (entries_of d p) (asked a rs) e → IfBad r (EntriesHaveFault d rs a p)
reported d rs a p e r h refused = if_bad_weaker r (Reports a.name d e) (EntriesHaveFault d rs a p) (λ b k. one d rs a p e b k refused) h
