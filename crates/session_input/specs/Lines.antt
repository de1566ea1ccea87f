-- The lines of an input.
use Rattle.std.specs.Prelude.{◌≡◌, ℕ, ◌<◌, ◌≤◌, List, [], ◌∷◌, length, if◌then◌else◌, ◌==◌}
use Rattle.session_input.specs.declared.line.Line.{Line}
use Rattle.session_input.specs.declared.line.Line.TheVariants.{Text, Long}
use Rattle.session_input.specs.Feed.{Feed}
use Rattle.session_input.specs.Feed.Feed.{over, cut, next}

-- Lines with one more byte in front of the first. A line is one even if no newline ends it, but none if it is cut off.
abbrev pub onto : ℕ → Feed (List ℕ) → Feed (List ℕ)
onto x over = next (x ∷ []) over
onto x cut = cut
onto x (next l ls) = next (x ∷ l) ls

-- the lines, without their newlines
abbrev pub lines_of : Feed ℕ → Feed (List ℕ)
lines_of over = over
lines_of cut = cut
lines_of (next x xs) = if x == 10 then next [] (lines_of xs) else onto x (lines_of xs)

-- a line as it is kept: its bytes, or only that there are more than so many
abbrev pub IsKept : ℕ → Line → List ℕ → Type 0
IsKept most (Text v) l = (v.items ≡ l) × (length l ≤ most)
IsKept most Long l = most < length l
