-- Which instructions of an appup lead from one version to another (OTP: appup(4), `systools_relup`).
use Rattle.std.specs.Prelude.{◌≡◌, ℕ, ◌+◌, ◌==◌, ◌&&◌, Bool, true, false, List, [], ◌∷◌, length, zero, suc, nat_le, Option, None, Some, IsSome, Result, Ok, Err, if◌then◌else◌}
use Rattle.std.specs.Option.{option_map, option_and_then}
use Rattle.std.specs.Str.{bytes_eq, chars, is_utf8}
use Rattle.regex.specs.Patterns.{Re, find_str, span, default_config}
use Rattle.regex_syntax.specs.Brackets.{Nested}
use Rattle.regex_syntax.specs.Grammar.{Names, read}
use Rattle.appup_file.specs.Instruction.{AppupInstruction, VersionForm, AppupEntryForm}
use Rattle.appup_file.specs.Instruction.VersionForm.{text, pattern}
use Rattle.appup_match.specs.Ambiguity.{is_ambiguous}
use Rattle.appup_match.specs.declared.fault.MatchError.{MatchError}
use Rattle.appup_match.specs.declared.fault.MatchError.TheVariants.{NoEntry, BadPattern, NoMemory}
use Rattle.appup_match.specs.declared.fault.PatternFault.{PatternFault}
use Rattle.appup_match.specs.declared.fault.PatternFault.TheVariants.{NoPattern, Ambiguous, TooBig}
use Rattle.appup_match.specs.declared.search.NoVerdict.{NoVerdict}
use Rattle.appup_match.specs.declared.search.NoVerdict.TheVariants as no_verdict

-- why a search has no instructions: no entry is for the version, or the pattern of the entry at this place has no meaning
pub data MatchFault : Type 0 where
  no_entry : MatchFault
  bad_pattern : ℕ → MatchFault

-- what the grammar reads, within its limit on nesting
abbrev pub within_nesting : Nested Re × Names → Option Re
within_nesting p = if nat_le p.0.depth default_config.nest_limit then Some p.0.value else None

-- the regular expression that a text is, if it is one
abbrev pub regular_expression : List ℕ → Option Re
regular_expression bs = if is_utf8 bs then option_and_then within_nesting (read default_config (chars bs)) else None

-- whether a match is the whole version
abbrev pub is_whole : List ℕ → Option (ℕ × ℕ) → Bool
is_whole vsn None = false
is_whole vsn (Some s) = (s.0 == 0) && (s.1 == length vsn)

-- whether the first match is the whole version
abbrev pub matches_whole : List ℕ → Re → Bool
matches_whole vsn re = is_whole vsn (option_map span (find_str re vsn 0))

-- whether the first match of a pattern's text is the whole version; None where the text is no pattern
abbrev pub text_verdict : List ℕ → List ℕ → Option Bool
text_verdict vsn bs = option_map (matches_whole vsn) (regular_expression bs)

-- whether the first match of a pattern is the whole version; None where it is no pattern, or has two readings
abbrev pub pattern_verdict : List ℕ → List ℕ → Option Bool
pattern_verdict vsn bs = if is_ambiguous bs then None else text_verdict vsn bs

-- whether an entry is for a version; None where its pattern has no meaning
abbrev pub verdict : List ℕ → VersionForm → Option Bool
verdict vsn (text s) = Some (bytes_eq s vsn)
verdict vsn (pattern bs) = pattern_verdict vsn bs

-- an entry at this place, and the answer of the search after it
abbrev pub answer_at : ℕ → Option Bool → List AppupInstruction → Result (List AppupInstruction) MatchFault → Result (List AppupInstruction) MatchFault
answer_at place None is' later = Err (bad_pattern place)
answer_at place (Some true) is' later = Ok is'
answer_at place (Some false) is' later = later

-- the answer of the search among entries of which the first has this place
abbrev pub matching_from : ℕ → List ℕ → List AppupEntryForm → Result (List AppupInstruction) MatchFault
matching_from place vsn [] = Err no_entry
matching_from place vsn (e ∷ es) = answer_at place (verdict vsn e.vsn) e.instrs (matching_from (place + 1) vsn es)

-- The instructions of the first entry that is for the version.
abbrev pub entry_matching : List ℕ → List AppupEntryForm → Result (List AppupInstruction) MatchFault
entry_matching = matching_from 0

-- a pattern's fault, of which there is one at most; which regular expressions are too big no definition says
abbrev pub PatternHas : PatternFault → List ℕ → Type 0
PatternHas NoPattern bs = (is_ambiguous bs ≡ false) × (regular_expression bs ≡ None)
PatternHas Ambiguous bs = is_ambiguous bs ≡ true
PatternHas TooBig bs = (is_ambiguous bs ≡ false) × IsSome (regular_expression bs)

-- the fault of the pattern that an entry's version is; a text has none
abbrev pub VersionHas : PatternFault → VersionForm → Type 0
VersionHas f (text s) = ⊥
VersionHas f (pattern bs) = PatternHas f bs

-- The search passes over the entries before this place, none of which is for the version, and the pattern there has this fault.
abbrev pub ComesToFault : PatternFault → List ℕ → List AppupEntryForm → ℕ → Type 0
ComesToFault f vsn [] n = ⊥
ComesToFault f vsn (e ∷ es) zero = VersionHas f e.vsn
ComesToFault f vsn (e ∷ es) (suc n) = (verdict vsn e.vsn ≡ Some false) × ComesToFault f vsn es n

-- what an error says of the entries; out of memory says nothing of them
abbrev pub Refuses : List ℕ → List AppupEntryForm → MatchError → Type 0
Refuses vsn es NoEntry = entry_matching vsn es ≡ Err no_entry
Refuses vsn es (BadPattern place f) = ComesToFault f vsn es place
Refuses vsn es NoMemory = Unit {0}

-- what an error says of the version of an entry; out of memory says nothing of it
abbrev pub RefusesVersion : VersionForm → NoVerdict → Type 0
RefusesVersion v (no_verdict.Pattern f) = VersionHas f v
RefusesVersion v no_verdict.NoMemory = Unit {0}

-- what an error says of a pattern; out of memory says nothing of it
abbrev pub RefusesPattern : List ℕ → NoVerdict → Type 0
RefusesPattern bs (no_verdict.Pattern f) = PatternHas f bs
RefusesPattern bs no_verdict.NoMemory = Unit {0}

-- what an error says of the text of a pattern that has one reading; out of memory says nothing of it
abbrev pub RefusesText : List ℕ → NoVerdict → Type 0
RefusesText bs (no_verdict.Pattern NoPattern) = regular_expression bs ≡ None
RefusesText bs (no_verdict.Pattern Ambiguous) = ⊥
RefusesText bs (no_verdict.Pattern TooBig) = IsSome (regular_expression bs)
RefusesText bs no_verdict.NoMemory = Unit {0}
