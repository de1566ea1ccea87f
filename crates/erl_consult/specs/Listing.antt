-- What is written of a text, and what is reported of one that isn't listed.
use Rattle.std.specs.Prelude.{◌≡◌, ◌≢◌, ℕ, ◌<◌, ◌≤◌, List, ◌++◌, length, Option, IfSome, codes}
use Rattle.std.specs.List.{flat_map}
use Rattle.std.specs.Io.KnownBytes.{Appends, Consumes}
use Rattle.counted_io.specs.Prefixes.{AppendsPrefix}
use Rattle.erl_term.specs.Answers.{ReportsFault}
use Rattle.erl_term.specs.TermFault.TheVariants.{NoMemory}
use Rattle.erl_term.specs.Grammar.{Reading, Reads}
use Rattle.erl_term.specs.Printing.{text_of}
use Rattle.erl_consult.specs.declared.error.ConsultError.{ConsultError}
use Rattle.erl_consult.specs.declared.error.ConsultError.TheVariants.{Fault, Read, Write, TooLong}

-- each term as it is printed, with a dot and a newline
abbrev pub lines_of : List Reading → List ℕ
lines_of rs = flat_map (λ r. text_of r.term ++ codes ".\n") rs

-- the text reads as terms that are listed so
abbrev pub Lists : List ℕ → List ℕ → Type 0
Lists bytes text = (rs : List Reading) × Reads 64 bytes rs × (text ≡ lines_of rs)

-- it isn't too long
abbrev pub IsShort : List ℕ → Type 0
IsShort bytes = length bytes ≤ 1048576

-- so many bytes of the reader were put after the others
abbrev pub HasTaken : ℕ → Option (List ℕ) → Option (List ℕ) → List ℕ → List ℕ → Type 0
HasTaken count known left old new = (piece : List ℕ) × (length piece ≡ count) × (new ≡ old ++ piece) × Consumes known left piece

-- at most so many bytes of the reader were taken
abbrev pub TakesAtMost : ℕ → Option (List ℕ) → Option (List ℕ) → Type 0
TakesAtMost most known left = (piece : List ℕ) × (length piece ≤ most) × Consumes known left piece

-- where the bytes of the reader are known, these are they
abbrev pub HasRead : Option (List ℕ) → List ℕ → Type 0
HasRead known bytes = IsShort bytes × IfSome known (λ all. bytes ≡ all)

-- where the bytes of the reader are known, their listing was written
abbrev pub HasListed : Option (List ℕ) → Option (List ℕ) → Option (List ℕ) → Type 0
HasListed known old new = IfSome known (λ bytes. (text : List ℕ) × IsShort bytes × Lists bytes text × Appends old new text)

-- so it was with a prefix of it
abbrev pub HasBegun : Option (List ℕ) → Option (List ℕ) → Option (List ℕ) → Type 0
HasBegun known old new = IfSome known (λ bytes. (text : List ℕ) × IsShort bytes × Lists bytes text × AppendsPrefix old new text)

-- Where the bytes of the reader are known, the refusal is theirs. A text that is too long is refused for that, whatever
-- fault it has.
abbrev pub IsReported : Option (List ℕ) → ConsultError → Type 0
IsReported known (Fault f) = f ≢ NoMemory → IfSome known (λ bytes. IsShort bytes × ReportsFault 64 bytes f)
IsReported known TooLong = IfSome known (λ bytes. 1048576 < length bytes)
IsReported known Read = Unit {0}
IsReported known Write = Unit {0}
