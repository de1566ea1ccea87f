-- Terms within the limits of a reader: what is read back as it was printed.
use Rattle.std.specs.Prelude.{ℕ, ◌+◌, ◌≤◌, max, if◌then◌else◌, List, [], ◌∷◌, ◌++◌, length}
use Rattle.std.specs.List.{AllByRecursion}
use Rattle.std.specs.Str.{chars}
use Rattle.erl_term.specs.Value.{Value, Values}
use Rattle.erl_term.specs.Value.Value.{int, atom, list, tuple, bin}
use Rattle.erl_term.specs.Value.Values.{no_values, value}
use Rattle.erl_term.specs.Grammar.{Reads}
use Rattle.erl_term.specs.Printing.{is_string, characters_of}

-- an atom of at most 255 characters
abbrev pub IsShortName : List ℕ → Type 0
IsShortName s = length (chars s) ≤ 255

-- each atom in the term is one
abbrev mutual
  pub HasShortNames : Value → Type 0
  HasShortNames (int n) = Unit {0}
  HasShortNames (atom s) = IsShortName s
  HasShortNames (list vs) = HaveShortNames vs
  HasShortNames (tuple vs) = HaveShortNames vs
  HasShortNames (bin bs) = Unit {0}

  pub HaveShortNames : Values → Type 0
  HaveShortNames no_values = Unit {0}
  HaveShortNames (value v vs) = HasShortNames v × HaveShortNames vs

-- how many brackets are open at once in the text of a term
abbrev mutual
  pub brackets : Value → ℕ
  brackets (int n) = 0
  brackets (atom s) = 0
  brackets (list vs) = if is_string (characters_of vs) then 0 else most_brackets vs + 1
  brackets (tuple vs) = most_brackets vs + 1
  brackets (bin bs) = 1

  pub most_brackets : Values → ℕ
  most_brackets no_values = 0
  most_brackets (value v vs) = max (brackets v) (most_brackets vs)

-- short atoms alone, and at most so many brackets open at once
abbrev pub IsWithin : ℕ → Value → Type 0
IsWithin limit v = HasShortNames v × (brackets v ≤ limit)

-- With a dot and any blanks after it, the text reads as this one term, from its first byte to its last.
abbrev pub ReadsAs : ℕ → List ℕ → Value → Type 0
ReadsAs limit text v =
    (blanks : List ℕ) → AllByRecursion (λ x. x ≤ 32) blanks
    → Reads limit (text ++ 46 ∷ blanks) (record { term = v; from = 0; to = length text } ∷ [])
