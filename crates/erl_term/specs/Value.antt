-- What a term stands for, without where it lies in memory.
use Rattle.std.specs.Prelude.{ℕ, ℤ, ◌<◌, All, FitsSigned, List, [], ◌∷◌, map, string_bytes}
use Rattle.std.specs.Int.{w64}
use Rattle.std.specs.Str.{IsUtf8}
use Rattle.erl_term.specs.declared.term.Term.{Term}
use Rattle.erl_term.specs.declared.term.Term.TheOpen.{Term-F}
use Rattle.erl_term.specs.declared.term.Term.TheFolds.{fold-Term}

mutual
  pub data Value : Type 0 where
    int : ℤ → Value
    atom : List ℕ → Value
    list : Values → Value
    tuple : Values → Value
    bin : List ℕ → Value

  pub data Values : Type 0 where
    no_values : Values
    value : Value → Values → Values

-- values one after another
abbrev pub values_of : List Value → Values
values_of [] = no_values
values_of (v ∷ vs) = value v (values_of vs)

-- one layer of a term, whose members are values already
abbrev pub value_step : Term-F Value → Value
value_step (Term-F.Int n) = int n
value_step (Term-F.Atom s) = atom (string_bytes s)
value_step (Term-F.List v) = list (values_of v.items)
value_step (Term-F.Tuple v) = tuple (values_of v.items)
value_step (Term-F.Bin v) = bin v.items

-- what a term stands for
abbrev pub value_of : Term → Value
value_of = fold-Term Value value_step

-- what terms one after another stand for
abbrev pub members_of : List Term → Values
members_of ts = values_of (map value_of ts)

-- a value that a `Term` can have: integers of 64 bits, names in UTF-8, bytes
abbrev mutual
  pub FitsTerm : Value → Type 0
  FitsTerm (int n) = FitsSigned w64 n
  FitsTerm (atom s) = IsUtf8 s
  FitsTerm (list vs) = FitTerms vs
  FitsTerm (tuple vs) = FitTerms vs
  FitsTerm (bin bs) = All (λ b. b < 256) bs

  pub FitTerms : Values → Type 0
  FitTerms no_values = Unit {0}
  FitTerms (value v vs) = FitsTerm v × FitTerms vs
