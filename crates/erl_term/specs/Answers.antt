-- What a reader answers.
use Rattle.std.specs.Prelude.{◌≡◌, ℕ, List, map, Result, Ok, Err, Vec}
use Rattle.std.specs.declared.alloc.Global.{Global}
use Rattle.erl_number.specs.declared.fault.TermFault.{TermFault}
use Rattle.erl_number.specs.declared.fault.TermFault.TheVariants.{NoMemory}
use Rattle.erl_term.specs.declared.term.Spanned.{Spanned}
use Rattle.erl_term.specs.Value.{value_of}
use Rattle.erl_term.specs.Grammar.{Reading}
use Rattle.erl_term.specs.Faults.{IsFault}

-- a term and its places
abbrev pub reading_of_spanned : Spanned → Reading
reading_of_spanned s = record { term = value_of s.term; from = s.from; to = s.to }

abbrev pub readings : Vec Spanned Global → List Reading
readings v = map reading_of_spanned v.items

-- these terms, or out of memory
abbrev pub IsOnly : List Reading → Result (Vec Spanned Global) TermFault → Type 0
IsOnly rs (Ok v) = readings v ≡ rs
IsOnly rs (Err f) = f ≡ NoMemory

-- the fault of the text, or out of memory
abbrev pub ReportsFault : ℕ → List ℕ → TermFault → Type 0
ReportsFault limit bytes NoMemory = Unit {0}
ReportsFault limit bytes f = IsFault limit bytes f
