-- How the fault of a text is shown.
use Rattle.std.specs.Prelude.{ℕ, List, ◌++◌, Option, Some, None, codes, decimal}
use Rattle.erl_number.specs.declared.fault.TermFault.{TermFault}
use Rattle.erl_number.specs.declared.fault.TermFault.TheVariants.{BadToken, BadNumber, Unclosed, MissingDot, Unsupported, Deep, NoMemory}

-- its name and its place
abbrev pub term_fault_text : TermFault → List ℕ
term_fault_text (BadToken at) = codes "BadToken " ++ decimal at
term_fault_text (BadNumber at) = codes "BadNumber " ++ decimal at
term_fault_text (Unclosed at) = codes "Unclosed " ++ decimal at
term_fault_text (MissingDot at) = codes "MissingDot " ++ decimal at
term_fault_text (Unsupported at) = codes "Unsupported " ++ decimal at
term_fault_text (Deep at) = codes "Deep " ++ decimal at
term_fault_text NoMemory = codes "NoMemory"

-- a name, and after it the place if there is one
abbrev pub placed_text : List ℕ → Option ℕ → List ℕ
placed_text name (Some at) = name ++ (codes " " ++ decimal at)
placed_text name None = name
