-- What private contracts read of the parser's types.
use Rattle.std.specs.Prelude.{◌≡◌, ℕ, pos, List, [], ◌∷◌, map, reverse, Result, Ok, Err, Vec}
use Rattle.std.specs.declared.alloc.Global.{Global}
use Rattle.std.specs.Str.{chars}
use Rattle.erl_number.specs.declared.fault.TermFault.{TermFault}
use Rattle.erl_number.specs.declared.fault.TermFault.TheVariants.{NoMemory}
use Rattle.erl_term.specs.declared.term.Spanned.{Spanned}
use Rattle.erl_term.specs.declared.parser.Level.{Level as CodeLevel}
use Rattle.erl_term.specs.declared.parser.Members.{Members as CodeMembers}
use Rattle.erl_term.specs.declared.parser.Members.TheVariants.{Tuple as TupleMembers, List as ListMembers, Binary as BinaryMembers}
use Rattle.erl_term.specs.declared.parser.State.{State as CodeState}
use Rattle.erl_term.specs.declared.parser.State.TheVariants.{Begun, Whole, Inside}
use Rattle.erl_term.specs.declared.parser.Parser.{Parser}
use Rattle.erl_term.specs.Value.{Value, value_of}
use Rattle.erl_term.specs.Value.Value.{int}
use Rattle.erl_term.specs.Answers.{reading_of_spanned, readings}
use Rattle.erl_term.specs.Grammar.{Reading}
use Rattle.erl_term.specs.Machine.{Level, Members, State, Progress}
use Rattle.erl_term.specs.Machine.Members.{in_tuple, in_list, in_binary}
use Rattle.erl_term.specs.Machine.State.{begun, whole, inside}

-- the members of a list that these bytes of a text are
abbrev pub character_values : List ℕ → List Value
character_values s = map (λ n. int (pos n)) (chars s)

abbrev pub members_are : CodeMembers → Members
members_are (TupleMembers v) = in_tuple (map value_of v.items)
members_are (ListMembers v) = in_list (map value_of v.items)
members_are (BinaryMembers v) = in_binary v.items

abbrev pub level_of : CodeLevel → Level
level_of l = record { from = l.from; members = members_are l.members }

abbrev pub state_of : CodeState → State
state_of Begun = begun
state_of (Whole s) = whole (reading_of_spanned s)
state_of (Inside slot l outer) = inside slot (level_of l) (reverse (map level_of outer.items))

-- what a parser has read
abbrev pub progress_of : Parser → Progress
progress_of p = record { done = map reading_of_spanned p.done.items; state = state_of p.state }

-- the open brackets
abbrev pub all_levels : State → List Level
all_levels begun = []
all_levels (whole r) = []
all_levels (inside slot l ls) = l ∷ ls

-- The step of the machine, out of memory aside.
abbrev pub Gives : {A : Type 0} → Result A TermFault → Progress → Result Progress TermFault → Type 0
Gives (Ok u) new step = step ≡ Ok new
Gives (Err NoMemory) new step = Unit {0}
Gives (Err f) new step = step ≡ Err f

-- what the machine reads, out of memory aside
abbrev pub GivesTerms : Result (Vec Spanned Global) TermFault → Result (List Reading) TermFault → Type 0
GivesTerms (Ok v) read = read ≡ Ok (readings v)
GivesTerms (Err NoMemory) read = Unit {0}
GivesTerms (Err f) read = read ≡ Err f
