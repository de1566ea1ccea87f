-- The reader as a machine: what has been read, and what one more token makes of it. Only contracts within the crate cite it.
use Rattle.std.specs.Prelude.{ℕ, ℤ, pos, negsuc, Bool, true, false, ◌||◌, not, List, [], ◌∷◌, ◌++◌, length, nat_lt, ◌==◌, if◌then◌else◌, Option, Some, None, Result, Ok, Err, is_some}
use Rattle.std.specs.Option.{option_map, option_and_then}
use Rattle.std.specs.Str.{chars}
use Rattle.erl_number.specs.declared.fault.TermFault.{TermFault}
use Rattle.erl_number.specs.declared.fault.TermFault.TheVariants.{BadToken, MissingDot, Unclosed, Unsupported}
use Rattle.erl_token.specs.declared.token.Bracket.{Bracket}
use Rattle.erl_token.specs.declared.token.Bracket.TheVariants.{Tuple, List as Square, Binary}
use Rattle.erl_term.specs.declared.parser.Slot.{Slot}
use Rattle.erl_term.specs.declared.parser.Slot.TheVariants.{First, Next, Later}
use Rattle.erl_term.specs.Value.{Value, values_of}
use Rattle.erl_term.specs.Value.Value.{int, atom, list, tuple, bin}
use Rattle.erl_token.specs.Bytes.{bytes_of}
use Rattle.erl_token.specs.Lexing.{Token, Item, items_of}
use Rattle.erl_token.specs.Lexing.Token.{open_tuple, close_tuple, open_list, close_list, open_binary, close_binary, comma, dot, name, number, text, stray, broken, cut}
use Rattle.erl_term.specs.Grammar.{Reading, numbers}
use Rattle.erl_term.specs.Faults.{for_a_dot, for_a_term, for_a_segment}

-- what stands in an open bracket so far
pub data Members : Type 0 where
  in_tuple : List Value → Members
  in_list : List Value → Members
  in_binary : List ℕ → Members

-- an open bracket, where it stands, and its members so far
pub record Level : Type 0 where
  pub from : ℕ
  pub members : Members

-- A term may begin, a whole term waits for its dot, or a bracket is open, with those around it, innermost first.
pub data State : Type 0 where
  begun : State
  whole : Reading → State
  inside : Slot → Level → List Level → State

-- the terms that have their dots, and what follows them
pub record Progress : Type 0 where
  pub done : List Reading
  pub state : State

-- What a token is to the machine: a term that is one token, with the bytes that it stands for in a binary, or what it does.
pub data Kind : Type 0 where
  leaf : Value → Option (List ℕ) → Kind
  opening : Bracket → Kind
  closing : Bracket → Kind
  separator : Kind
  ending : Kind
  senseless : Kind

-- the number, if it is a byte
abbrev pub byte_of : ℤ → Option (List ℕ)
byte_of (pos n) = if nat_lt n 256 then Some (n ∷ []) else None
byte_of (negsuc n) = None

abbrev pub kind_of : Token → Kind
kind_of (name s) = leaf (atom s) None
kind_of (number n) = leaf (int n) (byte_of n)
kind_of (text s) = leaf (list (numbers (chars s))) (bytes_of (chars s))
kind_of open_tuple = opening Tuple
kind_of open_list = opening Square
kind_of open_binary = opening Binary
kind_of close_tuple = closing Tuple
kind_of close_list = closing Square
kind_of close_binary = closing Binary
kind_of comma = separator
kind_of dot = ending
kind_of (stray x) = senseless
kind_of (broken like own) = senseless
kind_of (cut like) = senseless

abbrev pub bracket_of : Members → Bracket
bracket_of (in_tuple vs) = Tuple
bracket_of (in_list vs) = Square
bracket_of (in_binary bs) = Binary

-- a bracket with nothing in it
abbrev pub empty : Bracket → Members
empty Tuple = in_tuple []
empty Square = in_list []
empty Binary = in_binary []

-- the term that ends with the bracket
abbrev pub enclosed : Members → Value
enclosed (in_tuple vs) = tuple (values_of vs)
enclosed (in_list vs) = list (values_of vs)
enclosed (in_binary bs) = bin bs

-- one member more: a term, and the bytes that it stands for in a binary
abbrev pub with_member : Value → List ℕ → Members → Members
with_member v bs (in_tuple vs) = in_tuple (vs ++ v ∷ [])
with_member v bs (in_list vs) = in_list (vs ++ v ∷ [])
with_member v bs (in_binary xs) = in_binary (xs ++ bs)

abbrev pub is_same : Bracket → Bracket → Bool
is_same Tuple Tuple = true
is_same Square Square = true
is_same Binary Binary = true
is_same a b = false

-- the innermost bracket is a binary
abbrev pub is_binary : List Level → Bool
is_binary [] = false
is_binary (l ∷ ls) = is_same (bracket_of l.members) Binary

-- the open brackets, where a member may begin in the innermost
abbrev pub open_levels : State → Option (List Level)
open_levels begun = Some []
open_levels (inside First l ls) = Some (l ∷ ls)
open_levels (inside Next l ls) = Some (l ∷ ls)
open_levels s = None

-- a term may begin
abbrev pub begins_term : State → Bool
begins_term begun = true
begins_term (inside First l ls) = not (is_binary (l ∷ ls))
begins_term (inside Next l ls) = not (is_binary (l ∷ ls))
begins_term s = false

-- the bytes that a term adds to the innermost of these brackets: those that it stands for in a binary, none elsewhere
abbrev pub added : Option (List ℕ) → List Level → Option (List ℕ)
added segment ls = if is_binary ls then segment else Some []

-- a term is whole in the innermost of these brackets, and adds these bytes
abbrev pub put : Reading → List ℕ → List Level → State
put r bs [] = whole r
put r bs (l ∷ ls) = inside Later (record l { members = with_member r.term bs l.members }) ls

-- the innermost bracket is closed after this place
abbrev pub shut : Level → List Level → Bracket → ℕ → Option State
shut l ls b to = if is_same (bracket_of l.members) b then Some (put (record { term = enclosed l.members; from = l.from; to = to }) [] ls) else None

abbrev pub close : State → Bracket → ℕ → Option State
close (inside First l ls) b to = shut l ls b to
close (inside Later l ls) b to = shut l ls b to
close s b to = None

abbrev pub separate : State → Option State
separate (inside Later l ls) = Some (inside Next l ls)
separate s = None

abbrev pub end : List Reading → State → Option Progress
end done (whole r) = Some (record { done = done ++ r ∷ []; state = begun })
end done s = None

-- a bracket is opened at this place
abbrev pub enter : ℕ → Bracket → ℕ → List Level → Option State
enter limit b from ls =
    if is_binary ls then None else if nat_lt (length ls) limit then Some (inside First (record { from = from; members = empty b }) ls) else None

abbrev pub at_kind : ℕ → List Reading → State → Kind → ℕ → ℕ → Option Progress
at_kind limit done s (leaf v segment) from to =
    option_and_then (λ ls. option_map (λ bs. record { done = done; state = put (record { term = v; from = from; to = to }) bs ls }) (added segment ls)) (open_levels s)
at_kind limit done s (opening b) from to = option_and_then (λ ls. option_map (λ t. record { done = done; state = t }) (enter limit b from ls)) (open_levels s)
at_kind limit done s (closing b) from to = option_map (λ t. record { done = done; state = t }) (close s b to)
at_kind limit done s separator from to = option_map (λ t. record { done = done; state = t }) (separate s)
at_kind limit done s ending from to = end done s
at_kind limit done s senseless from to = None

-- what one more token makes of it, if it may stand there
abbrev pub next : ℕ → Progress → Item → Option Progress
next limit p i = at_kind limit p.done p.state (kind_of i.token) i.from i.to

-- the token may stand there
abbrev pub comes : ℕ → Progress → Token → Bool
comes limit p t = is_some (at_kind limit p.done p.state (kind_of t) 0 0)

-- a byte of a form of Erlang that isn't read, directly inside such a bracket
abbrev pub is_left_out : Bracket → Token → Bool
is_left_out Square (stray x) = x == 124
is_left_out Binary (stray x) = x == 47 || x == 58
is_left_out b t = false

-- the fault of a token that may not stand inside a bracket, by what may come there
abbrev pub misplaced_inside : Slot → Bracket → Token → ℕ → TermFault
misplaced_inside Later b t at = BadToken at
misplaced_inside slot Binary t at = for_a_segment t at
misplaced_inside slot b t at = for_a_term t at

-- the fault of a token that its place alone refuses
abbrev pub misplaced : State → Token → ℕ → TermFault
misplaced begun t at = for_a_term t at
misplaced (whole r) t at = for_a_dot t at
misplaced (inside slot l ls) t at =
    if is_left_out (bracket_of l.members) t then Unsupported at else misplaced_inside slot (bracket_of l.members) t at

-- the fault of the end within what begins at this place
abbrev pub cut_off : State → ℕ → TermFault
cut_off (inside slot l ls) at = Unclosed l.from
cut_off s at = BadToken at

-- the fault of a token that may not stand there
abbrev pub refusal : ℕ → Progress → Token → ℕ → TermFault
refusal limit p (broken like own) at = if comes limit p like then own else misplaced p.state (broken like own) at
refusal limit p (cut like) at = if comes limit p like then cut_off p.state at else misplaced p.state (cut like) at
refusal limit p t at = misplaced p.state t at

abbrev pub or_refusal : ℕ → Progress → Item → Option Progress → Result Progress TermFault
or_refusal limit p i (Some q) = Ok q
or_refusal limit p i None = Err (refusal limit p i.token i.from)

abbrev pub step : ℕ → Progress → Item → Result Progress TermFault
step limit p i = or_refusal limit p i (next limit p i)

abbrev pub and_then : Result Progress TermFault → (Progress → Result Progress TermFault) → Result Progress TermFault
and_then (Ok p) k = k p
and_then (Err f) k = Err f

abbrev pub run : ℕ → Progress → List Item → Result Progress TermFault
run limit p [] = Ok p
run limit p (i ∷ is) = and_then (step limit p i) (λ q. run limit q is)

-- the end of a text of so many bytes
abbrev pub at_end : ℕ → List Reading → State → Result (List Reading) TermFault
at_end size done begun = Ok done
at_end size done (whole r) = Err (MissingDot size)
at_end size done (inside slot l ls) = Err (Unclosed l.from)

abbrev pub finished : ℕ → Result Progress TermFault → Result (List Reading) TermFault
finished size (Ok p) = at_end size p.done p.state
finished size (Err f) = Err f

abbrev pub nothing_read : Progress
nothing_read = record { done = []; state = begun }

-- what the machine reads in a text
abbrev pub reading_of : ℕ → List ℕ → Result (List Reading) TermFault
reading_of limit bytes = finished (length bytes) (run limit nothing_read (items_of bytes))
