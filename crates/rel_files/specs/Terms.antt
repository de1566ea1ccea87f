-- The terms of texts and of terms, as files and records have them.
use Rattle.std.specs.Prelude.{ℕ, ℤ, pos, List, [], ◌∷◌, map}
use Rattle.erl_term.specs.Value.{Value, values_of}
use Rattle.erl_term.specs.Value.Value.{int, atom, list, tuple}

abbrev pub tuple_of : List Value → Value
tuple_of vs = tuple (values_of vs)

abbrev pub list_of : List Value → Value
list_of vs = list (values_of vs)

abbrev pub pair_term : Value → Value → Value
pair_term v w = tuple_of (v ∷ w ∷ [])

abbrev pub triple_term : Value → Value → Value → Value
triple_term v w x = tuple_of (v ∷ w ∷ x ∷ [])

-- a list of numbers, as a string is one
abbrev pub numbers_term : List ℤ → Value
numbers_term ns = list_of (map int ns)

-- the numbers of a text
abbrev pub numbers_of : List ℕ → List ℤ
numbers_of s = map pos s

-- a text, as the list of its bytes
abbrev pub text_term : List ℕ → Value
text_term s = numbers_term (numbers_of s)

-- a list of atoms
abbrev pub atoms_term : List (List ℕ) → Value
atoms_term names = list_of (map atom names)
