-- What the term of an application's file says; docs/RULES.md gives the format.
use Rattle.std.specs.Prelude.{ℕ, Bool, true, false, List, [], ◌∷◌, Option, None, Some, codes, if◌then◌else◌}
use Rattle.std.specs.List.{find}
use Rattle.std.specs.Option.{option_map, option_and_then}
use Rattle.erl_term.specs.Value.{Value, Values}
use Rattle.erl_term.specs.Value.Value.{list}
use Rattle.erl_term.specs.Value.Values.{no_values, value}
use Rattle.rel_files.specs.Parts.{list_in, pair_in, triple_in, is_word}
use Rattle.rel_files.specs.Sketch.{name_in, names_in, version_or_empty}

-- the pairs, where each is one
abbrev pub pairs_in : Values → Option (List (Value × Value))
pairs_in no_values = Some []
pairs_in (value v vs) = option_and_then (λ p. option_map (λ ps. p ∷ ps) (pairs_in vs)) (pair_in v)

-- the name of an application, and its keys with their values
pub record Entries : Type 0 where
  pub name : List ℕ
  pub pairs : List (Value × Value)

-- {application, App, [{Key, Value}]}
abbrev pub entries_in : Value → Option Entries
entries_in v =
    option_and_then (λ m. if is_word (codes "application") m.0 then
    option_and_then (λ name. option_map (λ pairs. record { name = name; pairs = pairs })
    (option_and_then pairs_in (list_in m.2))) (name_in m.1)
    else None) (triple_in v)

-- the value of a key; of equal keys the first counts
abbrev pub value_at : List ℕ → List (Value × Value) → Option Value
value_at key pairs = option_map (λ (p : Value × Value). p.1) (find (λ (p : Value × Value). is_word key p.0) pairs)

-- the version, which has to be there
abbrev pub vsn_in : List (Value × Value) → Option (List ℕ)
vsn_in pairs = option_and_then version_or_empty (value_at (codes "vsn") pairs)

-- its modules; none where the key is missing
abbrev pub modules_at : Option Value → Option (List (List ℕ))
modules_at None = Some []
modules_at (Some v) = names_in v

-- Module of {Module, Args}
abbrev pub module_in : Value → Option (List ℕ)
module_in v = option_and_then (λ p. name_in p.0) (pair_in v)

-- whether it is []
abbrev pub names_none : Value → Bool
names_none (list no_values) = true
names_none v = false

-- {Module, Args}, or [], which names none
abbrev pub top_in : Value → Option (Option (List ℕ))
top_in v = if names_none v then Some None else option_map Some (module_in v)

-- the module that starts it; none where the key is missing
abbrev pub top_at : Option Value → Option (Option (List ℕ))
top_at None = Some None
top_at (Some v) = top_in v

-- what the keys that count say
pub record Contents : Type 0 where
  pub name : List ℕ
  pub vsn : List ℕ
  pub modules : List (List ℕ)
  pub top : Option (List ℕ)

abbrev pub contents : Entries → Option Contents
contents e =
    option_and_then (λ vsn. option_and_then (λ modules. option_map (λ top. record { name = e.name; vsn = vsn; modules = modules; top = top })
    (top_at (value_at (codes "mod") e.pairs))) (modules_at (value_at (codes "modules") e.pairs))) (vsn_in e.pairs)

abbrev pub contents_in : Value → Option Contents
contents_in v = option_and_then contents (entries_in v)
