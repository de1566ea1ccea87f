-- What stands where in the terms of a release file, before it is known what it says.
use Rattle.std.specs.Prelude.{ℕ, Bool, false, List, Option, None, Some, codes, if◌then◌else◌}
use Rattle.std.specs.Option.{option_map, option_and_then}
use Rattle.std.specs.Str.{bytes_eq}
use Rattle.erl_term.specs.Value.{Value, Values}
use Rattle.erl_term.specs.Value.Value.{atom, list, tuple}
use Rattle.erl_term.specs.Value.Values.{no_values, value}

-- the members of a list
abbrev pub list_in : Value → Option Values
list_in (list vs) = Some vs
list_in v = None

-- the two members of a tuple
abbrev pub two : Values → Option (Value × Value)
two (value v (value w no_values)) = Some (v, w)
two vs = None

abbrev pub pair_in : Value → Option (Value × Value)
pair_in (tuple vs) = two vs
pair_in v = None

-- the three members of a tuple
abbrev pub three : Values → Option (Value × Value × Value)
three (value v (value w (value x no_values))) = Some (v, w, x)
three vs = None

abbrev pub triple_in : Value → Option (Value × Value × Value)
triple_in (tuple vs) = three vs
triple_in v = None

-- the four members of a tuple
abbrev pub four : Values → Option (Value × Value × Value × Value)
four (value v (value w (value x (value y no_values)))) = Some (v, w, x, y)
four vs = None

abbrev pub four_in : Value → Option (Value × Value × Value × Value)
four_in (tuple vs) = four vs
four_in v = None

-- the text of an atom, which need be no name
abbrev pub word_in : Value → Option (List ℕ)
word_in (atom s) = Some s
word_in v = None

-- whether it is the atom of these bytes
abbrev pub is_word : List ℕ → Value → Bool
is_word word (atom s) = bytes_eq s word
is_word word v = false

-- {App, Vsn} and what follows
pub record AppParts : Type 0 where
  pub name : List ℕ
  pub vsn : Values
  pub ending : Values

abbrev pub app_members : Values → Option AppParts
app_members (value (atom s) (value (list vs) ws)) = Some (record { name = s; vsn = vs; ending = ws })
app_members vs = None

abbrev pub app_parts : Value → Option AppParts
app_parts (tuple vs) = app_members vs
app_parts v = None

-- {Name, Vsn}
pub record Title : Type 0 where
  pub name : Values
  pub vsn : Values

abbrev pub title_in : Value → Option Title
title_in v = option_and_then (λ p. option_and_then (λ name. option_map (λ vsn. record { name = name; vsn = vsn }) (list_in p.1)) (list_in p.0)) (pair_in v)

-- {erts, EVsn}
abbrev pub erts_in : Value → Option Values
erts_in v = option_and_then (λ p. if is_word (codes "erts") p.0 then list_in p.1 else None) (pair_in v)

-- {release, {Name, Vsn}, {erts, EVsn}, [AppSpec]}
pub record RelParts : Type 0 where
  pub title : Title
  pub erts : Values
  pub apps : Values

abbrev pub rel_parts : Value → Option RelParts
rel_parts v =
    option_and_then (λ m. if is_word (codes "release") m.0 then
    option_and_then (λ t. option_and_then (λ e. option_map (λ a. record { title = t; erts = e; apps = a }) (list_in m.3)) (erts_in m.2)) (title_in m.1)
    else None) (four_in v)
