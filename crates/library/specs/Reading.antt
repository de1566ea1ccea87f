-- From the terms of libraries back to libraries.
use Rattle.std.specs.Prelude.{◌≡◌, ℕ, List, [], ◌∷◌, Option, None, Some, if◌then◌else◌}
use Rattle.std.specs.Option.{option_map}
use Rattle.std.specs.Str.{bytes_eq}
use Rattle.erl_term.specs.Value.{Value, Values}
use Rattle.erl_term.specs.Value.Values.{no_values, value}
use Rattle.mod_table.specs.File.{IsTableTerm, name_of}
use Rattle.library.specs.Library.{Library, TableTerm, IsLibrary, library_term}

-- Each term in turn says its own.
abbrev pub EachSays : {X : Type 0} → (Value → X → Type 0) → Values → List X → Type 0
EachSays says no_values [] = Unit {0}
EachSays says (value v vs) (x ∷ xs) = says v x × EachSays says vs xs
EachSays says vs xs = ⊥

-- The term says this table.
abbrev pub SaysTableTerm : Value → TableTerm → Type 0
SaysTableTerm v t = (t.term ≡ v) × IsTableTerm v t.table

-- The terms are those of these tables, in their order.
abbrev pub AreTables : Values → List TableTerm → Type 0
AreTables vs ts = EachSays SaysTableTerm vs ts

-- The term is that of this library.
abbrev pub SaysLibrary : Value → Library → Type 0
SaysLibrary v l = IsLibrary l × (library_term l ≡ v)

-- The terms are those of these libraries, in their order.
abbrev pub AreOfLibraries : Values → List Library → Type 0
AreOfLibraries vs ls = EachSays SaysLibrary vs ls

-- the next table, where it is that of this module; and those that are left
abbrev pub taken : List ℕ → List TableTerm → Option TableTerm × List TableTerm
taken m [] = (None, [])
taken m (t ∷ ts) = if bytes_eq (name_of t.table) m then (Some t, ts) else (None, t ∷ ts)

-- the tables in the places of their modules, where they stand in the order of these and none is left
abbrev pub placed : List (List ℕ) → List TableTerm → Option (List (Option TableTerm))
placed [] [] = Some []
placed [] (t ∷ ts) = None
placed (m ∷ ms) ts = option_map (λ us. (taken m ts).0 ∷ us) (placed ms (taken m ts).1)
