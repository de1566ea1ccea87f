-- Libraries: an application with the tables of its modules; docs/RULES.md gives the formats.
use Rattle.std.specs.Prelude.{◌≡◌, ℕ, Bool, true, false, ◌&&◌, List, [], ◌∷◌, map, find, codes, Option, None, Some, if◌then◌else◌}
use Rattle.std.specs.Option.{option_map, option_and_then}
use Rattle.std.specs.Str.{bytes_eq}
use Rattle.erl_term.specs.Value.{Value, Values}
use Rattle.erl_term.specs.Value.Value.{atom}
use Rattle.rel_files.specs.Parts.{list_in, triple_in, is_word}
use Rattle.rel_files.specs.Release.{Application}
pub use Rattle.rel_files.specs.AppFile.{Specification}
use Rattle.rel_files.specs.AppFile.{IsAppTerm}
use Rattle.mod_table.specs.declared.table.Table.{Table}
pub use Rattle.mod_table.specs.File.{vsn_of}
use Rattle.mod_table.specs.File.{IsTableTerm, name_of}
use Rattle.rel_files.specs.Terms.{triple_term, list_of}
use Rattle.mod_table.specs.Same.{is_same}

-- what a `.mod` file says, and its whole term
pub record TableTerm : Type 0 where
  pub term : Value
  pub table : Table

-- an application, and of each of its modules the table, where it has one
pub record Library : Type 0 where
  pub app : Specification
  pub tables : List (Option TableTerm)

-- each module in turn has its table, under its name, or none
abbrev pub HaveTables : List (List ℕ) → List (Option TableTerm) → Type 0
HaveTables [] [] = Unit {0}
HaveTables (m ∷ ms) (None ∷ ts) = HaveTables ms ts
HaveTables (m ∷ ms) (Some t ∷ ts) = IsTableTerm t.term t.table × (name_of t.table ≡ m) × HaveTables ms ts
HaveTables ms ts = ⊥

-- The library is what the files of an application say.
pub record IsLibrary (l : Library) : Type 0 where
  pub app : IsAppTerm l.app.whole l.app
  pub tables : HaveTables l.app.modules l.tables

-- the tables that are there
abbrev pub tables_there : List (Option TableTerm) → List TableTerm
tables_there [] = []
tables_there (None ∷ ts) = tables_there ts
tables_there (Some t ∷ ts) = t ∷ tables_there ts

-- {lib, AppTerm, [ModTerm]}: the term by which a record carries it
abbrev pub library_term : Library → Value
library_term l = triple_term (atom (codes "lib")) l.app.whole (list_of (map (λ (t : TableTerm). t.term) (tables_there l.tables)))

-- AppTerm and the ModTerms of such a term
abbrev pub term_parts : Value → Option (Value × Values)
term_parts v = option_and_then (λ m. if is_word (codes "lib") m.0 then option_map (λ ts. (m.1, ts)) (list_in m.2) else None) (triple_in v)

-- the same terms of two files
abbrev pub is_same_table : Option TableTerm → Option TableTerm → Bool
is_same_table None None = true
is_same_table (Some t) (Some u) = is_same t.term u.term
is_same_table t u = false

abbrev pub are_same_tables : List (Option TableTerm) → List (Option TableTerm) → Bool
are_same_tables [] [] = true
are_same_tables (t ∷ ts) (u ∷ us) = is_same_table t u && are_same_tables ts us
are_same_tables ts us = false

-- the same specification and the same tables, by the whole terms of their files
abbrev pub is_same_library : Library → Library → Bool
is_same_library l k = is_same l.app.whole k.app.whole && are_same_tables l.tables k.tables

-- it is of the application of this name and this version
abbrev pub is_at : List ℕ → List ℕ → Library → Bool
is_at name vsn l = bytes_eq l.app.name name && bytes_eq l.app.vsn vsn

-- the first of them that is
abbrev pub library_at : List ℕ → List ℕ → List Library → Option Library
library_at name vsn ls = find (is_at name vsn) ls

-- The libraries are those of these applications, in the order of the applications.
abbrev pub AreLibrariesOf : List Application → List Library → Type 0
AreLibrariesOf [] [] = Unit {0}
AreLibrariesOf (a ∷ as') (l ∷ ls) = IsLibrary l × (is_at a.name a.vsn l ≡ true) × AreLibrariesOf as' ls
AreLibrariesOf as' ls = ⊥

-- it is the same as what is there of its name and version, if there is something
abbrev pub agrees : Option Library → Library → Bool
agrees None l = true
agrees (Some k) l = is_same_library k l
