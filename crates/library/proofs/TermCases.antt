-- Whether terms are those of libraries.
use Rattle.std.proofs.Common.{◌≡◌, ◌⊎◌, inl, inr, ℕ, Bool, true, false, List, [], ◌∷◌, Option, None, Some, refl, sym, ap, subst, ◌∙◌}
use Rattle.std.specs.List.{AllByRecursion}
use Rattle.erl_term.specs.Value.{Value, Values}
use Rattle.erl_term.specs.Value.Values.{no_values, value}
use Rattle.rel_files.specs.Kind.{Kind, TermSays}
use Rattle.rel_files.specs.Name.{AreDistinct, IsFirstTwice}
use Rattle.rel_files.proofs.Distinct.{distinct_or_twice, never_both}
use Rattle.rel_files.specs.AppFile.{Specification, IsAppTerm, app_files}
use Rattle.mod_table.specs.File.{mod_files}
use Rattle.library.specs.Library.{Library, TableTerm, IsLibrary, term_parts}
use Rattle.library.specs.Reading.{AreTables, AreOfLibraries, SaysLibrary, SaysTableTerm, placed}
use Rattle.library.proofs.TermRows.{RowOrNot, row_or_not, says_one_row, tables_unique}
use Rattle.library.proofs.Terms.{NonePlaced, is_library, no_app, no_parts, not_placed, says_one_library}

-- A term says one thing of a kind of files, or none.
module _ {X : Type 0} (k : Kind X) where
  abbrev SaysOrNot : Value → Type 0
  SaysOrNot v = ((x : X) × TermSays k v x) ⊎ ((x : X) → TermSays k v x → ⊥)

  the_same : (o : Option X) (x y : X) → o ≡ Some x → o ≡ Some y → x ≡ y
  the_same o x y p q = cc

  says_or_not : (v : Value) → SaysOrNot v
  says_or_not v = by_shape (k.read v) refl
    where
      by_versions : (x : X) → k.read v ≡ Some x → AreDistinct (k.names x) → (b : Bool) → k.has_versions x ≡ b → SaysOrNot v
      by_versions x shape distinct true is = inl (x, record { shape = shape; distinct = distinct; versions = is })
      by_versions x shape distinct false is = inr (λ y says. let lost : false ≡ true = sym is ∙ ap k.has_versions (the_same (k.read v) x y shape says.shape) ∙ says.versions in cc)

      by_names : (x : X) → k.read v ≡ Some x → AreDistinct (k.names x) ⊎ ((n : List ℕ) × IsFirstTwice (k.names x) n) → SaysOrNot v
      by_names x shape (inl distinct) = by_versions x shape distinct (k.has_versions x) refl
      by_names x shape (inr (n, twice)) = inr (λ y says. never_both (k.names x) n (subst (λ (z : X). AreDistinct (k.names z)) (the_same (k.read v) y x says.shape shape) says.distinct) twice)

      by_shape : (o : Option X) → k.read v ≡ o → SaysOrNot v
      by_shape None is = inr (λ x says. let lost : None ≡ Some x = sym is ∙ says.shape in cc)
      by_shape (Some x) is = by_names x is (distinct_or_twice (k.names x))

table_or_not : (v : Value) → ((t : TableTerm) × SaysTableTerm v t) ⊎ ((t : TableTerm) → SaysTableTerm v t → ⊥)
table_or_not v = elim (says_or_not mod_files v) [
  | inl says ↦ inl (record { term = v; table = says.0 }, (refl, says.1))
  | inr never ↦ inr (λ t is. never t.table is.1)
]

-- A term is that of a library, or of none.
abbrev pub LibraryOrNot : Value → Type 0
LibraryOrNot v = ((l : Library) × SaysLibrary v l) ⊎ ((l : Library) → SaysLibrary v l → ⊥)

pub library_or_not : (v : Value) → LibraryOrNot v
library_or_not v = by_parts (term_parts v) refl
  where
    by_places : (w : Value) (ws : Values) (a : Specification) (us : List TableTerm) → term_parts v ≡ Some (w, ws) → IsAppTerm w a → AreTables ws us
        → (o : Option (List (Option TableTerm))) → placed a.modules us ≡ o → LibraryOrNot v
    by_places w ws a us parts says are None is =
        let none : NonePlaced a.modules ws = λ vs ts also found.
        let lost : None ≡ Some ts = sym is ∙ ap (placed a.modules) (tables_unique ws us vs are also) ∙ found in cc in
        inr (not_placed v w ws a parts says none)
    by_places w ws a us parts says are (Some ts) is = inl (record { app = a; tables = ts }, is_library v w ws a us ts parts says are is)

    by_tables : (w : Value) (ws : Values) (a : Specification) → term_parts v ≡ Some (w, ws) → IsAppTerm w a → RowOrNot SaysTableTerm ws → LibraryOrNot v
    by_tables w ws a parts says (inl (us, are)) = by_places w ws a us parts says are (placed a.modules us) refl
    by_tables w ws a parts says (inr never) = inr (not_placed v w ws a parts says (λ us ts are found. never us are))

    by_app : (w : Value) (ws : Values) → term_parts v ≡ Some (w, ws) → ((a : Specification) × IsAppTerm w a) ⊎ ((a : Specification) → IsAppTerm w a → ⊥) → LibraryOrNot v
    by_app w ws parts (inl (a, says)) = by_tables w ws a parts says (row_or_not SaysTableTerm table_or_not ws)
    by_app w ws parts (inr never) = inr (no_app v w ws parts never)

    by_parts : (o : Option (Value × Values)) → term_parts v ≡ o → LibraryOrNot v
    by_parts None is = inr (no_parts v is)
    by_parts (Some (w, ws)) is = by_app w ws is (says_or_not app_files w)

-- Terms are those of libraries, or not.
pub libraries_or_not : (vs : Values) → RowOrNot SaysLibrary vs
libraries_or_not vs = row_or_not SaysLibrary library_or_not vs

one_library : (v : Value) (l k : Library) → SaysLibrary v l → SaysLibrary v k → l ≡ k
one_library v l k is also = says_one_library l k is.0 also.0 (is.1 ∙ sym also.1)

-- and of one row of libraries
pub libraries_once : (vs : Values) (ls ks : List Library) → AreOfLibraries vs ls → AreOfLibraries vs ks → ls ≡ ks
libraries_once vs ls ks are also = says_one_row SaysLibrary one_library vs ls ks are also

-- what they are the terms of are libraries
pub are_libraries : (vs : Values) (ls : List Library) → AreOfLibraries vs ls → AllByRecursion IsLibrary ls
are_libraries no_values [] are = tt
are_libraries no_values (l ∷ ls) are = absurd are
are_libraries (value v vs) [] are = absurd are
are_libraries (value v vs) (l ∷ ls) are = (are.0.0, are_libraries vs ls are.1)
