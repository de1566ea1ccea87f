-- The terms of libraries.
use Rattle.std.proofs.Common.{◌≡◌, ℕ, true, List, [], ◌∷◌, map, codes, Option, None, Some, Result, Ok, Err, IfOk, MatchOption, refl, sym, ap, subst, ◌∙◌}
use Rattle.std.specs.Prelude.{if◌then◌else◌}
use Rattle.std.specs.Option.{option_map}
use Rattle.erl_term.specs.Value.{Value, Values, values_of}
use Rattle.erl_term.specs.Value.Value.{atom, list}
use Rattle.rel_files.specs.Parts.{list_in, triple_in, is_word}
use Rattle.rel_files.specs.Terms.{triple_term}
use Rattle.rel_files.proofs.Options.{mapped, chained, passed, both, both_true}
use Rattle.rel_files.proofs.TermParts.{from_list, from_triple, from_is_word}
use Rattle.rel_files.specs.AppParts.{contents_in}
use Rattle.rel_files.specs.AppFile.{Specification, IsAppTerm, specification_in, with_term}
use Rattle.mod_table.specs.Same.{is_same}
use Rattle.mod_table.proofs.Sameness.{same_are_equal}
use Rattle.library.specs.Library.{Library, IsLibrary, TableTerm, HaveTables, tables_there, library_term, term_parts, are_same_tables, is_same_library}
use Rattle.library.specs.Laws.{SaysOneLibrary, SameAreEqual}
use Rattle.library.specs.Reading.{AreTables, SaysLibrary, placed}
use Rattle.library.proofs.TermRows.{one_table, tables_unique, are_terms}
use Rattle.library.proofs.PlaceLemmas.{placed_there, placed_says, there_are, are_true}

abbrev pub terms : List TableTerm → Values
terms ts = values_of (map (λ (t : TableTerm). t.term) ts)

-- the term with these parts
abbrev pub with_parts : Value × Values → Value
with_parts p = triple_term (atom (codes "lib")) p.0 (list p.1)

pub from_parts : (v : Value) (p : Value × Values) → term_parts v ≡ Some p → v ≡ with_parts p
from_parts v p e =
    let (m, found, rest) = chained (λ (m : Value × Value × Value). if is_word (codes "lib") m.0 then option_map (λ (ts : Values). (m.1, ts)) (list_in m.2) else None) (triple_in v) p e in
    let (word, listed) = passed (is_word (codes "lib") m.0) (option_map (λ (ts : Values). (m.1, ts)) (list_in m.2)) p rest in
    let (ts, tables, same) = mapped (λ (ts : Values). (m.1, ts)) (list_in m.2) p listed in
    from_triple v m found
    ∙ (λ j. triple_term (from_is_word (codes "lib") m.0 word j) m.1 (from_list m.2 ts tables j))
    ∙ ap with_parts same

-- the parts of a library's term
pub parts_there : (l : Library) → term_parts (library_term l) ≡ Some (l.app.whole, terms (tables_there l.tables))
parts_there l = refl

pub parts_are : (v : Value) (l : Library) → library_term l ≡ v → term_parts v ≡ Some (l.app.whole, terms (tables_there l.tables))
parts_are v l e = ap term_parts (sym e)

one_pair : (p q : Value × Values) → Some p ≡ Some q → (p.0 ≡ q.0) × (p.1 ≡ q.1)
one_pair p q e = let same : p ≡ q = cc in (ap (λ (r : Value × Values). r.0) same, ap (λ (r : Value × Values). r.1) same)

-- an application's term says one application, and this has it
one_app : (v w : Value) (a b : Specification) → v ≡ w → IsAppTerm v a → IsAppTerm w b → a ≡ b
one_app v w a b e x y = let same : Some a ≡ Some b = sym x.shape ∙ ap specification_in e ∙ y.shape in cc

pub whole_is : (v : Value) (a : Specification) → IsAppTerm v a → a.whole ≡ v
whole_is v a is = let (c, found, same) = mapped (with_term v) (contents_in v) a is.shape in ap (λ (s : Specification). s.whole) (sym same)

-- its library has these parts
pub of_library : (v w : Value) (ws : Values) (l : Library) → term_parts v ≡ Some (w, ws) → library_term l ≡ v → (l.app.whole ≡ w) × (terms (tables_there l.tables) ≡ ws)
of_library v w ws l parts is = one_pair (l.app.whole, terms (tables_there l.tables)) (w, ws) (sym (parts_are v l is) ∙ parts)

not_there : (o : Option (Value × Values)) (p : Value × Values) → o ≡ None → o ≡ Some p → ⊥
not_there o p none some = let lost : None ≡ Some p = sym none ∙ some in absurd cc

pub no_parts : (v : Value) → term_parts v ≡ None → (l : Library) → SaysLibrary v l → ⊥
no_parts v none l is = not_there (term_parts v) (l.app.whole, terms (tables_there l.tables)) none (parts_are v l is.1)

pub no_app : (v w : Value) (ws : Values) → term_parts v ≡ Some (w, ws) → ((a : Specification) → IsAppTerm w a → ⊥) → (l : Library) → SaysLibrary v l → ⊥
no_app v w ws parts none l is = none l.app (subst (λ (x : Value). IsAppTerm x l.app) (of_library v w ws l parts is.1).0 is.0.app)

-- a library of the term is made of the application and the tables that were read
pub only_of : (v w : Value) (ws : Values) (a : Specification) (us : List TableTerm) → term_parts v ≡ Some (w, ws) → IsAppTerm w a → AreTables ws us
    → (l : Library) → IsLibrary l → library_term l ≡ v → placed a.modules us ≡ Some l.tables
only_of v w ws a us parts says are l is same =
    let its = of_library v w ws l parts same in
    let app : l.app ≡ a = one_app l.app.whole w l.app a its.0 is.app says in
    let row : tables_there l.tables ≡ us = tables_unique ws (tables_there l.tables) us (subst (λ (x : Values). AreTables x (tables_there l.tables)) its.1 (there_are l.app.modules l.tables is.tables)) are in
    (λ j. placed (sym app j).modules (sym row j)) ∙ placed_there l.app.modules l.tables is.app.distinct is.tables

-- no tables are read that have their places
abbrev pub NonePlaced : List (List ℕ) → Values → Type 0
NonePlaced ms vs = (us : List TableTerm) (ts : List (Option TableTerm)) → AreTables vs us → placed ms us ≡ Some ts → ⊥

-- tables that are read of terms have their places, or none do
pub placed_of : {X E : Type 0} (f : X → List (Option TableTerm)) (vs : Values) (ms : List (List ℕ)) (us : List TableTerm) → AreTables vs us → (r : Result (Option X) E)
    → IfOk r (λ o. option_map f o ≡ placed ms us)
    → IfOk r (λ o. MatchOption o (NonePlaced ms vs) (λ v. (ws : List TableTerm) × AreTables vs ws × (placed ms ws ≡ Some (f v))))
placed_of f vs ms us are (Ok (Some v)) e = (us, are, sym e)
placed_of f vs ms us are (Ok None) e = λ ws ts also found.
    let lost : None ≡ Some ts = e ∙ (ap (placed ms) (sym (tables_unique vs ws us also are)) ∙ found) in absurd cc
placed_of f vs ms us are (Err x) e = tt

pub not_placed : (v w : Value) (ws : Values) (a : Specification) → term_parts v ≡ Some (w, ws) → IsAppTerm w a → NonePlaced a.modules ws
    → (l : Library) → SaysLibrary v l → ⊥
not_placed v w ws a parts says none l is =
    let are : AreTables ws (tables_there l.tables) = subst (λ (x : Values). AreTables x (tables_there l.tables)) (of_library v w ws l parts is.1).1 (there_are l.app.modules l.tables is.0.tables) in
    none (tables_there l.tables) l.tables are (only_of v w ws a (tables_there l.tables) parts says are l is.0 is.1)

pub is_library : (v w : Value) (ws : Values) (a : Specification) (us : List TableTerm) (ts : List (Option TableTerm)) → term_parts v ≡ Some (w, ws) → IsAppTerm w a → AreTables ws us
    → placed a.modules us ≡ Some ts → SaysLibrary v (record { app = a; tables = ts })
is_library v w ws a us ts parts says are placed_ =
    let whole : a.whole ≡ w = whole_is w a says in
    let there = placed_says a.modules us ts (are_true ws us are) placed_ in
    let row : terms (tables_there ts) ≡ ws = ap terms there.1 ∙ are_terms ws us are in (
      record { app = subst (λ (x : Value). IsAppTerm x a) (sym whole) says; tables = there.0 },
      (λ j. with_parts (whole j, row j)) ∙ sym (from_parts v (w, ws) parts),
    )

-- a term is that of one library at most
pub says_one_library : SaysOneLibrary
says_one_library l k is_l is_k same =
    let parts = of_library (library_term l) k.app.whole (terms (tables_there k.tables)) l (parts_are (library_term l) k (sym same)) refl in
    let app : l.app ≡ k.app = one_app l.app.whole k.app.whole l.app k.app parts.0 is_l.app is_k.app in
    let placed_ : Some k.tables ≡ Some l.tables =
    sym (placed_there k.app.modules k.tables is_k.app.distinct is_k.tables)
    ∙ only_of (library_term k) k.app.whole (terms (tables_there k.tables)) k.app (tables_there k.tables) (parts_there k) is_k.app (there_are k.app.modules k.tables is_k.tables) l is_l same in
    let tables : l.tables ≡ k.tables = cc in
    λ j. record { app = app j; tables = tables j }

same_tables : (ms ns : List (List ℕ)) (ts us : List (Option TableTerm)) → HaveTables ms ts → HaveTables ns us → are_same_tables ts us ≡ true → ts ≡ us
same_tables ms ns [] [] has also e = refl
same_tables ms ns [] (u ∷ us) has also e = absurd cc
same_tables ms ns (t ∷ ts) [] has also e = absurd cc
same_tables [] ns (t ∷ ts) (u ∷ us) has also e = absurd has
same_tables (m ∷ ms) [] (t ∷ ts) (u ∷ us) has also e = absurd also
same_tables (m ∷ ms) (n ∷ ns) (None ∷ ts) (None ∷ us) has also e = let rest = same_tables ms ns ts us has also e in λ j. None ∷ rest j
same_tables (m ∷ ms) (n ∷ ns) (None ∷ ts) (Some u ∷ us) has also e = absurd cc
same_tables (m ∷ ms) (n ∷ ns) (Some t ∷ ts) (None ∷ us) has also e = absurd cc
same_tables (m ∷ ms) (n ∷ ns) (Some t ∷ ts) (Some u ∷ us) has also e =
    let parts = both (is_same t.term u.term) (are_same_tables ts us) e in
    let term : t.term ≡ u.term = (same_are_equal t.term u.term).0 parts.0 in
    let table : t.table ≡ u.table = one_table t.term u.term t.table u.table term has.0 also.0 in
    let rest = same_tables ms ns ts us has.2 also.2 parts.1 in
    λ j. Some (record { term = term j; table = table j }) ∷ rest j

themselves : (ts : List (Option TableTerm)) → are_same_tables ts ts ≡ true
themselves [] = refl
themselves (None ∷ ts) = themselves ts
themselves (Some t ∷ ts) = both_true (is_same t.term t.term) (are_same_tables ts ts) ((same_are_equal t.term t.term).1 refl) (themselves ts)

equal : (l k : Library) → IsLibrary l → IsLibrary k → is_same_library l k ≡ true → l ≡ k
equal l k is_l is_k e =
    let parts = both (is_same l.app.whole k.app.whole) (are_same_tables l.tables k.tables) e in
    let app : l.app ≡ k.app = one_app l.app.whole k.app.whole l.app k.app ((same_are_equal l.app.whole k.app.whole).0 parts.0) is_l.app is_k.app in
    let tables : l.tables ≡ k.tables = same_tables l.app.modules k.app.modules l.tables k.tables is_l.tables is_k.tables parts.1 in
    λ j. record { app = app j; tables = tables j }

itself : (l : Library) → is_same_library l l ≡ true
itself l = both_true (is_same l.app.whole l.app.whole) (are_same_tables l.tables l.tables) ((same_are_equal l.app.whole l.app.whole).1 refl) (themselves l.tables)

-- two libraries are the same where they are equal
pub same_libraries : SameAreEqual
same_libraries l k is_l is_k = (equal l k is_l is_k, λ e. subst (λ (x : Library). is_same_library l x ≡ true) e (itself l))
