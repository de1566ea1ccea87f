-- What a release brings: the libraries of its applications, whose terms keep within limits.
use Rattle.std.proofs.Common.{◌≡◌, ℕ, ◌+◌, ◌≤◌, Bool, true, false, List, [], ◌∷◌, map, codes, Option, Some, None, Ok, Err, refl, sym, ap, subst, ◌∙◌, arith}
use Rattle.std.specs.Prelude.{if◌then◌else◌}
use Rattle.std.specs.List.{AllByRecursion}
use Rattle.std.specs.Option.{option_map, option_or}
use Rattle.std.specs.Str.{chars}
use Rattle.std.proofs.lemmas.Slice.Eq.{bytes_eq-Decides}
use Rattle.erl_term.specs.Printing.{is_string, characters_of}
use Rattle.erl_term.specs.Value.{values_of}
use Rattle.erl_term.specs.Within.{HaveShortNames, IsShortName, IsWithin, brackets, most_brackets}
use Rattle.rel_files.specs.Release.{Application}
use Rattle.rel_files.proofs.Options.{mapped}
use Rattle.rel_files.specs.AppFile.{Specification, IsAppTerm, with_term}
use Rattle.rel_files.specs.AppParts.{contents_in}
use Rattle.mod_table.specs.File.{IsTableTerm, name_of}
use Rattle.library.specs.Library.{AreLibrariesOf, HaveTables, IsLibrary, Library, TableTerm, is_at, library_term, tables_there}
use Rattle.rel_check.specs.Fault.{Fault, release_fault}
use Rattle.rel_files.specs.Terms.{list_of}
use Rattle.rel_unpack.specs.Applications.{AppAt, LibraryAt, LibrariesAt, ModuleAt, TableAt, is_named, is_of}
use Rattle.rel_unpack.specs.Order.{Each}
use Rattle.rel_unpack.specs.Paths.{app_path, mod_path}
use Rattle.rel_unpack.specs.Refusal.{Refusal}
use Rattle.rel_unpack.specs.Refusal.Refusal.{vsn_mismatch}
use Rattle.rel_unpack.specs.Release.{ReleaseAt}
use Rattle.rel_unpack.specs.Source.{Source}
use Rattle.rel_unpack.specs.Unpacking.{Brought, BroughtAt, UnpackedLibraries, brought_with, refusal_for}
use Rattle.rel_unpack.proofs.BroughtRelup.{term_within}
use Rattle.rel_unpack.proofs.LineOutcomes.{OrNone}

-- what was taken passed its test
taken : {X : Type 0} (b : Bool) (x y : X) (why : Refusal) → Ok x ≡ (if b then Ok y else Err why) → (x ≡ y) × (b ≡ true)
taken true x y why is = let same : Ok x ≡ Ok y = is in (cc, refl)
taken false x y why is = let never : Ok x ≡ Err why = is in absurd cc

-- What the `.app` file of an application says: it is of its own term, of this application, and its term keeps within limits.
record IsAppOf (a : Application) (s : Specification) : Type 0 where
  pub says : IsAppTerm s.whole s
  pub named : is_named a s ≡ true
  pub within : IsWithin 65 s.whole

read_application : (source : Source) (a : Application) (s : Specification) → AppAt source a (Ok s) → IsAppOf a s
read_application source a s (t, (bytes, reads, (v, has, says)), is) =
    let (same, named) = taken (is_named a t) s t (vsn_mismatch (app_path a)) is in
    let (c, found, made) = mapped (with_term v) (contents_in v) t says.shape in
    let whole : v ≡ t.whole = ap (λ (u : Specification). u.whole) made in
    subst (IsAppOf a) (sym same) (record {
      says = subst (λ w. IsAppTerm w t) whole says;
      named = named;
      within = subst (IsWithin 65) whole (term_within bytes v has);
    })

-- What the `.mod` file of a module says.
record IsTableOf (m : List ℕ) (t : TableTerm) : Type 0 where
  pub says : IsTableTerm t.term t.table
  pub own : name_of t.table ≡ m
  pub within : IsWithin 65 t.term

read_table : (source : Source) (a : Application) (m : List ℕ) (t : TableTerm) → TableAt source a m (Ok t) → IsTableOf m t
read_table source a m t (u, (bytes, reads, (has, says)), is) =
    let (same, own) = taken (is_of m u) t u (vsn_mismatch (mod_path a m)) is in
    subst (IsTableOf m) (sym same) (record {
      says = says;
      own = (bytes_eq-Decides (name_of u.table) m).0 own;
      within = term_within bytes u.term has;
    })

-- a table of such a term
abbrev KeepsLimits : TableTerm → Type 0
KeepsLimits t = IsWithin 65 t.term

-- Each module in turn has its table or none.
record AreTablesOf (ms : List (List ℕ)) (ts : List (Option TableTerm)) : Type 0 where
  pub have : HaveTables ms ts
  pub within : AllByRecursion (OrNone KeepsLimits) ts

one_table_more : (source : Source) (a : Application) (m : List ℕ) (ms : List (List ℕ)) (t : Option TableTerm) (ts : List (Option TableTerm)) → ModuleAt source a m (Ok t) → AreTablesOf ms ts
    → AreTablesOf (m ∷ ms) (t ∷ ts)
one_table_more source a m ms None ts here later = record { have = later.have; within = (tt, later.within) }
one_table_more source a m ms (Some t) ts here later =
    let of = read_table source a m t here in
    record { have = (of.says, of.own, later.have); within = (of.within, later.within) }

read_tables : (source : Source) (a : Application) (ms : List (List ℕ)) (ts : List (Option TableTerm)) → Each (ModuleAt source a) ms (Ok ts) → AreTablesOf ms ts
read_tables source a [] ts is = let read : Ok ts ≡ Ok [] = is in let same : ts ≡ [] = cc in subst (AreTablesOf []) (sym same) (record { have = tt; within = tt })
read_tables source a (m ∷ ms) ts (t, here, (us, later, is)) =
    let read : Ok ts ≡ Ok (t ∷ us) = is in
    let same : ts ≡ t ∷ us = cc in
    subst (AreTablesOf (m ∷ ms)) (sym same) (one_table_more source a m ms t us here (read_tables source a ms us later))

-- Terms that keep within limits do so side by side.
tables_within : (ts : List (Option TableTerm)) → AllByRecursion (OrNone KeepsLimits) ts
    → HaveShortNames (values_of (map (λ (t : TableTerm). t.term) (tables_there ts))) × (most_brackets (values_of (map (λ (t : TableTerm). t.term) (tables_there ts))) ≤ 65)
tables_within [] all = (tt, omega arith)
tables_within (None ∷ ts) all = tables_within ts all.1
tables_within (Some t ∷ ts) ((short, few), all) =
    let (names, nested) = tables_within ts all in
    ((short, names), omega (arith, few, nested))

lib_short : IsShortName (codes "lib")
unfolding chars
lib_short = omega arith

list_brackets : (is_text : Bool) (m : ℕ) → m ≤ 65 → (if is_text then 0 else m + 1) ≤ 66
list_brackets true m few = omega arith
list_brackets false m few = omega arith

-- the term of a library of such terms
library_within : (l : Library) → IsWithin 65 l.app.whole → AllByRecursion (OrNone KeepsLimits) l.tables → IsWithin 68 (library_term l)
library_within l (short, few) all =
    let (names, nested) = tables_within l.tables all in
    let terms = values_of (map (λ (t : TableTerm). t.term) (tables_there l.tables)) in
    let listed : brackets (list_of (map (λ (t : TableTerm). t.term) (tables_there l.tables))) ≤ 66 =
    list_brackets (is_string (characters_of terms)) (most_brackets terms) nested in
    ((lib_short, (short, (names, tt))), omega (arith, few, listed))

-- What the files of an application give is its library.
record IsLibraryOf (a : Application) (l : Library) : Type 0 where
  pub library : IsLibrary l
  pub named : is_at a.name a.vsn l ≡ true
  pub within : IsWithin 68 (library_term l)

read_library : (source : Source) (a : Application) (l : Library) → LibraryAt source a (Ok l) → IsLibraryOf a l
read_library source a l (s, said, (ts, each, is)) =
    let app = read_application source a s said in
    let tables = read_tables source a s.modules ts each in
    let same : l ≡ record { app = s; tables = ts } = cc in
    subst (IsLibraryOf a) (sym same) (record {
      library = record { app = app.says; tables = tables.have };
      named = app.named;
      within = library_within (record { app = s; tables = ts }) app.within tables.within;
    })

-- All that are read are the libraries of their applications.
all_read : (source : Source) (apps : List Application) (ls : List Library) → LibrariesAt source apps ls None → AreLibrariesOf apps ls
all_read source [] [] gives = tt
all_read source [] (l ∷ ls) gives = absurd gives
all_read source (a ∷ apps) [] gives = absurd gives
all_read source (a ∷ apps) (l ∷ ls) (here, later) =
    let of = read_library source a l here in
    (of.library, of.named, all_read source apps ls later)

all_within : (source : Source) (apps : List Application) (ls : List Library) (why : Option Refusal) → LibrariesAt source apps ls why
    → AllByRecursion (λ (l : Library). IsWithin 68 (library_term l)) ls
all_within source apps [] why gives = tt
all_within source [] (l ∷ ls) why gives = absurd gives
all_within source (a ∷ apps) (l ∷ ls) why (here, later) = ((read_library source a l here).within, all_within source apps ls why later)

-- What is brought is a release that was found, with the libraries of its applications.
pub brought_of_files : (source : Source) (path : List ℕ) (b : Brought) → BroughtAt source path (Ok b)
    → ReleaseAt source path (Ok b.found) × UnpackedLibraries source b.found.release.apps b.libraries b.refusal
brought_of_files source path b (f, found, (ls, why, gives, (read, reads, is))) =
    let same : b ≡ brought_with f ls why read = cc in
    subst (λ (x : Brought). ReleaseAt source path (Ok x.found) × UnpackedLibraries source x.found.release.apps x.libraries x.refusal) (sym same) (found, gives)

-- where it isn't refused
none_met : (read : Option Refusal) (f : Option Fault) → option_or read (option_map refusal_for f) ≡ None → (read ≡ None) × (f ≡ None)
none_met (Some w) f is = absurd cc
none_met None (Some f) is = absurd cc
none_met None None is = (refl, refl)

-- The libraries of a release that isn't refused are those of its applications, and it has no fault with them.
pub brought_libraries : (source : Source) (path : List ℕ) (b : Brought) → BroughtAt source path (Ok b) → b.refusal ≡ None
    → AreLibrariesOf b.found.release.apps b.libraries × (release_fault b.found.release.apps b.libraries ≡ None)
brought_libraries source path b brings unrefused =
    let (found, (read, gives, is)) = brought_of_files source path b brings in
    let (all, free) = none_met read (release_fault b.found.release.apps b.libraries) (sym is ∙ unrefused) in
    (all_read source b.found.release.apps b.libraries (subst (LibrariesAt source b.found.release.apps b.libraries) all gives), free)

-- The terms of the libraries keep within limits, whether it is refused or not.
pub brought_within : (source : Source) (path : List ℕ) (b : Brought) → BroughtAt source path (Ok b) → AllByRecursion (λ (l : Library). IsWithin 68 (library_term l)) b.libraries
brought_within source path b brings =
    let (found, (read, gives, is)) = brought_of_files source path b brings in
    all_within source b.found.release.apps b.libraries read gives
