-- What is reported of the libraries of a release stays within a line.
use Rattle.std.proofs.Common.{◌≡◌, ◌⊎◌, inl, inr, ℕ, Bool, true, false, List, [], ◌∷◌, ◌++◌, codes, Contains, Option, Some, None, Ok, Err, refl, sym, subst}
use Rattle.std.specs.Prelude.{◌||◌, if◌then◌else◌}
use Rattle.std.specs.List.{AllByRecursion, flat_map}
use Rattle.std.specs.Option.{option_map, option_or}
use Rattle.std.specs.Str.{bytes_eq}
use Rattle.erl_term.specs.Lines.{is_one_line}
use Rattle.erl_term.specs.Value.{Value}
use Rattle.erl_term.proofs.Lines.{append_line}
use Rattle.rel_files.specs.Name.{IsName}
use Rattle.rel_files.specs.Release.{Application}
use Rattle.rel_files.specs.AppFile.{Specification}
use Rattle.mod_table.specs.declared.table.Table.{Table}
use Rattle.mod_table.specs.declared.table.Table.TheVariants.{Worker, Super}
use Rattle.mod_table.specs.File.{table_in}
use Rattle.mod_table.specs.Table.{ChildSpec}
use Rattle.library.specs.Library.{Library, TableTerm, tables_there}
use Rattle.rel_check.specs.Fault.{Fault, first_fault, keeps_limits, release_fault}
use Rattle.rel_check.specs.Fault.Fault.{module_twice, id_twice, no_table as has_no_table, too_many as passes_a_limit}
use Rattle.rel_check.specs.Laws.{IsNamedIn}
use Rattle.rel_check.specs.Laws.IsNamedIn.{as_top, as_child}
use Rattle.rel_check.specs.Modules.{Part, Module, parts, table_in as table_found, modules_of, modules_with, modules_in}
use Rattle.rel_check.specs.Names.{Named, first_met, first_again, first_module_again, first_id_again, module_names, named_by, child_ids, ids_in}
use Rattle.rel_check.specs.Walk.{first_missing}
use Rattle.rel_check.proofs.Members.{no_member, member_cases}
use Rattle.rel_check.proofs.MissingLemmas.{missing_named}
use Rattle.rel_unpack.specs.Applications.{AppAt, LibraryAt, LibrariesAt, ModuleAt, TableAt, app_form, is_named, is_of, mod_form}
use Rattle.rel_unpack.specs.Order.{Then, Each}
use Rattle.rel_unpack.specs.Paths.{app_path, mod_path}
use Rattle.rel_unpack.specs.Refusal.{Refusal}
use Rattle.rel_unpack.specs.Refusal.Refusal.{vsn_mismatch}
use Rattle.rel_unpack.specs.Source.{Source, FileSays}
use Rattle.rel_unpack.specs.Unpacking.{UnpackedLibraries, refusal_for}
use Rattle.rel_unpack.proofs.FileNames.{NamesModules, StartsNamed, application_names, table_names}
use Rattle.rel_unpack.proofs.LineOutcomes.{AreGood, IsLineApplication, IsLineSpecification, IsSaid, OrNone, ReportsLine, app_path_line, folder_line, good_each, good_file, good_outcome, good_then, good_where_there, name_line, specification_line, tested}

-- what holds of all holds of a member, of two lists of both, and of what each member gives
module _ {X : Type 0} (P : X → Type 0) where
  of_member : (xs : List X) (y : X) → AllByRecursion P xs → Contains xs y → P y
  of_member [] y all member = absurd (no_member y member)
  of_member (x ∷ xs) y all member = go (member_cases x xs y member) (of_member xs y)
    where
      go : (x ≡ y) ⊎ Contains xs y → (AllByRecursion P xs → Contains xs y → P y) → P y
      go (inl same) rest = subst P same all.0
      go (inr later) rest = rest all.1 later

  of_both : (xs ys : List X) → AllByRecursion P xs → AllByRecursion P ys → AllByRecursion P (xs ++ ys)
  of_both [] ys all more = more
  of_both (x ∷ xs) ys all more = (all.0, of_both xs ys all.1 more)

  of_each : {Y : Type 0} (Q : Y → Type 0) (f : Y → List X) → ((y : Y) → Q y → AllByRecursion P (f y)) → (ys : List Y) → AllByRecursion Q ys → AllByRecursion P (flat_map f ys)
  of_each Q f gives [] all = tt
  of_each Q f gives (y ∷ ys) all = of_both (f y) (flat_map f ys) (gives y all.0) (of_each Q f gives ys all.1)

-- A table names the modules of its children within a line.
abbrev pub StartsOnLine : ChildSpec → Type 0
StartsOnLine c = is_one_line c.start ≡ true

abbrev pub IsLineTable : Table → Type 0
IsLineTable (Worker w) = Unit {0}
IsLineTable (Super s) = AllByRecursion StartsOnLine s.children

starts_line : (cs : List ChildSpec) → AllByRecursion StartsNamed cs → AllByRecursion StartsOnLine cs
starts_line [] named = tt
starts_line (c ∷ cs) named = (name_line c.start named.0, starts_line cs named.1)

table_line : (v : Value) (t : Table) → table_in v ≡ Some t → IsLineTable t
table_line v (Worker w) is = tt
table_line v (Super s) is = starts_line s.children (table_names v s is)

abbrev pub HasLineTable : TableTerm → Type 0
HasLineTable t = IsLineTable t.table

-- The name of a library, its top module and the modules in its tables are each within a line.
pub record IsLineLibrary (l : Library) : Type 0 where
  pub own : is_one_line l.app.name ≡ true
  pub top : (m : List ℕ) → l.app.top ≡ Some m → is_one_line m ≡ true
  pub tables : AllByRecursion (OrNone HasLineTable) l.tables

-- What the `.app` file of such an application says is within a line.
record IsRead (s : Specification) : Type 0 where
  pub lines : IsLineSpecification s
  pub names : NamesModules s

mod_path_line : (a : Application) (m : List ℕ) → IsLineApplication a → is_one_line m ≡ true → is_one_line (mod_path a m) ≡ true
mod_path_line a m lines line = folder_line a.name a.vsn (m ++ codes ".mod") lines (append_line m (codes ".mod") line refl)

module _ (source : Source) (a : Application) (lines : IsLineApplication a) where
  good_table : (m : List ℕ) → IsName m → AreGood (TableAt source a m) HasLineTable
  good_table m name =
      let line = mod_path_line a m lines (name_line m name) in
      good_then (FileSays mod_form source (mod_path a m)) _ (IsSaid mod_form source (mod_path a m) line) HasLineTable (good_file mod_form source (mod_path a m) line)
      (λ t said. good_outcome HasLineTable _ (tested HasLineTable t (vsn_mismatch (mod_path a m)) line (is_of m t) (λ same. table_line t.term t.table said.1.1.shape)))

  good_module : (m : List ℕ) → IsName m → AreGood (ModuleAt source a m) (OrNone HasLineTable)
  good_module m name = good_where_there source (mod_path a m) (TableAt source a m) HasLineTable (good_table m name)

  good_specification : AreGood (AppAt source a) IsRead
  good_specification =
      let line = app_path_line a lines in
      good_then (FileSays app_form source (app_path a)) _ (IsSaid app_form source (app_path a) line) IsRead (good_file app_form source (app_path a) line)
      (λ s said. good_outcome IsRead _ (tested IsRead s (vsn_mismatch (app_path a)) line (is_named a s)
      (λ same. record { lines = specification_line a s lines same; names = application_names said.1.0 s said.1.2.shape })))

  good_library : AreGood (LibraryAt source a) IsLineLibrary
  good_library =
      good_then (AppAt source a) (λ s. Then (Each (ModuleAt source a) s.modules) (λ ts r. r ≡ Ok (record { app = s; tables = ts }))) IsRead IsLineLibrary good_specification
      (λ s read. good_then (Each (ModuleAt source a) s.modules) (λ ts r. r ≡ Ok (record { app = s; tables = ts })) (AllByRecursion (OrNone HasLineTable)) IsLineLibrary
      (good_each (ModuleAt source a) IsName (OrNone HasLineTable) good_module s.modules read.names.modules)
      (λ ts all. good_outcome IsLineLibrary (Ok (record { app = s; tables = ts })) (record { own = read.lines.own; top = λ m is. name_line m (read.names.top m is); tables = all })))

-- The application of a part and its library have only names that are within a line.
pub record IsLinePart (p : Part) : Type 0 where
  pub app : IsLineApplication p.app
  pub library : IsLineLibrary p.library

pub record IsLineModule (m : Module) : Type 0 where
  pub app : IsLineApplication m.app
  pub table : OrNone IsLineTable m.table

parts_line : (apps : List Application) (ls : List Library) → AllByRecursion IsLineApplication apps → AllByRecursion IsLineLibrary ls → AllByRecursion IsLinePart (parts apps ls)
parts_line [] ls lines all = tt
parts_line (a ∷ apps) [] lines all = tt
parts_line (a ∷ apps) (l ∷ ls) lines all = (record { app = lines.0; library = all.0 }, parts_line apps ls lines.1 all.1)

found_line : (t : Option TableTerm) → OrNone HasLineTable t → OrNone IsLineTable (table_found t)
found_line None line = tt
found_line (Some t) line = line

modules_line : (a : Application) → IsLineApplication a → (ms : List (List ℕ)) (ts : List (Option TableTerm)) → AllByRecursion (OrNone HasLineTable) ts → AllByRecursion IsLineModule (modules_with a ms ts)
modules_line a line [] ts all = tt
modules_line a line (m ∷ ms) [] all = tt
modules_line a line (m ∷ ms) (t ∷ ts) all = (record { app = line; table = found_line t all.0 }, modules_line a line ms ts all.1)

part_modules_line : (p : Part) → IsLinePart p → AllByRecursion IsLineModule (modules_of p)
part_modules_line p line = modules_line p.app line.app p.library.app.modules p.library.tables line.library.tables

-- Of names that stand twice the applications are reported,
abbrev pub IsOfLine : Named → Type 0
IsOfLine n = IsLineApplication n.app

met_line : (met : List ℕ → Bool) (ns : List Named) (n : Named) → AllByRecursion IsOfLine ns → first_met met ns ≡ Some n → IsOfLine n
met_line met [] n all is = absurd cc
met_line met (x ∷ ns) n all is = go (met x.name) (first_met (λ m. bytes_eq x.name m || met m) ns) is (met_line (λ m. bytes_eq x.name m || met m) ns n all.1)
  where
    go : (b : Bool) (later : Option Named) → (if b then Some x else later) ≡ Some n → (later ≡ Some n → IsOfLine n) → IsOfLine n
    go true later at rest = let same : x ≡ n = cc in subst IsOfLine same all.0
    go false later at rest = rest at

names_line : (ms : List Module) → AllByRecursion IsLineModule ms → AllByRecursion IsOfLine (module_names ms)
names_line [] all = tt
names_line (m ∷ ms) all = (all.0.app, names_line ms all.1)

ids_line : (a : Application) → IsLineApplication a → (names : List (List ℕ)) → AllByRecursion IsOfLine (named_by a names)
ids_line a line [] = tt
ids_line a line (n ∷ names) = (line, ids_line a line names)

id_again_line : (ps : List Part) (n : Named) → AllByRecursion IsLinePart ps → first_id_again ps ≡ Some n → IsOfLine n
id_again_line [] n all is = absurd cc
id_again_line (p ∷ ps) n all is = go (first_again (child_ids p)) refl is (id_again_line ps n all.1)
  where
    go : (o : Option Named) → first_again (child_ids p) ≡ o → option_or o (first_id_again ps) ≡ Some n → (first_id_again ps ≡ Some n → IsOfLine n) → IsOfLine n
    go None at later rest = rest later
    go (Some m) at here rest =
        let same : m ≡ n = cc in
        subst IsOfLine same (met_line _ (child_ids p) m (ids_line p.app all.0.app (ids_in (tables_there p.library.tables))) at)

-- and of a module without a table its name.
named_line : (ps : List Part) (m : List ℕ) → AllByRecursion IsLinePart ps → IsNamedIn ps m → is_one_line m ≡ true
named_line ps _ all (as_top p m member top) = (of_member IsLinePart ps p all member).library.top m top
named_line ps _ all (as_child x s c member table child) =
    let module_line = of_member IsLineModule (modules_in ps) x (of_each IsLineModule IsLinePart modules_of part_modules_line ps all) member in
    of_member StartsOnLine s.children c (subst (OrNone IsLineTable) table module_line.table) child

fault_line : (ps : List Part) (f : Fault) → AllByRecursion IsLinePart ps → first_fault ps ≡ Some f → ReportsLine (refusal_for f)
fault_line ps f all is = of_modules (first_module_again ps) refl is
  where
    of_limits : (b : Bool) → (if b then None else Some passes_a_limit) ≡ Some f → ReportsLine (refusal_for f)
    of_limits true at = absurd cc
    of_limits false at = let same : passes_a_limit ≡ f = cc in subst (λ g. ReportsLine (refusal_for g)) same tt

    of_missing : (o : Option (List ℕ)) → first_missing ps ≡ o → option_or (option_map has_no_table o) (if keeps_limits ps then None else Some passes_a_limit) ≡ Some f → ReportsLine (refusal_for f)
    of_missing None found at = of_limits (keeps_limits ps) at
    of_missing (Some m) found at =
        let same : has_no_table m ≡ f = cc in
        subst (λ g. ReportsLine (refusal_for g)) same (named_line ps m all (missing_named ps m found))

    of_ids : (o : Option Named) → first_id_again ps ≡ o
        → option_or (option_map id_twice o) (option_or (option_map has_no_table (first_missing ps)) (if keeps_limits ps then None else Some passes_a_limit)) ≡ Some f → ReportsLine (refusal_for f)
    of_ids None found at = of_missing (first_missing ps) refl at
    of_ids (Some n) found at =
        let same : id_twice n ≡ f = cc in
        subst (λ g. ReportsLine (refusal_for g)) same (app_path_line n.app (id_again_line ps n all found))

    of_modules : (o : Option Named) → first_module_again ps ≡ o
        → option_or (option_map module_twice o) (option_or (option_map id_twice (first_id_again ps)) (option_or (option_map has_no_table (first_missing ps)) (if keeps_limits ps then None else Some passes_a_limit))) ≡ Some f
        → ReportsLine (refusal_for f)
    of_modules None found at = of_ids (first_id_again ps) refl at
    of_modules (Some n) found at =
        let same : module_twice n ≡ f = cc in
        let lines = names_line (modules_in ps) (of_each IsLineModule IsLinePart modules_of part_modules_line ps all) in
        subst (λ g. ReportsLine (refusal_for g)) same (app_path_line n.app (met_line _ (module_names (modules_in ps)) n lines found))

-- The libraries of such applications, and why they are refused.
good_read : (source : Source) (apps : List Application) (ls : List Library) (why : Option Refusal) → AllByRecursion IsLineApplication apps → LibrariesAt source apps ls why
    → AllByRecursion IsLineLibrary ls × OrNone ReportsLine why
good_read source [] [] None lines gives = (tt, tt)
good_read source [] [] (Some why) lines gives = absurd gives
good_read source [] (l ∷ ls) why lines gives = absurd gives
good_read source (a ∷ apps) [] None lines gives = absurd gives
good_read source (a ∷ apps) [] (Some why) lines gives = (tt, good_library source a lines.0 (Err why) gives)
good_read source (a ∷ apps) (l ∷ ls) why lines (here, later) =
    let (all, reported) = good_read source apps ls why lines.1 later in
    ((good_library source a lines.0 (Ok l) here, all), reported)

pub good_unpacking : (source : Source) (apps : List Application) (ls : List Library) (why : Option Refusal) → AllByRecursion IsLineApplication apps → UnpackedLibraries source apps ls why
    → AllByRecursion IsLineLibrary ls × OrNone ReportsLine why
good_unpacking source apps ls why lines (read, gives, is) =
    let (all, met) = good_read source apps ls read lines gives in
    (all, subst (OrNone ReportsLine) (sym is) (reported all read met (release_fault apps ls) refl))
  where
    reported : AllByRecursion IsLineLibrary ls → (met : Option Refusal) → OrNone ReportsLine met → (f : Option Fault) → release_fault apps ls ≡ f
        → OrNone ReportsLine (option_or met (option_map refusal_for f))
    reported all (Some w) line f at = line
    reported all None line None at = tt
    reported all None line (Some f) at = fault_line (parts apps ls) f (parts_line apps ls lines all) at
