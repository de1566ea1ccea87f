-- Tables of libraries have versions, and so has what is loaded and what starts with them.
use Rattle.std.proofs.Common.{◌≡◌, ℕ, ◌-◌, zero, suc, Bool, true, false, List, [], ◌∷◌, ◌++◌, map, get_or, set, Option, Some, None, Ordering, Less, Equal, Greater, cond, if◌then◌else◌}
use Rattle.std.specs.BTreeMap.{insert_entry}
use Rattle.std.specs.Cmp.Lexicographic.{slice_cmp}
use Rattle.std.specs.List.{AllByRecursion, flat_map, slice_get, list_all, filter, find}
use Rattle.std.specs.Option.{option_or, option_and_then}
use Rattle.std.specs.Ordering.{nat_cmp, match_ordering}
use Rattle.std.specs.Str.{bytes_eq}
use Rattle.std.proofs.lemmas.Bool.{and_parts}
use Rattle.rel_files.specs.Name.{IsVersion, is_text}
use Rattle.rel_list.specs.Releases.{Releases, Entry}
use Rattle.rel_files.specs.AppFile.{Specification}
use Rattle.mod_table.specs.declared.child.ChildKind.{ChildKind}
use Rattle.mod_table.specs.declared.child.ChildKind.TheVariants as kind
use Rattle.mod_table.specs.declared.table.Table.{Table}
use Rattle.mod_table.specs.declared.table.Table.TheVariants.{Worker, Super}
use Rattle.mod_table.specs.File.{versions_of}
use Rattle.worker_table.specs.Headed.{row_has_version}
use Rattle.mod_table.specs.Table.{ChildSpec}
use Rattle.library.specs.Library.{Library, TableTerm, HaveTables, IsLibrary, is_at}
use Rattle.mod_table.specs.Tables.{Tables, of_kind, child_table}
use Rattle.loaded_modules.specs.Loaded.{Module, NamedModules, libraries_behind, loaded_behind, module_of, modules_with, modules_of, named_modules, library_modules, module_named, with_loaded}
use Rattle.app_members.specs.Walk.{NewMember, Start, app_members, app_starts, child_members, children_members, lone_members, members_at_top, members_from, start_in, starts_among}
use Rattle.node_processes.specs.Fresh.{tables_in}
use Rattle.node_processes.specs.ModuleVersions.{HasTableVersion}
use Rattle.script_progress.specs.Script.{fetched_from, fetched_of}

-- what holds of one, where there is one
abbrev pub OrNone : {X : Type 0} → (X → Type 0) → Option X → Type 0
OrNone P None = Unit {0}
OrNone P (Some x) = P x

-- what holds of each of these holds of the one in a place, and of all where another is put there
module _ {X : Type 0} (P : X → Type 0) where
  pub each_at : (xs : List X) (i : ℕ) (d : X) → AllByRecursion P xs → P d → P (get_or xs i d)
  each_at [] i d all last = last
  each_at (x ∷ xs) zero d all last = all.0
  each_at (x ∷ xs) (suc i) d all last = each_at xs i d all.1 last

  pub each_set : (xs : List X) (i : ℕ) (x : X) → AllByRecursion P xs → P x → AllByRecursion P (set xs i x)
  each_set [] i x all has = tt
  each_set (y ∷ xs) zero x all has = (has, all.1)
  each_set (y ∷ xs) (suc i) x all has = (all.0, each_set xs i x all.1 has)

  pub each_got : (xs : List X) (i : ℕ) → AllByRecursion P xs → OrNone P (slice_get xs i)
  each_got [] i all = tt
  each_got (x ∷ xs) zero all = all.0
  each_got (x ∷ xs) (suc i) all = each_got xs i all.1

  pub each_mapped : {Y : Type 0} (f : Y → X) → ((y : Y) → P (f y)) → (ys : List Y) → AllByRecursion P (map f ys)
  each_mapped f has [] = tt
  each_mapped f has (y ∷ ys) = (has y, each_mapped f has ys)

  pub each_image : {Y : Type 0} (Q : Y → Type 0) (f : Y → X) → ((y : Y) → Q y → P (f y)) → (ys : List Y) → AllByRecursion Q ys → AllByRecursion P (map f ys)
  each_image Q f has [] all = tt
  each_image Q f has (y ∷ ys) all = (has y all.0, each_image Q f has ys all.1)

  pub each_append : (xs ys : List X) → AllByRecursion P xs → AllByRecursion P ys → AllByRecursion P (xs ++ ys)
  each_append [] ys all more = more
  each_append (x ∷ xs) ys all more = (all.0, each_append xs ys all.1 more)

  pub each_flat : {Y : Type 0} (f : Y → List X) → ((y : Y) → AllByRecursion P (f y)) → (ys : List Y) → AllByRecursion P (flat_map f ys)
  each_flat f has [] = tt
  each_flat f has (y ∷ ys) = each_append (f y) (flat_map f ys) (has y) (each_flat f has ys)

  -- of the one that is found, of those that are kept, and of those of several lists
  pub each_found : (test : X → Bool) (xs : List X) → AllByRecursion P xs → OrNone P (find test xs)
  each_found test [] all = tt
  each_found test (x ∷ xs) all = by (test x) (each_found test xs all.1)
    where
      by : (b : Bool) → OrNone P (find test xs) → OrNone P (cond b (Some x) (find test xs))
      by true later = all.0
      by false later = later

  pub each_kept : (test : X → Bool) (xs : List X) → AllByRecursion P xs → AllByRecursion P (filter test xs)
  each_kept test [] all = tt
  each_kept test (x ∷ xs) all = by (test x) (each_kept test xs all.1)
    where
      by : (b : Bool) → AllByRecursion P (filter test xs) → AllByRecursion P (cond b (x ∷ filter test xs) (filter test xs))
      by true later = (all.0, later)
      by false later = later

  pub each_joined : {Y : Type 0} (f : Y → List X) (ys : List Y) → AllByRecursion (λ y. AllByRecursion P (f y)) ys → AllByRecursion P (flat_map f ys)
  each_joined f [] all = tt
  each_joined f (y ∷ ys) all = each_append (f y) (flat_map f ys) all.0 (each_joined f ys all.1)

-- a module that is loaded has such a table
abbrev pub HasVersion : Module → Type 0
HasVersion m = HasTableVersion m.table

abbrev pub HasNamedVersion : List ℕ × Module → Type 0
HasNamedVersion m = HasTableVersion m.1.table

table_version : (t : Table) → versions_of t ≡ true → HasTableVersion (Some t)
table_version (Worker w) versions = (and_parts (is_text 0x21 w.vsn) (list_all row_has_version w.rows) versions).0
table_version (Super s) versions = tt

either_module : (o p : Option Module) → OrNone HasVersion o → OrNone HasVersion p → OrNone HasVersion (option_or o p)
either_module None p one other = other
either_module (Some m) p one other = one

named_module : (b : Bool) (m : Module) → HasVersion m → OrNone HasVersion (if b then Some m else None)
named_module true m version = version
named_module false m version = tt

pub module_versions : (app : Specification) (ms : List (List ℕ)) (ts : List (Option TableTerm)) (name : List ℕ) → HaveTables ms ts → OrNone HasVersion (modules_with app ms ts name)
module_versions app [] ts name have = tt
module_versions app (m ∷ ms) [] name have = tt
module_versions app (m ∷ ms) (None ∷ ts) name have = either_module (modules_with app ms ts name) _ (module_versions app ms ts name have) (named_module (bytes_eq m name) (module_of app None) tt)
module_versions app (m ∷ ms) (Some t ∷ ts) name (says, own, have) =
    either_module (modules_with app ms ts name) _ (module_versions app ms ts name have) (named_module (bytes_eq m name) (module_of app (Some t)) (table_version t.table says.versions))

library_versions : (ls : List Library) (name : List ℕ) → AllByRecursion IsLibrary ls → OrNone HasVersion (modules_of ls name)
library_versions [] name all = tt
library_versions (l ∷ ls) name all = either_module (modules_of ls name) _ (library_versions ls name all.1) (module_versions l.app l.app.modules l.tables name all.0.tables)

-- Modules have versions of files still after one with such a version was loaded, in place of another or not.
pub put_version : (name : List ℕ) (m : Module) (ms : NamedModules) → HasVersion m → AllByRecursion HasNamedVersion ms → AllByRecursion HasNamedVersion (insert_entry (slice_cmp nat_cmp) ms name m)
put_version name m [] version all = (version, tt)
put_version name m (k ∷ ks) version all = by (slice_cmp nat_cmp name k.0) (put_version name m ks version all.1)
  where
    by : (r : Ordering) → AllByRecursion HasNamedVersion (insert_entry (slice_cmp nat_cmp) ks name m)
        → AllByRecursion HasNamedVersion (match_ordering r ((name, m) ∷ k ∷ ks) ((k.0, m) ∷ ks) (k ∷ insert_entry (slice_cmp nat_cmp) ks name m))
    by Less later = (version, all)
    by Equal later = (version, all.1)
    by Greater later = (all.0, later)

named_versions : (app : Specification) (ms : List (List ℕ)) (ts : List (Option TableTerm)) → HaveTables ms ts → AllByRecursion HasNamedVersion (named_modules app ms ts)
named_versions app [] ts have = tt
named_versions app (m ∷ ms) [] have = tt
named_versions app (m ∷ ms) (None ∷ ts) have = (tt, named_versions app ms ts have)
named_versions app (m ∷ ms) (Some t ∷ ts) (says, own, have) = (table_version t.table says.versions, named_versions app ms ts have)

loaded_versions : (before ms : NamedModules) → AllByRecursion HasNamedVersion before → AllByRecursion HasNamedVersion ms → AllByRecursion HasNamedVersion (loaded_behind before ms)
loaded_versions before [] all more = all
loaded_versions before (m ∷ ms) all more = loaded_versions (insert_entry (slice_cmp nat_cmp) before m.0 m.1) ms (put_version m.0 m.1 before more.0 all) more.1

pub listed_versions : (before : NamedModules) (ls : List Library) → AllByRecursion HasNamedVersion before → AllByRecursion IsLibrary ls → AllByRecursion HasNamedVersion (libraries_behind before ls)
listed_versions before [] all are = all
listed_versions before (l ∷ ls) all are =
    listed_versions (loaded_behind before (named_modules l.app l.app.modules l.tables)) ls
    (loaded_versions before (named_modules l.app l.app.modules l.tables) all (named_versions l.app l.app.modules l.tables are.0.tables)) are.1

-- The tables of libraries have versions of files.
abbrev pub HaveTableVersions : Tables → Type 0
HaveTableVersions tables = (name : List ℕ) → HasTableVersion (tables name)

pub module_table : (o : Option Module) → OrNone HasVersion o → HasTableVersion (option_and_then (λ (m : Module). m.table) o)
module_table None version = tt
module_table (Some m) version = version

pub table_versions : (ls : List Library) → AllByRecursion IsLibrary ls → HaveTableVersions (tables_in ls)
table_versions ls all name = module_table (modules_of ls name) (library_versions ls name all)

-- A process is started with a table that has a version of files.
abbrev pub StartsVersion : Start → Type 0
StartsVersion s = IsVersion s.table.vsn

kind_version : (k : ChildKind) (o : Option Table) → HasTableVersion o → HasTableVersion (option_and_then (of_kind k) o)
kind_version k None version = tt
kind_version kind.Worker (Some (Worker w)) version = version
kind_version kind.Worker (Some (Super s)) version = tt
kind_version kind.Supervisor (Some (Worker w)) version = tt
kind_version kind.Supervisor (Some (Super s)) version = tt

-- a member whose table, if it is that of a worker, does
MemberVersion : NewMember → Type 0
MemberVersion m = HasTableVersion (Some m.table)

member_versions : (n : ℕ) (tables : Tables) → HaveTableVersions tables → (depth : ℕ) (cs : List ChildSpec) → AllByRecursion MemberVersion (children_members n tables depth cs)
unfolding MemberVersion children_members
member_versions zero tables versions depth cs = tt
member_versions (suc n) tables versions depth cs =
    each_flat MemberVersion (λ (c : ChildSpec). child_members (children_members n tables (suc depth)) depth c (child_table tables c))
    (λ c. go c (child_table tables c) (kind_version c.kind (tables c.start) (versions c.start)) (member_versions n tables versions (suc depth))) cs
  where
    go : (c : ChildSpec) (t : Option Table) → HasTableVersion t → ((below : List ChildSpec) → AllByRecursion MemberVersion (children_members n tables (suc depth) below))
        → AllByRecursion MemberVersion (child_members (children_members n tables (suc depth)) depth c t)
    go c None version below = tt
    go c (Some (Worker w)) version below = (version, tt)
    go c (Some (Super s)) version below = (version, below s.children)

top_versions : (tables : Tables) → HaveTableVersions tables → (top : Option (List ℕ)) → AllByRecursion MemberVersion (app_members tables top)
unfolding MemberVersion
top_versions tables versions None = tt
top_versions tables versions (Some m) = go (tables m)
  where
    go : (t : Option Table) → AllByRecursion MemberVersion (members_at_top tables m t)
    go None = tt
    go (Some (Worker w)) = tt
    go (Some (Super s)) = (tt, member_versions 8 tables versions 1 s.children)

among_members : (ms : List NewMember) → AllByRecursion MemberVersion ms → AllByRecursion StartsVersion (starts_among ms)
unfolding MemberVersion
among_members [] all = tt
among_members (m ∷ ms) all = each_append StartsVersion (start_in m.child m.table) (starts_among ms) (go m.table all.0) (among_members ms all.1)
  where
    go : (t : Table) → HasTableVersion (Some t) → AllByRecursion StartsVersion (start_in m.child t)
    go (Worker w) version = (version, tt)
    go (Super s) version = tt

-- a child, and those below it
lone_versions : (tables : Tables) → HaveTableVersions tables → (n depth : ℕ) (c : ChildSpec) → AllByRecursion MemberVersion (members_from n tables depth c)
unfolding MemberVersion
lone_versions tables versions n depth c = go (child_table tables c) (kind_version c.kind (tables c.start) (versions c.start))
  where
    go : (t : Option Table) → HasTableVersion t → AllByRecursion MemberVersion (child_members (children_members n tables (suc depth)) depth c t)
    go None version = tt
    go (Some (Worker w)) version = (version, tt)
    go (Some (Super s)) version = (version, member_versions n tables versions (suc depth) s.children)

pub child_starts_versions : (tables : Tables) → HaveTableVersions tables → (depth : ℕ) (c : ChildSpec) → AllByRecursion StartsVersion (starts_among (lone_members tables depth c))
child_starts_versions tables versions depth c = among_members (lone_members tables depth c) (lone_versions tables versions (8 - depth) depth c)

pub start_versions : (tables : Tables) → HaveTableVersions tables → (top : Option (List ℕ)) → AllByRecursion StartsVersion (app_starts tables top)
start_versions tables versions top = among_members (app_members tables top) (top_versions tables versions top)

-- modules that are fetched and loaded
abbrev pub HaveVersions : NamedModules → Type 0
HaveVersions ms = AllByRecursion HasNamedVersion ms

pub found_version : (name : List ℕ) (ms : NamedModules) → HaveVersions ms → OrNone HasVersion (module_named name ms)
found_version name [] all = tt
found_version name (m ∷ ms) all = by (bytes_eq name m.0) (found_version name ms all.1)
  where
    by : (b : Bool) → OrNone HasVersion (module_named name ms) → OrNone HasVersion (cond b (Some m.1) (module_named name ms))
    by true later = all.0
    by false later = later

pub with_versions : (o : Option Module) (name : List ℕ) (ms : NamedModules) → OrNone HasVersion o → HaveVersions ms → HaveVersions (with_loaded o name ms)
with_versions None name ms version all = all
with_versions (Some m) name ms version all = put_version name m ms version all

fetched_versions : (l : Library) (names : List (List ℕ)) (ms : NamedModules) → IsLibrary l → HaveVersions ms → HaveVersions (fetched_of l names ms)
fetched_versions l [] ms is all = all
fetched_versions l (n ∷ ns) ms is all =
    fetched_versions l ns (with_loaded (library_modules l n) n ms) is (with_versions (library_modules l n) n ms (module_versions l.app l.app.modules l.tables n is.tables) all)

pub from_versions : (o : Option Library) (names : List (List ℕ)) (ms : NamedModules) → OrNone IsLibrary o → HaveVersions ms → HaveVersions (fetched_from o names ms)
from_versions None names ms is all = all
from_versions (Some l) names ms is all = fetched_versions l names ms is all

-- the libraries of each release are what files say
abbrev pub AreWithLibraries : Releases → Type 0
AreWithLibraries es = AllByRecursion (λ (e : Entry). AllByRecursion IsLibrary e.libraries) es

pub library_is : (es : Releases) (name vsn : List ℕ) → AreWithLibraries es → OrNone IsLibrary (find (is_at name vsn) (flat_map (λ (e : Entry). e.libraries) es))
library_is es name vsn all = each_found IsLibrary (is_at name vsn) (flat_map (λ (e : Entry). e.libraries) es) (each_joined IsLibrary (λ (e : Entry). e.libraries) es all)
