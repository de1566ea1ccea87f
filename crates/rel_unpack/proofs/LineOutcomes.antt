-- What is reported of files stays within a line.
use Rattle.std.proofs.Common.{◌≡◌, inl, inr, ℕ, Bool, true, false, not, List, [], ◌∷◌, ◌++◌, length, map, codes, Option, Some, None, Result, Ok, Err, refl, sym, ap, ◌∙◌, subst, arith}
use Rattle.std.specs.Prelude.{◌==◌, if◌then◌else◌}
use Rattle.std.specs.List.{list_all, AllByRecursion}
use Rattle.std.specs.Str.{bytes_eq}
use Rattle.std.proofs.lemmas.Bool.{and_parts, and_from}
use Rattle.std.proofs.lemmas.Bool.Decides.{nat_tests}
use Rattle.std.proofs.lemmas.Slice.Eq.{bytes_eq-Decides}
use Rattle.erl_term.specs.Lexing.{is_in}
use Rattle.erl_term.specs.Lines.{is_one_line}
use Rattle.erl_term.specs.Value.{Value}
use Rattle.erl_term.proofs.Lines.{append_line}
use Rattle.rel_files.specs.File.{HasVersions}
use Rattle.rel_files.specs.Form.{AreAppSpecs, app_form_of}
use Rattle.rel_files.specs.Name.{IsName, IsVersion, is_name_byte}
use Rattle.rel_files.specs.Release.{Application, Release}
use Rattle.rel_files.specs.AppFile.{Specification}
use Rattle.rel_unpack.specs.Applications.{AppAt, app_form, is_named}
use Rattle.rel_unpack.specs.Order.{Outcome, Then, Each}
use Rattle.rel_unpack.specs.Paths.{app_path}
use Rattle.rel_unpack.specs.Refusal.{Refusal}
use Rattle.rel_unpack.specs.Refusal.Refusal.{missing_file, bad_file, vsn_mismatch, lib_differs, no_table, too_many, no_memory}
use Rattle.rel_unpack.specs.Refusal.Trouble.{unreadable, faulty, misshapen, faulty_relup}
use Rattle.rel_unpack.specs.Release.{Found, ReleaseAt, rel_form}
use Rattle.rel_check.specs.Limits.{is_small}
use Rattle.rel_unpack.specs.Source.{Source, Form, HasBytes, HasValue, FileSays, IfThere}

-- what a refusal reports is within a line
abbrev pub ReportsLine : Refusal → Type 0
ReportsLine (missing_file path) = is_one_line path ≡ true
ReportsLine (bad_file path trouble) = is_one_line path ≡ true
ReportsLine (vsn_mismatch path) = is_one_line path ≡ true
ReportsLine (lib_differs name) = is_one_line name ≡ true
ReportsLine (no_table name) = is_one_line name ≡ true
ReportsLine why = Unit {0}

-- A value has G, and a refusal reports what is within a line.
abbrev pub IsGood : {X : Type 0} → (X → Type 0) → Result X Refusal → Type 0
IsGood G (Ok x) = G x
IsGood G (Err why) = ReportsLine why

-- Each outcome is such a one.
abbrev pub AreGood : {X : Type 0} → Outcome X → (X → Type 0) → Type 0
AreGood {X} P G = (r : Result X Refusal) → P r → IsGood G r

pub good_outcome : {X : Type 0} (G : X → Type 0) (x : Result X Refusal) → IsGood G x → AreGood (λ r. r ≡ x) G
good_outcome G x good r is = subst (IsGood G) (sym is) good

-- First this, and then that.
pub good_then : {A B : Type 0} (P : Outcome A) (Q : A → Outcome B) (G : A → Type 0) (H : B → Type 0) → AreGood P G → ((a : A) → G a → AreGood (Q a) H) → AreGood (Then P Q) H
good_then P Q G H first next (Ok b) (a, p, q) = next a (first (Ok a) p) (Ok b) q
good_then P Q G H first next (Err e) (inl p) = first (Err e) p
good_then P Q G H first next (Err e) (inr (a, p, q)) = next a (first (Ok a) p) (Err e) q

-- Each in turn.
pub good_each : {A B : Type 0} (P : A → Outcome B) (K : A → Type 0) (G : B → Type 0) → ((a : A) → K a → AreGood (P a) G)
    → (as' : List A) → AllByRecursion K as' → AreGood (Each P as') (AllByRecursion G)
good_each P K G each [] all = good_outcome (AllByRecursion G) (Ok []) tt
good_each P K G each (a ∷ as') all =
    good_then (P a) (λ b. Then (Each P as') (λ bs t. t ≡ Ok (b ∷ bs))) G (AllByRecursion G) (each a all.0)
    (λ b first. good_then (Each P as') (λ bs t. t ≡ Ok (b ∷ bs)) (AllByRecursion G) (AllByRecursion G) (good_each P K G each as' all.1)
    (λ bs more. good_outcome (AllByRecursion G) (Ok (b ∷ bs)) (first, more)))

-- What is read of a file, if there is one.
abbrev pub OrNone : {X : Type 0} → (X → Type 0) → Option X → Type 0
OrNone G None = Unit {0}
OrNone G (Some x) = G x

pub good_where_there : {X : Type 0} (source : Source) (path : List ℕ) (P : Outcome X) (G : X → Type 0) → AreGood P G → AreGood (IfThere source path P) (OrNone G)
good_where_there source path P G good (Ok None) missing = tt
good_where_there source path P G good (Ok (Some x)) says = good (Ok x) says
good_where_there source path P G good (Err e) (other, says) = good (Err e) says

-- What a file of such a path says.
module _ {X : Type 0} (form : Form X) (source : Source) (path : List ℕ) (line : is_one_line path ≡ true) where
  good_bytes : (e : Refusal) → HasBytes source path (Err e) → ReportsLine e
  good_bytes (missing_file p) (is, has) = ap is_one_line is ∙ line
  good_bytes (bad_file p unreadable) (is, has) = ap is_one_line is ∙ line
  good_bytes (bad_file p (faulty f)) has = absurd has
  good_bytes (bad_file p misshapen) has = absurd has
  good_bytes (bad_file p (faulty_relup f)) has = absurd has
  good_bytes (vsn_mismatch p) has = absurd has
  good_bytes (lib_differs p) has = absurd has
  good_bytes (no_table p) has = absurd has
  good_bytes too_many has = tt
  good_bytes no_memory has = absurd has

  good_value : (bs : List ℕ) (e : Refusal) → HasValue form path bs (Err e) → ReportsLine e
  good_value bs (bad_file p t) (is, has) = ap is_one_line is ∙ line
  good_value bs (missing_file p) has = absurd has
  good_value bs (vsn_mismatch p) has = absurd has
  good_value bs (lib_differs p) has = absurd has
  good_value bs (no_table p) has = absurd has
  good_value bs too_many has = absurd has
  good_value bs no_memory has = absurd has

  -- it says this
  abbrev pub IsSaid : X → Type 0
  IsSaid x = (bytes : List ℕ) × form.says bytes x

  pub good_file : AreGood (FileSays form source path) IsSaid
  good_file (Ok x) (bs, reads, says) = (bs, says)
  good_file (Err e) (inl has) = good_bytes e has
  good_file (Err e) (inr (bs, reads, has)) = good_value bs e has

  -- or nothing, where there is none
  abbrev pub IsSaidOrNone : Option X → Type 0
  IsSaidOrNone x = OrNone IsSaid x

  pub good_if_there : AreGood (IfThere source path (FileSays form source path)) IsSaidOrNone
  good_if_there = good_where_there source path (FileSays form source path) IsSaid good_file

-- A name and a version are within a line,
name_bytes_line : (s : List ℕ) → list_all is_name_byte s ≡ true → is_one_line s ≡ true
name_bytes_line [] all = refl
name_bytes_line (b ∷ s) all =
    let (here, more) = and_parts (is_name_byte b) (list_all is_name_byte s) all in
    let line : not (b == 10) ≡ true = grind (arith, nat_tests) in
    and_from (not (b == 10)) (is_one_line s) line (name_bytes_line s more)

pub name_line : (s : List ℕ) → IsName s → is_one_line s ≡ true
name_line s name = name_bytes_line s (and_parts (is_in 1 255 (length s)) (list_all is_name_byte s) name).1

version_bytes_line : (s : List ℕ) → list_all (is_in 0x21 0x7E) s ≡ true → is_one_line s ≡ true
version_bytes_line [] all = refl
version_bytes_line (b ∷ s) all =
    let (here, more) = and_parts (is_in 0x21 0x7E b) (list_all (is_in 0x21 0x7E) s) all in
    let line : not (b == 10) ≡ true = grind (arith, nat_tests) in
    and_from (not (b == 10)) (is_one_line s) line (version_bytes_line s more)

pub version_line : (s : List ℕ) → IsVersion s → is_one_line s ≡ true
version_line s version = version_bytes_line s (and_parts (is_in 1 62 (length s)) (list_all (is_in 0x21 0x7E) s) version).1

-- so those of an application are,
pub record HasLines (name vsn : List ℕ) : Type 0 where
  pub own : is_one_line name ≡ true
  pub version : is_one_line vsn ≡ true

abbrev pub IsLineApplication : Application → Type 0
IsLineApplication a = HasLines a.name a.vsn

-- and the path of its file.
pub folder_line : (name vsn file : List ℕ) → HasLines name vsn → is_one_line file ≡ true
    → is_one_line (codes "lib/" ++ (name ++ (codes "-" ++ (vsn ++ (codes "/ebin/" ++ file))))) ≡ true
folder_line name vsn file lines line =
    append_line name (codes "-" ++ (vsn ++ (codes "/ebin/" ++ file))) lines.own
    (append_line vsn (codes "/ebin/" ++ file) lines.version (append_line (codes "/ebin/") file refl line))

pub app_path_line : (a : Application) → IsLineApplication a → is_one_line (app_path a) ≡ true
app_path_line a lines = folder_line a.name a.vsn (a.name ++ codes ".app") lines (append_line a.name (codes ".app") lines.own refl)

-- A release has the versions of a file, and applications that are reported within a line.
pub record IsLineRelease (r : Release) : Type 0 where
  pub versions : HasVersions r
  pub apps : AllByRecursion IsLineApplication r.apps

applications_line : (vs : List Value) (apps : List Application) → AreAppSpecs vs (map app_form_of apps) → AllByRecursion (λ (a : Application). IsVersion a.vsn) apps
    → AllByRecursion IsLineApplication apps
applications_line vs [] are versions = tt
applications_line [] (a ∷ apps) are versions = absurd are
applications_line (v ∷ vs) (a ∷ apps) (is, are) (version, versions) =
    (record { own = name_line a.name is.name; version = version_line a.vsn version }, applications_line vs apps are versions)

abbrev pub IsLineFound : Found → Type 0
IsLineFound f = IsLineRelease f.release

said_line : (source : Source) (path : List ℕ) (line : is_one_line path ≡ true) (f : Found) → IsSaid rel_form source path line f → IsLineFound f
said_line source path line f (bytes, (has, says)) = record {
  versions = says.versions;
  apps = applications_line says.shape.apps f.release.apps says.shape.each says.versions.apps;
}

pub tested : {X : Type 0} (G : X → Type 0) (x : X) (why : Refusal) → ReportsLine why → (b : Bool) → (b ≡ true → G x) → IsGood G (if b then Ok x else Err why)
tested G x why line true good = good refl
tested G x why line false good = line

pub good_release : (source : Source) (path : List ℕ) → is_one_line path ≡ true → AreGood (ReleaseAt source path) IsLineFound
good_release source path line =
    good_then (FileSays rel_form source path) _ (IsSaid rel_form source path line) IsLineFound (good_file rel_form source path line)
    (λ f said. good_outcome IsLineFound _ (tested IsLineFound f too_many tt (is_small f.release) (λ small. said_line source path line f said)))

-- The specification of such an application is of its name and its version.
abbrev pub IsLineSpecification : Specification → Type 0
IsLineSpecification s = HasLines s.name s.vsn

pub specification_line : (a : Application) (s : Specification) → IsLineApplication a → is_named a s ≡ true → IsLineSpecification s
specification_line a s lines is =
    let (name, vsn) = and_parts (bytes_eq s.name a.name) (bytes_eq s.vsn a.vsn) is in
    let same_name : s.name ≡ a.name = (bytes_eq-Decides s.name a.name).0 name in
    let same_vsn : s.vsn ≡ a.vsn = (bytes_eq-Decides s.vsn a.vsn).0 vsn in
    record { own = ap is_one_line same_name ∙ lines.own; version = ap is_one_line same_vsn ∙ lines.version }

pub good_application : (source : Source) (a : Application) → IsLineApplication a → AreGood (AppAt source a) IsLineSpecification
good_application source a lines =
    let line = app_path_line a lines in
    good_then (FileSays app_form source (app_path a)) _ (IsSaid app_form source (app_path a) line) IsLineSpecification (good_file app_form source (app_path a) line)
    (λ s said. good_outcome IsLineSpecification _ (tested IsLineSpecification s (vsn_mismatch (app_path a)) line (is_named a s) (specification_line a s lines)))
