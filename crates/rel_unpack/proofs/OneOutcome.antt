-- What files say has one outcome at most, where each path of their source has one answer.
use Rattle.std.proofs.Common.{◌≡◌, ◌≢◌, ◌⊎◌, inl, inr, ℕ, Bool, true, false, List, [], ◌∷◌, Option, Some, None, Result, Ok, Err, refl, sym, ap, ◌∙◌, subst}
use Rattle.std.specs.Prelude.{if◌then◌else◌}
use Rattle.std.specs.Option.{option_map, option_or}
use Rattle.file_source.specs.declared.files.FilesError.{FilesError}
use Rattle.file_source.specs.declared.files.FilesError.TheVariants as read
use Rattle.rel_files.proofs.OneFault.{one_fault, never_says_and_fails, says_one}
use Rattle.rel_files.proofs.OneTermFile.{one_value as one_file_value}
use Rattle.rel_files.proofs.KindFiles as kind
use Rattle.rel_files.specs.Fault.{Fault}
use Rattle.rel_files.specs.Release.{Application}
use Rattle.rel_files.specs.AppFile.{app_files}
use Rattle.library.specs.Library.{Library}
use Rattle.mod_table.specs.File.{mod_files}
use Rattle.rel_check.specs.Fault.{release_fault}
use Rattle.rel_check.specs.Relup.{relup_mismatch}
use Rattle.relup_file.proofs.FileLemmas as relup
use Rattle.relup_file.specs.File.{IsRelupFault}
use Rattle.relup_file.specs.declared.fault.RelupFault.{RelupFault}
use Rattle.rel_unpack.specs.Applications.{AppAt, LibraryAt, LibrariesAt, ModuleAt, TableAt, app_form, is_of, mod_form}
use Rattle.rel_unpack.specs.Order.{Outcome, Then, Each}
use Rattle.rel_unpack.specs.Paths.{mod_path}
use Rattle.rel_unpack.specs.Refusal.{Refusal, Trouble, IsFault, IsRelupTrouble, is_missing}
use Rattle.rel_unpack.specs.Refusal.Refusal.{missing_file, bad_file, vsn_mismatch, lib_differs, no_table, too_many, no_memory}
use Rattle.rel_unpack.specs.Refusal.Trouble.{unreadable, faulty, misshapen, faulty_relup}
use Rattle.rel_unpack.specs.Release.{Found, ReleaseAt, rel_form}
use Rattle.rel_unpack.specs.Source.{Source, Form, GivesOne, HasBytes, HasValue, FileSays, IfThere}
use Rattle.rel_unpack.specs.Relup.{RelupAt, RelupIn, relup_form, relup_path, unless_mismatch}
use Rattle.rel_unpack.specs.Unpacking.{BroughtAt, RelupRead, UnpackedLibraries, WithFiles, brought_with, refusal_for}

abbrev pub IsOne : {X : Type 0} → Outcome X → Type 0
IsOne {X} P = (a b : Result X Refusal) → P a → P b → a ≡ b

-- This is the outcome.
pub one_outcome : {X : Type 0} (x : Result X Refusal) → IsOne (λ r. r ≡ x)
one_outcome x r s is also = is ∙ sym also

-- First this, and then that.
module _ {A B : Type 0} (P : Outcome A) (Q : A → Outcome B) (one : IsOne P) (next : (a : A) → IsOne (Q a)) where
  same : (x y : A) → P (Ok x) → P (Ok y) → x ≡ y
  same x y p q = let e : Ok x ≡ Ok y = one (Ok x) (Ok y) p q in cc

  never : (x : A) (e : Refusal) → P (Ok x) → P (Err e) → ⊥
  never x e p q = let d : Ok x ≡ Err e = one (Ok x) (Err e) p q in cc

  behind : (x y : A) (r s : Result B Refusal) → P (Ok x) → P (Ok y) → Q x r → Q y s → r ≡ s
  behind x y r s p q here there = next x r s here (subst (λ a. Q a s) (sym (same x y p q)) there)

  pub one_then : IsOne (Then P Q)
  one_then (Ok b) (Ok c) (x, p, q) (y, p', q') = behind x y (Ok b) (Ok c) p p' q q'
  one_then (Ok b) (Err e) (x, p, q) (inl p') = absurd (never x e p p')
  one_then (Ok b) (Err e) (x, p, q) (inr (y, p', q')) = behind x y (Ok b) (Err e) p p' q q'
  one_then (Err e) (Ok b) (inl p) (y, p', q') = absurd (never y e p' p)
  one_then (Err e) (Ok b) (inr (x, p, q)) (y, p', q') = behind x y (Err e) (Ok b) p p' q q'
  one_then (Err e) (Err f) (inl p) (inl p') = let d : Err e ≡ Err f = one (Err e) (Err f) p p' in cc
  one_then (Err e) (Err f) (inl p) (inr (y, p', q')) = absurd (never y e p' p)
  one_then (Err e) (Err f) (inr (x, p, q)) (inl p') = absurd (never x f p p')
  one_then (Err e) (Err f) (inr (x, p, q)) (inr (y, p', q')) = behind x y (Err e) (Err f) p p' q q'

-- Each in turn.
pub one_each : {A B : Type 0} (P : A → Outcome B) → ((a : A) → IsOne (P a)) → (as' : List A) → IsOne (Each P as')
one_each P one [] r s is also = is ∙ sym also
one_each P one (a ∷ as') r s is also =
    one_then (P a) (λ b. Then (Each P as') (λ bs t. t ≡ Ok (b ∷ bs))) (one a)
    (λ b. one_then (Each P as') (λ bs t. t ≡ Ok (b ∷ bs)) (one_each P one as') (λ bs. one_outcome (Ok (b ∷ bs)))) r s is also

-- what a read comes to
abbrev outcome_of : List ℕ → Result (List ℕ) FilesError → Result (List ℕ) Refusal
outcome_of path (Ok bs) = Ok bs
outcome_of path (Err read.Missing) = Err (missing_file path)
outcome_of path (Err read.Unreadable) = Err (bad_file path unreadable)
outcome_of path (Err read.TooLarge) = Err too_many
outcome_of path (Err read.NoMemory) = Err no_memory

was_read : (source : Source) (path : List ℕ) (r : Result (List ℕ) Refusal) → HasBytes source path r → (a : Result (List ℕ) FilesError) × source path a × (r ≡ outcome_of path a)
was_read source path (Ok bs) has = (Ok bs, has, refl)
was_read source path (Err (missing_file p)) (is, has) = (Err read.Missing, has, ap (λ q. Err (missing_file q)) is)
was_read source path (Err (bad_file p unreadable)) (is, has) = (Err read.Unreadable, has, ap (λ q. Err (bad_file q unreadable)) is)
was_read source path (Err (bad_file p (faulty f))) has = absurd has
was_read source path (Err (bad_file p misshapen)) has = absurd has
was_read source path (Err (bad_file p (faulty_relup f))) has = absurd has
was_read source path (Err (vsn_mismatch p)) has = absurd has
was_read source path (Err (lib_differs p)) has = absurd has
was_read source path (Err (no_table p)) has = absurd has
was_read source path (Err too_many) has = (Err read.TooLarge, has, refl)
was_read source path (Err no_memory) has = absurd has

one_bytes : (source : Source) → GivesOne source → (path : List ℕ) → IsOne (HasBytes source path)
one_bytes source one path r s has also =
    let (a, reads, is) = was_read source path r has in
    let (b, reads_too, is_too) = was_read source path s also in
    is ∙ ap (outcome_of path) (one path a b reads reads_too) ∙ sym is_too

-- Bytes say one thing of a kind, or have one trouble.
pub record SaysOne {X : Type 0} (form : Form X) : Type 0 where
  pub one_value : (bytes : List ℕ) (x y : X) → form.says bytes x → form.says bytes y → x ≡ y
  pub one_trouble : (bytes : List ℕ) (t u : Trouble) → form.fails bytes t → form.fails bytes u → t ≡ u
  pub never_both : (bytes : List ℕ) (x : X) (t : Trouble) → form.says bytes x → form.fails bytes t → ⊥

-- A file that is there was read, and not missing.
abbrev IsThere : Source → List ℕ → Type 0
IsThere source path = (a : Result (List ℕ) FilesError) × source path a × (a ≢ Err read.Missing)

-- this outcome reports a missing file
abbrev reports_missing : {X : Type 0} → Result X Refusal → Bool
reports_missing (Ok x) = false
reports_missing (Err e) = is_missing e

-- What is read of a file, if there is one, where all but a missing file is reported of a file that is there.
module _ {X : Type 0} (source : Source) (one : GivesOne source) (path : List ℕ) (P : Outcome X) (only : IsOne P) (there : (r : Result X Refusal) → reports_missing r ≡ false → P r → IsThere source path) where
  never_missing : (r : Result X Refusal) → reports_missing r ≡ false → P r → source path (Err read.Missing) → ⊥
  never_missing r other says missing = let (a, reads, other_read) = there r other says in other_read (one path a (Err read.Missing) reads missing)

  pub one_where_there : IsOne (IfThere source path P)
  one_where_there (Ok None) (Ok None) missing again = refl
  one_where_there (Ok None) (Ok (Some y)) missing says = absurd (never_missing (Ok y) refl says missing)
  one_where_there (Ok None) (Err e) missing (other, says) = absurd (never_missing (Err e) other says missing)
  one_where_there (Ok (Some x)) (Ok None) says missing = absurd (never_missing (Ok x) refl says missing)
  one_where_there (Ok (Some x)) (Ok (Some y)) says also =
      let same : Ok x ≡ Ok y = only (Ok x) (Ok y) says also in
      let value : x ≡ y = cc in
      ap (λ (z : X). Ok (Some z)) value
  one_where_there (Ok (Some x)) (Err e) says (other, also) = let never : Ok x ≡ Err e = only (Ok x) (Err e) says also in absurd cc
  one_where_there (Err e) (Ok None) (other, says) missing = absurd (never_missing (Err e) other says missing)
  one_where_there (Err e) (Ok (Some y)) (other, says) also = let never : Err e ≡ Ok y = only (Err e) (Ok y) says also in absurd cc
  one_where_there (Err e) (Err f) (other, says) (again, also) =
      let same : Err e ≡ Err f = only (Err e) (Err f) says also in
      let refusal : e ≡ f = cc in
      ap (λ (z : Refusal). Err z) refusal

module _ {X : Type 0} (form : Form X) (laws : SaysOne form) (source : Source) (one : GivesOne source) (path : List ℕ) where
  -- what the bytes come to
  abbrev Reported : List ℕ → Result X Refusal → Type 0
  Reported bs r = ((x : X) × form.says bs x × (r ≡ Ok x)) ⊎ ((t : Trouble) × form.fails bs t × (r ≡ Err (bad_file path t)))

  was_reported : (bs : List ℕ) (r : Result X Refusal) → HasValue form path bs r → Reported bs r
  was_reported bs (Ok x) says = inl (x, says, refl)
  was_reported bs (Err (bad_file p t)) (is, has) = inr (t, has, ap (λ q. Err (bad_file q t)) is)
  was_reported bs (Err (missing_file p)) has = absurd has
  was_reported bs (Err (vsn_mismatch p)) has = absurd has
  was_reported bs (Err (lib_differs p)) has = absurd has
  was_reported bs (Err (no_table p)) has = absurd has
  was_reported bs (Err too_many) has = absurd has
  was_reported bs (Err no_memory) has = absurd has

  one_reported : (bs : List ℕ) (r s : Result X Refusal) → Reported bs r → Reported bs s → r ≡ s
  one_reported bs r s (inl (x, says, is)) (inl (y, says_too, also)) = is ∙ ap (λ (z : X). Ok z) (laws.one_value bs x y says says_too) ∙ sym also
  one_reported bs r s (inl (x, says, is)) (inr (t, has, also)) = absurd (laws.never_both bs x t says has)
  one_reported bs r s (inr (t, has, is)) (inl (x, says, also)) = absurd (laws.never_both bs x t says has)
  one_reported bs r s (inr (t, has, is)) (inr (u, has_too, also)) = is ∙ ap (λ (z : Trouble). Err (bad_file path z)) (laws.one_trouble bs t u has has_too) ∙ sym also

  one_value : (bs : List ℕ) → IsOne (HasValue form path bs)
  one_value bs r s has also = one_reported bs r s (was_reported bs r has) (was_reported bs s also)

  pub one_file : IsOne (FileSays form source path)
  one_file = one_then (HasBytes source path) (HasValue form path) (one_bytes source one path) one_value

  -- A file that says something, or is refused for something else than that it is missing, is there.
  refused_there : (e : Refusal) → is_missing e ≡ false → HasBytes source path (Err e) → IsThere source path
  refused_there e other has =
      let (a, reads, is) = was_read source path (Err e) has in
      (a, reads, λ missing. let same : Err e ≡ Err (missing_file path) = is ∙ ap (outcome_of path) missing in let is_one : e ≡ missing_file path = cc in let never : true ≡ false = sym (ap is_missing is_one) ∙ other in cc)

  refusal_there : (e : Refusal) → is_missing e ≡ false → FileSays form source path (Err e) → IsThere source path
  refusal_there e other (inl has) = refused_there e other has
  refusal_there e other (inr (bs, reads, has)) = (Ok bs, reads, λ never. cc never)

  file_there : (r : Result X Refusal) → reports_missing r ≡ false → FileSays form source path r → IsThere source path
  file_there (Ok x) other (bs, reads, says) = (Ok bs, reads, λ never. cc never)
  file_there (Err e) other says = refusal_there e other says

  pub one_if_there : IsOne (IfThere source path (FileSays form source path))
  one_if_there = one_where_there source one path (FileSays form source path) one_file file_there

  -- and where what it says is tested
  pub tested_there : {Y : Type 0} (Q : X → Outcome Y) (r : Result Y Refusal) → reports_missing r ≡ false → Then (FileSays form source path) Q r → IsThere source path
  tested_there Q (Ok y) other (x, says, is) = file_there (Ok x) refl says
  tested_there Q (Err e) other (inl says) = file_there (Err e) other says
  tested_there Q (Err e) other (inr (x, says, is)) = file_there (Ok x) refl says

-- A fault that says where it lies is one trouble.
faults_one : (P : Fault → Type 0) → ((f g : Fault) → P f → P g → f ≡ g) → (t u : Trouble) → IsFault P t → IsFault P u → t ≡ u
faults_one P one (faulty f) (faulty g) has also = ap (λ x. faulty x) (one f g has also)
faults_one P one unreadable u has also = absurd has
faults_one P one misshapen u has also = absurd has
faults_one P one (faulty_relup f) u has also = absurd has
faults_one P one (faulty f) unreadable has also = absurd also
faults_one P one (faulty f) misshapen has also = absurd also
faults_one P one (faulty f) (faulty_relup g) has also = absurd also

some_fault : {A : Type 0} (P : Fault → Type 0) → ((f : Fault) → P f → A) → (t : Trouble) → IsFault P t → A
some_fault P from (faulty f) has = from f has
some_fault P from unreadable has = absurd has
some_fault P from misshapen has = absurd has
some_fault P from (faulty_relup f) has = absurd has

-- A fault of a relup is one trouble.
relup_faults_one : (P : RelupFault → Type 0) → ((f g : RelupFault) → P f → P g → f ≡ g) → (t u : Trouble) → IsRelupTrouble P t → IsRelupTrouble P u → t ≡ u
relup_faults_one P one (faulty_relup f) (faulty_relup g) has also = ap faulty_relup (one f g has also)
relup_faults_one P one unreadable u has also = absurd has
relup_faults_one P one (faulty f) u has also = absurd has
relup_faults_one P one misshapen u has also = absurd has
relup_faults_one P one (faulty_relup f) unreadable has also = absurd also
relup_faults_one P one (faulty_relup f) (faulty g) has also = absurd also
relup_faults_one P one (faulty_relup f) misshapen has also = absurd also

some_relup_fault : {A : Type 0} (P : RelupFault → Type 0) → ((f : RelupFault) → P f → A) → (t : Trouble) → IsRelupTrouble P t → A
some_relup_fault P from (faulty_relup f) has = from f has
some_relup_fault P from unreadable has = absurd has
some_relup_fault P from (faulty f) has = absurd has
some_relup_fault P from misshapen has = absurd has

-- The kinds of files of a release.
says_one_release : SaysOne rel_form
says_one_release = record {
  one_value = λ bs f g says also.
      let terms : f.term ≡ g.term = one_file_value bs f.term g.term says.0 also.0 in
      let releases : f.release ≡ g.release = says_one bs f.release g.release (f.term, says.0, says.1) (g.term, also.0, also.1) in
      λ k. record { release = releases k; term = terms k };
  one_trouble = λ bs. faults_one _ (one_fault bs);
  never_both = λ bs f t says has. some_fault _ (λ e is. never_says_and_fails bs f.release e (f.term, says.0, says.1) is) t has;
}

says_one_application : SaysOne app_form
says_one_application = record {
  one_value = kind.says_one app_files;
  one_trouble = λ bs. faults_one _ (kind.one_fault app_files bs);
  never_both = λ bs s t says has. some_fault _ (λ e is. kind.never_says_and_fails app_files bs s e says is) t has;
}

says_one_table : SaysOne mod_form
says_one_table = record {
  one_value = λ bs t u says also.
      let terms : t.term ≡ u.term = one_file_value bs t.term u.term says.0 also.0 in
      let tables : t.table ≡ u.table = kind.says_one mod_files bs t.table u.table (t.term, says.0, says.1) (u.term, also.0, also.1) in
      λ k. record { term = terms k; table = tables k };
  one_trouble = λ bs. faults_one _ (kind.one_fault mod_files bs);
  never_both = λ bs s t says has. some_fault _ (λ e is. kind.never_says_and_fails mod_files bs s.table e (s.term, says.0, says.1) is) t has;
}

says_one_relup : SaysOne relup_form
says_one_relup = record {
  one_value = λ bs f g says also.
      let terms : f.term ≡ g.term = one_file_value bs f.term g.term says.0 also.0 in
      let relups : f.relup ≡ g.relup = relup.says_one bs f.relup g.relup (f.term, says.0, says.1) (g.term, also.0, also.1) in
      λ k. record { relup = relups k; term = terms k };
  one_trouble = λ bs. relup_faults_one (IsRelupFault bs) (relup.one_fault bs);
  never_both = λ bs f t says has. some_relup_fault (IsRelupFault bs) (λ e is. relup.never_both bs f.relup e (f.term, says.0, says.1) is) t has;
}

pub one_release : (source : Source) → GivesOne source → (path : List ℕ) → IsOne (ReleaseAt source path)
one_release source one path = one_then (FileSays rel_form source path) _ (one_file rel_form says_one_release source one path) (λ f. one_outcome _)

pub one_application : (source : Source) → GivesOne source → (a : Application) → IsOne (AppAt source a)
one_application source one a = one_then (FileSays app_form source _) _ (one_file app_form says_one_application source one _) (λ s. one_outcome _)

-- Each module has one table or none, or one refusal; so have an application, and a release, their libraries.
module _ (source : Source) (one : GivesOne source) where
  one_table : (a : Application) (m : List ℕ) → IsOne (TableAt source a m)
  one_table a m = one_then (FileSays mod_form source _) _ (one_file mod_form says_one_table source one _) (λ t. one_outcome _)

  one_module : (a : Application) (m : List ℕ) → IsOne (ModuleAt source a m)
  one_module a m =
      one_where_there source one (mod_path a m) (TableAt source a m) (one_table a m)
      (tested_there mod_form says_one_table source one (mod_path a m) (λ t r. r ≡ (if is_of m t then Ok t else Err (vsn_mismatch (mod_path a m)))))

  one_library : (a : Application) → IsOne (LibraryAt source a)
  one_library a =
      one_then (AppAt source a) _ (one_application source one a) (λ s.
      one_then (Each (ModuleAt source a) s.modules) _ (one_each (ModuleAt source a) (one_module a) s.modules) (λ ts. one_outcome _))

  -- The same libraries are read of applications, and the same refusal is met or none.
  one_read : (apps : List Application) (ls ks : List Library) (why other : Option Refusal) → LibrariesAt source apps ls why → LibrariesAt source apps ks other → (ls ≡ ks) × (why ≡ other)
  one_read [] [] [] None None gives also = (refl, refl)
  one_read [] [] [] None (Some v) gives also = absurd also
  one_read [] [] [] (Some w) other gives also = absurd gives
  one_read [] [] (k ∷ ks) why other gives also = absurd also
  one_read [] (l ∷ ls) ks why other gives also = absurd gives
  one_read (a ∷ apps) [] ks None other gives also = absurd gives
  one_read (a ∷ apps) [] [] (Some w) None gives also = absurd also
  one_read (a ∷ apps) [] [] (Some w) (Some v) gives also =
      let same : Err w ≡ Err v = one_library a (Err w) (Err v) gives also in
      let refusal : w ≡ v = cc in
      (refl, ap (λ (r : Refusal). Some r) refusal)
  one_read (a ∷ apps) [] (k ∷ ks) (Some w) other gives (here, later) = let never : Err w ≡ Ok k = one_library a (Err w) (Ok k) gives here in absurd cc
  one_read (a ∷ apps) (l ∷ ls) [] why None gives also = absurd also
  one_read (a ∷ apps) (l ∷ ls) [] why (Some v) (here, later) also = let never : Ok l ≡ Err v = one_library a (Ok l) (Err v) here also in absurd cc
  one_read (a ∷ apps) (l ∷ ls) (k ∷ ks) why other (here, later) (here_too, later_too) =
      let same : Ok l ≡ Ok k = one_library a (Ok l) (Ok k) here here_too in
      let library : l ≡ k = cc in
      let (libraries, refusal) = one_read apps ls ks why other later later_too in
      ((λ i. library i ∷ libraries i), refusal)

  pub one_unpacking : (apps : List Application) (ls ks : List Library) (why other : Option Refusal) → UnpackedLibraries source apps ls why → UnpackedLibraries source apps ks other
      → (ls ≡ ks) × (why ≡ other)
  one_unpacking apps ls ks why other (met, gives, is) (met_too, gives_too, also) =
      let (libraries, refusal) = one_read apps ls ks met met_too gives gives_too in
      let reported : Option Refusal → List Library → Option Refusal = λ first found. option_or first (option_map refusal_for (release_fault apps found)) in
      let same : reported met ls ≡ reported met_too ks = λ i. reported (refusal i) (libraries i) in
      (libraries, is ∙ same ∙ sym also)

  -- The same is read of a relup.
  one_relup : (path vsn : List ℕ) → IsOne (RelupAt source path vsn)
  one_relup path vsn =
      let there = relup_path path in
      one_where_there source one there (RelupIn source there vsn) (one_then (FileSays relup_form source there) _ (one_file relup_form says_one_relup source one there) (λ f. one_outcome _))
      (tested_there relup_form says_one_relup source one there (λ f r. r ≡ unless_mismatch there f (relup_mismatch vsn f.relup)))

  one_relup_read : (path vsn : List ℕ) (why : Option Refusal) → IsOne (RelupRead source path vsn why)
  one_relup_read path vsn None = one_relup path vsn
  one_relup_read path vsn (Some why) = one_outcome (Ok None)

  one_with_files : (path : List ℕ) (f : Found) → IsOne (WithFiles source path f)
  one_with_files path f r s (ls, why, gives, (read, reads, is)) (ks, other, gives_too, (read_too, reads_too, also)) =
      let (libraries, refusal) = one_unpacking f.release.apps ls ks why other gives gives_too in
      let here : RelupRead source path f.release.vsn why read_too = subst (λ w. RelupRead source path f.release.vsn w read_too) (sym refusal) reads_too in
      let relups : read ≡ read_too = one_relup_read path f.release.vsn why read read_too reads here in
      is ∙ (λ i. Ok (brought_with f (libraries i) (refusal i) (relups i))) ∙ sym also

  pub one_brought : (path : List ℕ) → IsOne (BroughtAt source path)
  one_brought path = one_then (ReleaseAt source path) (WithFiles source path) (one_release source one path) (one_with_files path)
