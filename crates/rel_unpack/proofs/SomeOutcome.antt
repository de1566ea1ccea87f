-- What files say has an outcome, where each path of their source has an answer.
use Rattle.std.proofs.Common.{◌≡◌, ◌≢◌, ◌⊎◌, inl, inr, ℕ, Bool, true, false, List, [], ◌∷◌, Option, Some, None, Result, Ok, Err, refl, subst}
use Rattle.std.specs.Option.{option_map, option_or}
use Rattle.file_source.specs.declared.files.FilesError.{FilesError}
use Rattle.file_source.specs.declared.files.FilesError.TheVariants as read
use Rattle.rel_files.proofs.Either.{says_or_fault}
use Rattle.rel_files.proofs.KindFiles as kind
use Rattle.rel_files.specs.Fault.{Fault}
use Rattle.rel_files.specs.File.{SaysRelease, HasReleaseFault}
use Rattle.rel_files.specs.Kind.{Says, HasFault}
use Rattle.rel_files.specs.Release.{Release, Application}
use Rattle.rel_files.specs.AppFile.{Specification, app_files}
use Rattle.library.specs.Library.{Library, TableTerm}
use Rattle.mod_table.specs.declared.table.Table.{Table}
use Rattle.mod_table.specs.File.{mod_files}
use Rattle.rel_check.specs.Fault.{release_fault}
use Rattle.relup_file.proofs.FileLemmas as relup
use Rattle.relup_file.specs.File.{IsRelupFault, SaysRelup}
use Rattle.relup_file.specs.Relup.{RelupForm}
use Rattle.relup_file.specs.declared.fault.RelupFault.{RelupFault}
use Rattle.rel_unpack.specs.Applications.{AppAt, LibraryAt, LibrariesAt, ModuleAt, TableAt, app_form, is_of, mod_form}
use Rattle.rel_unpack.specs.Order.{Outcome, Then, Each}
use Rattle.rel_unpack.specs.Paths.{mod_path}
use Rattle.rel_unpack.specs.Refusal.{Refusal, Trouble, is_missing}
use Rattle.rel_unpack.specs.Refusal.Refusal.{missing_file, bad_file, vsn_mismatch, too_many}
use Rattle.rel_unpack.specs.Refusal.Trouble.{unreadable, faulty, faulty_relup}
use Rattle.rel_unpack.specs.Release.{Found, ReleaseAt, rel_form}
use Rattle.rel_unpack.specs.Source.{Source, Form, GivesEach, FileSays, IfThere}
use Rattle.rel_unpack.specs.Relup.{RelupAt, RelupFound, RelupIn, relup_form, relup_path}
use Rattle.rel_unpack.specs.Unpacking.{BroughtAt, RelupRead, UnpackedLibraries, WithFiles, brought_with, refusal_for}
use Rattle.rel_unpack.proofs.RelupSteps.{no_relup}
use Rattle.rel_unpack.proofs.Steps.{missing_path, none_read, none_there}

abbrev pub HasSome : {X : Type 0} → Outcome X → Type 0
HasSome {X} P = (r : Result X Refusal) × P r

-- This is the outcome.
pub some_outcome : {X : Type 0} (x : Result X Refusal) → HasSome (λ r. r ≡ x)
some_outcome x = (x, refl)

-- First this, and then that.
module _ {A B : Type 0} (P : Outcome A) (Q : A → Outcome B) where
  behind : (a : A) → P (Ok a) → HasSome (Q a) → HasSome (Then P Q)
  behind a p (Ok b, q) = (Ok b, (a, p, q))
  behind a p (Err e, q) = (Err e, inr (a, p, q))

  pub some_then : HasSome P → ((a : A) → HasSome (Q a)) → HasSome (Then P Q)
  some_then (Ok a, p) next = behind a p (next a)
  some_then (Err e, p) next = (Err e, inl p)

-- Each in turn.
pub some_each : {A B : Type 0} (P : A → Outcome B) → ((a : A) → HasSome (P a)) → (as' : List A) → HasSome (Each P as')
some_each P some [] = (Ok [], refl)
some_each P some (a ∷ as') =
    some_then (P a) (λ b. Then (Each P as') (λ bs t. t ≡ Ok (b ∷ bs))) (some a)
    (λ b. some_then (Each P as') (λ bs t. t ≡ Ok (b ∷ bs)) (some_each P some as') (λ bs. some_outcome (Ok (b ∷ bs))))

-- Bytes say something of a kind, or have a trouble.
abbrev pub SaysSome : {X : Type 0} → Form X → Type 0
SaysSome {X} form = (bytes : List ℕ) → ((x : X) × form.says bytes x) ⊎ ((t : Trouble) × form.fails bytes t)

-- What is read of a file, if there is one.
module _ {X : Type 0} (source : Source) (path : List ℕ) (P : Outcome X) (none : (p : List ℕ) → P (Err (missing_file p)) → source path (Err read.Missing)) where
  unless_missing : (e : Refusal) → P (Err e) → (b : Bool) → is_missing e ≡ b → HasSome (IfThere source path P)
  unless_missing e says true is = let (p, same) = missing_path e is in (Ok None, none p (subst (λ (w : Refusal). P (Err w)) same says))
  unless_missing e says false is = (Err e, (is, says))

  pub some_where_there : HasSome P → HasSome (IfThere source path P)
  some_where_there (Ok x, says) = (Ok (Some x), says)
  some_where_there (Err e, says) = unless_missing e says (is_missing e) refl

module _ {X : Type 0} (form : Form X) (some : SaysSome form) (source : Source) (each : GivesEach source) (path : List ℕ) where
  of_bytes : (bs : List ℕ) → source path (Ok bs) → ((x : X) × form.says bs x) ⊎ ((t : Trouble) × form.fails bs t) → HasSome (FileSays form source path)
  of_bytes bs reads (inl (x, says)) = (Ok x, (bs, reads, says))
  of_bytes bs reads (inr (t, fails)) = (Err (bad_file path t), inr (bs, reads, (refl, fails)))

  of_read : (a : Result (List ℕ) FilesError) → a ≢ Err read.NoMemory → source path a → HasSome (FileSays form source path)
  of_read (Ok bs) known reads = of_bytes bs reads (some bs)
  of_read (Err read.Missing) known reads = (Err (missing_file path), inl (refl, reads))
  of_read (Err read.Unreadable) known reads = (Err (bad_file path unreadable), inl (refl, reads))
  of_read (Err read.TooLarge) known reads = (Err too_many, inl reads)
  of_read (Err read.NoMemory) known reads = absurd (known refl)

  pub some_file : HasSome (FileSays form source path)
  some_file = of_read (each path).0 (each path).1 (each path).2

  pub some_if_there : HasSome (IfThere source path (FileSays form source path))
  some_if_there = some_where_there source path (FileSays form source path) (none_read form source path) some_file

-- The kinds of files of a release.
says_some_release : SaysSome rel_form
says_some_release bs = go (says_or_fault bs)
  where
    go : ((r : Release) × SaysRelease bs r) ⊎ ((f : Fault) × HasReleaseFault bs f) → ((f : Found) × rel_form.says bs f) ⊎ ((t : Trouble) × rel_form.fails bs t)
    go (inl (r, (term, has, is))) = inl (record { release = r; term = term }, (has, is))
    go (inr (f, has)) = inr (faulty f, has)

says_some_application : SaysSome app_form
says_some_application bs = go (kind.says_or_fault app_files bs)
  where
    go : ((s : Specification) × Says app_files bs s) ⊎ ((f : Fault) × HasFault app_files bs f) → ((s : Specification) × app_form.says bs s) ⊎ ((t : Trouble) × app_form.fails bs t)
    go (inl (s, says)) = inl (s, says)
    go (inr (f, has)) = inr (faulty f, has)

says_some_table : SaysSome mod_form
says_some_table bs = go (kind.says_or_fault mod_files bs)
  where
    go : ((t : Table) × Says mod_files bs t) ⊎ ((f : Fault) × HasFault mod_files bs f) → ((t : TableTerm) × mod_form.says bs t) ⊎ ((t : Trouble) × mod_form.fails bs t)
    go (inl (t, (v, has, is))) = inl (record { term = v; table = t }, (has, is))
    go (inr (f, has)) = inr (faulty f, has)

says_some_relup : SaysSome relup_form
says_some_relup bs = go (relup.says_or_fault bs)
  where
    go : ((r : RelupForm) × SaysRelup bs r) ⊎ ((f : RelupFault) × IsRelupFault bs f) → ((f : RelupFound) × relup_form.says bs f) ⊎ ((t : Trouble) × relup_form.fails bs t)
    go (inl (r, (term, has, is))) = inl (record { relup = r; term = term }, (has, is))
    go (inr (f, has)) = inr (faulty_relup f, has)

-- Each path has a release or a refusal, and each application a specification or a refusal.
pub some_release : (source : Source) → GivesEach source → (path : List ℕ) → HasSome (ReleaseAt source path)
some_release source each path = some_then (FileSays rel_form source path) _ (some_file rel_form says_some_release source each path) (λ f. some_outcome _)

pub some_application : (source : Source) → GivesEach source → (a : Application) → HasSome (AppAt source a)
some_application source each a = some_then (FileSays app_form source _) _ (some_file app_form says_some_application source each _) (λ s. some_outcome _)

-- The files of a release's applications have an outcome: what they say, or a refusal.
module _ (source : Source) (each : GivesEach source) where
  some_table : (a : Application) (m : List ℕ) → HasSome (TableAt source a m)
  some_table a m = some_then (FileSays mod_form source _) _ (some_file mod_form says_some_table source each _) (λ t. some_outcome _)

  some_module : (a : Application) (m : List ℕ) → HasSome (ModuleAt source a m)
  some_module a m =
      some_where_there source (mod_path a m) (TableAt source a m)
      (none_there mod_form source (mod_path a m) (is_of m) (vsn_mismatch (mod_path a m)) refl) (some_table a m)

  some_library : (a : Application) → HasSome (LibraryAt source a)
  some_library a =
      some_then (AppAt source a) _ (some_application source each a) (λ s.
      some_then (Each (ModuleAt source a) s.modules) _ (some_each (ModuleAt source a) (some_module a) s.modules) (λ ts. some_outcome _))

  -- Of applications so many libraries are read, up to a refusal if there is one.
  some_read : (apps : List Application) → (ls : List Library) × (why : Option Refusal) × LibrariesAt source apps ls why
  some_read [] = ([], None, tt)
  some_read (a ∷ apps) = go (some_library a) (some_read apps)
    where
      go : HasSome (LibraryAt source a) → ((ls : List Library) × (why : Option Refusal) × LibrariesAt source apps ls why)
          → (ls : List Library) × (why : Option Refusal) × LibrariesAt source (a ∷ apps) ls why
      go (Err why, here) later = ([], Some why, here)
      go (Ok l, here) (ls, why, later) = (l ∷ ls, why, (here, later))

  pub some_unpacking : (apps : List Application) → (ls : List Library) × (why : Option Refusal) × UnpackedLibraries source apps ls why
  some_unpacking apps =
      let (ls, met, gives) = some_read apps in
      (ls, option_or met (option_map refusal_for (release_fault apps ls)), (met, gives, refl))

  some_relup : (path vsn : List ℕ) → HasSome (RelupAt source path vsn)
  some_relup path vsn =
      let there = relup_path path in
      some_where_there source there (RelupIn source there vsn) (no_relup source there vsn)
      (some_then (FileSays relup_form source there) _ (some_file relup_form says_some_relup source each there) (λ f. some_outcome _))

  some_relup_read : (path vsn : List ℕ) (why : Option Refusal) → HasSome (RelupRead source path vsn why)
  some_relup_read path vsn None = some_relup path vsn
  some_relup_read path vsn (Some why) = some_outcome (Ok None)

  some_with_files : (path : List ℕ) (f : Found) → HasSome (WithFiles source path f)
  some_with_files path f =
      let (ls, why, gives) = some_unpacking f.release.apps in
      let (read, reads) = some_relup_read path f.release.vsn why in
      (Ok (brought_with f ls why read), (ls, why, gives, (read, reads, refl)))

  pub some_brought : (path : List ℕ) → HasSome (BroughtAt source path)
  some_brought path = some_then (ReleaseAt source path) (WithFiles source path) (some_release source each path) (some_with_files path)
