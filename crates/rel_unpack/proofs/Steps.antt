-- What a file says and whether it is taken.
use Rattle.std.proofs.Common.{◌≡◌, ◌≢◌, inl, inr, ℕ, Bool, true, false, List, Option, Some, None, IfOk, IsErr, MatchResult, Result, Ok, Err, refl, sym, ap, subst, ◌∙◌}
use Rattle.std.specs.Prelude.{if◌then◌else◌}
use Rattle.rel_unpack.specs.declared.error.UnpackError.{UnpackError}
use Rattle.rel_unpack.specs.declared.error.UnpackError.TheVariants.{NoMemory}
use Rattle.rel_unpack.specs.Refusal.{Refusal, Trouble, refusal_of, is_missing}
use Rattle.rel_unpack.specs.Refusal.Refusal.{missing_file, bad_file, vsn_mismatch, lib_differs, no_table, too_many, no_memory}
use Rattle.file_source.specs.declared.files.FilesError.TheVariants.{Missing}
use Rattle.std.specs.Option.{option_map}
use Rattle.std.specs.Result.{IsErrAnd}
use Rattle.rel_unpack.specs.Order.{Outcome, Then, Answers}
use Rattle.rel_unpack.specs.Source.{Source, Form, FileSays, IfThere}

-- something is wrong with the bytes of a file
pub fails_at : {X : Type 0} (form : Form X) (source : Source) (path bytes : List ℕ) (e : UnpackError) (t : Trouble) → source path (Ok bytes) → form.fails bytes t
    → refusal_of e ≡ bad_file path t → FileSays form source path (Err (refusal_of e))
fails_at {X} form source path bytes e t has fails reported = subst (λ (r : Refusal). FileSays form source path (Err r)) (sym reported) (inr (bytes, has, (refl, fails)))

-- what is given passes a test, or it doesn't
pub passes : {A : Type 0} (P : Outcome A) (test : A → Bool) (x : Refusal) (a : A) → P (Ok a) → test a ≡ true → Then P (λ s r. r ≡ (if test s then Ok s else Err x)) (Ok a)
passes {A} P test x a has is = (a, has, sym (ap (λ (b : Bool). if b then Ok a else Err x) is))

pub fails_test : {A : Type 0} (P : Outcome A) (test : A → Bool) (x y : Refusal) (a : A) → P (Ok a) → test a ≡ false → y ≡ x → Then P (λ s r. r ≡ (if test s then Ok s else Err x)) (Err y)
fails_test {A} P test x y a has is same = inr (a, has, (ap Err same ∙ sym (ap (λ (b : Bool). if b then Ok a else Err x) is)))

-- a refusal is passed on
pub passed_on : {X Y : Type 0} (view : X → Y) (P : Outcome Y) (e : UnpackError) (r : Result X UnpackError) → IsErr r → IsErrAnd r (λ f. f ≡ e) → (e ≢ NoMemory → P (Err (refusal_of e))) → Answers view P r
passed_on view P e (Ok x) err and reported = cc err
passed_on view P e (Err f) err and reported = λ ne. subst (λ (y : UnpackError). P (Err (refusal_of y))) (sym and) (reported (λ same. ne (and ∙ same)))

-- and so is out of memory,
pub no_memory_left : {X Y : Type 0} (view : X → Y) (P : Outcome Y) (r : Result X UnpackError) → IsErr r → IsErrAnd r (λ f. f ≡ NoMemory) → Answers view P r
no_memory_left view P (Ok x) err none = cc err
no_memory_left view P (Err e) err none = λ ne. absurd (ne none)

-- with nothing to say of a value
pub nothing_given : {X E : Type 0} (P : X → Type 0) (r : Result X E) → IsErr r → IfOk r P
nothing_given P (Ok x) err = cc err
nothing_given P (Err e) err = tt

-- What a file says reports a missing file only where there is none,
pub none_read : {X : Type 0} (form : Form X) (source : Source) (path p : List ℕ) → FileSays form source path (Err (missing_file p)) → source path (Err Missing)
none_read form source path p (inl is) = is.1
none_read form source path p (inr is) = absurd is.2

-- and so does what is asked of it, where that reports none.
pub none_behind : {X Y : Type 0} (form : Form X) (source : Source) (path : List ℕ) (Q : X → Outcome Y) → ((x : X) (p : List ℕ) → Q x (Err (missing_file p)) → ⊥) → (p : List ℕ)
    → Then (FileSays form source path) Q (Err (missing_file p)) → source path (Err Missing)
none_behind form source path Q never p (inl is) = none_read form source path p is
none_behind form source path Q never p (inr (x, says, is)) = absurd (never x p is)

-- A test reports none.
pub none_there : {X : Type 0} (form : Form X) (source : Source) (path : List ℕ) (test : X → Bool) (x : Refusal) → is_missing x ≡ false → (p : List ℕ)
    → Then (FileSays form source path) (λ s r. r ≡ (if test s then Ok s else Err x)) (Err (missing_file p)) → source path (Err Missing)
none_there {X} form source path test x other = none_behind form source path (λ s r. r ≡ (if test s then Ok s else Err x)) (λ s p. go s p (test s))
  where
    go : (s : X) (p : List ℕ) (b : Bool) → Err (missing_file p) ≡ (if b then Ok s else Err x) → ⊥
    go s p true e = absurd cc
    go s p false e = let same : missing_file p ≡ x = cc in let is : true ≡ false = ap is_missing same ∙ other in cc

-- A refusal that reports a missing file is that of a path.
pub missing_path : (e : Refusal) → is_missing e ≡ true → (path : List ℕ) × (e ≡ missing_file path)
missing_path (missing_file path) is = (path, refl)
missing_path (bad_file path trouble) is = absurd cc
missing_path (vsn_mismatch path) is = absurd cc
missing_path (lib_differs name) is = absurd cc
missing_path (no_table name) is = absurd cc
missing_path too_many is = absurd cc
missing_path no_memory is = absurd cc

some_missing : (source : Source) (path : List ℕ) (Reported : Refusal → Type 0) (e : UnpackError) → ((p : List ℕ) → Reported (missing_file p) → source path (Err Missing))
    → is_missing (refusal_of e) ≡ true → (e ≢ NoMemory → Reported (refusal_of e)) → source path (Err Missing)
some_missing source path Reported e missing is reported =
    let (p, same) = missing_path (refusal_of e) is in
    let known : e ≢ NoMemory = λ none. let never : true ≡ false = sym is ∙ ap (λ x. is_missing (refusal_of x)) none in cc in
    missing p (subst Reported same (reported known))

-- what has no file is none
pub unless_there : {X Y : Type 0} (view : X → Y) (source : Source) (path : List ℕ) (P : Outcome Y) (e : UnpackError) (r : Result (Option X) UnpackError)
    → ((p : List ℕ) → P (Err (missing_file p)) → source path (Err Missing)) → (e ≢ NoMemory → P (Err (refusal_of e)))
    → MatchResult r (λ t. (t ≡ None) × (is_missing (refusal_of e) ≡ true)) (λ x. (x ≡ e) × (is_missing (refusal_of e) ≡ false)) → Answers (λ t. option_map view t) (IfThere source path P) r
unless_there view source path P e (Ok None) missing reported is = some_missing source path (λ x. P (Err x)) e missing is.1 reported
unless_there view source path P e (Ok (Some x)) missing reported is = absurd cc
unless_there view source path P e (Err x) missing reported is = λ ne.
    subst (λ (y : UnpackError). IfThere source path P (Err (refusal_of y))) (sym is.0) (is.1, reported (λ same. ne (is.0 ∙ same)))
