-- What an appup file says, or its fault, from its one term.
use Rattle.std.proofs.Common.{◌≡◌, ◌≢◌, ◌⊎◌, ℕ, List, [], ◌∷◌, ◌++◌, string_bytes, Result, Ok, Err, MatchResult, IfOk, IfErr, IsErr, IsErrAnd, inl, inr, refl, sym, ap, subst, ◌∙◌}
use Rattle.erl_term.specs.TermFault.{TermFault}
use Rattle.erl_term.specs.Value.{Value}
use Rattle.rel_files.specs.declared.fault.FileFault.{FileFault}
use Rattle.rel_files.specs.declared.fault.FileFault.TheVariants as file
use Rattle.rel_files.specs.Fault.{Fault}
use Rattle.rel_files.specs.Fault.Fault.{bad_term, bad_shape, duplicate, bad_version, no_memory}
use Rattle.rel_files.specs.Kind.{HasFault}
use Rattle.rel_files.specs.OneTermFile.{HasTermAt, HasNoTerm, IsNoTermFault}
use Rattle.rel_files.proofs.OneTermFile.{has_term}
use Rattle.rel_files.proofs.KindFiles.{one_fault as one_kind_fault, never_says_and_fails, says_or_fault as kind_says_or_fault}
use Rattle.appup_file.specs.declared.fault.AppupFault.{AppupFault}
use Rattle.appup_file.specs.declared.fault.AppupFault.TheVariants.{BadTerm, BadShape, NoMemory}
use Rattle.appup_file.specs.declared.appup.Appup.{Appup}
use Rattle.appup_file.specs.Instruction.{AppupForm, appup_of}
use Rattle.appup_file.specs.Fault.{appup_fault_of}
use Rattle.appup_file.specs.File.{appup_files, TermSaysAppup, IsTermFault, SaysAppup, IsAppupFault}

-- a file that hasn't one term has one of two faults
no_term : (bytes : List ℕ) (f : Fault) → HasNoTerm bytes f → ((e : TermFault) × (f ≡ bad_term e)) ⊎ ((at : ℕ) × (f ≡ bad_shape at))
no_term bytes f (inl (e, is, fault)) = inl (e, is)
no_term bytes f (inr ([], reads, count)) = inr (0, count)
no_term bytes f (inr (r ∷ [], reads, count)) = absurd count
no_term bytes f (inr (r ∷ s ∷ rs, reads, count)) = inr (r.from, count)

never_twice : (bytes : List ℕ) (n : List ℕ) → HasNoTerm bytes (duplicate n) → ⊥
never_twice bytes n h = go (no_term bytes (duplicate n) h)
  where
    go : ((e : TermFault) × (duplicate n ≡ bad_term e)) ⊎ ((at : ℕ) × (duplicate n ≡ bad_shape at)) → ⊥
    go (inl (e, is)) = absurd cc
    go (inr (at, is)) = absurd cc

never_version : (bytes : List ℕ) → HasNoTerm bytes bad_version → ⊥
never_version bytes h = go (no_term bytes bad_version h)
  where
    go : ((e : TermFault) × (bad_version ≡ bad_term e)) ⊎ ((at : ℕ) × (bad_version ≡ bad_shape at)) → ⊥
    go (inl (e, is)) = absurd cc
    go (inr (at, is)) = absurd cc

never_memory : (bytes : List ℕ) → HasNoTerm bytes no_memory → ⊥
never_memory bytes h = go (no_term bytes no_memory h)
  where
    go : ((e : TermFault) × (no_memory ≡ bad_term e)) ⊎ ((at : ℕ) × (no_memory ≡ bad_shape at)) → ⊥
    go (inl (e, is)) = absurd cc
    go (inr (at, is)) = absurd cc

-- the fault of the file's terms is the file's
pub reports_terms : (bytes : List ℕ) (f : FileFault) → (f ≢ file.NoMemory → IsNoTermFault bytes f) → appup_fault_of f ≢ NoMemory → IsAppupFault bytes (appup_fault_of f)
reports_terms bytes (file.BadTerm e) h other = inl (h (λ same. absurd cc))
reports_terms bytes (file.BadShape at) h other = (at, inl (h (λ same. absurd cc)))
reports_terms bytes (file.Duplicate name) h other = absurd (never_twice bytes (string_bytes name) (h (λ same. absurd cc)))
reports_terms bytes file.BadVersion h other = absurd (never_version bytes (h (λ same. absurd cc)))
reports_terms bytes file.NoMemory h other = absurd (other refl)

-- a fault that is passed on
pub passed_on : (P : AppupFault → Type 0) (result : Result Appup AppupFault) (f : AppupFault) → IsErr result × IsErrAnd result (λ g. g ≡ f) → P f → IfErr result P
passed_on P (Ok x) f is h = tt
passed_on P (Err g) f is h = subst P (sym is.1) h

pub only_memory : (P : Appup → Type 0) (result : Result Appup AppupFault) (f : AppupFault) → IsErr result × IsErrAnd result (λ g. g ≡ f) → f ≡ NoMemory
    → MatchResult result P (λ g. g ≡ NoMemory)
only_memory P (Ok x) f is e = absurd is.1
only_memory P (Err g) f is e = is.1 ∙ e

-- what the file's term says or how it fails, the file does
pub says : (bytes : List ℕ) (at : ℕ) (v : Value) (result : Result Appup AppupFault) → HasTermAt bytes at v → IfOk result (λ a. TermSaysAppup v (appup_of a))
    → IfOk result (λ a. SaysAppup bytes (appup_of a))
says bytes at v (Ok a) has h = (v, has_term bytes at v has, h)
says bytes at v (Err f) has h = tt

pub fault : (bytes : List ℕ) (at : ℕ) (v : Value) (result : Result Appup AppupFault) → HasTermAt bytes at v → IfErr result (λ f. f ≢ NoMemory → IsTermFault v f)
    → IfErr result (λ f. f ≢ NoMemory → IsAppupFault bytes f)
fault bytes at v (Ok a) has h = tt
fault bytes at v (Err (BadTerm e)) has h = λ other. absurd (h other)
fault bytes at v (Err BadShape) has h = λ other. (at, inr (at, v, has, (h other, refl)))
fault bytes at v (Err NoMemory) has h = λ other. absurd (other refl)

-- No file has two faults.
pub one_fault : (bytes : List ℕ) (f g : AppupFault) → IsAppupFault bytes f → IsAppupFault bytes g → f ≡ g
one_fault bytes (BadTerm d) (BadTerm e) p q =
    let same : bad_term d ≡ bad_term e = one_kind_fault appup_files bytes (bad_term d) (bad_term e) p q in
    let one : d ≡ e = cc in ap BadTerm one
one_fault bytes (BadTerm d) BadShape p (at, q) = let same : bad_term d ≡ bad_shape at = one_kind_fault appup_files bytes (bad_term d) (bad_shape at) p q in absurd cc
one_fault bytes BadShape (BadTerm e) (at, p) q = let same : bad_shape at ≡ bad_term e = one_kind_fault appup_files bytes (bad_shape at) (bad_term e) p q in absurd cc
one_fault bytes BadShape BadShape p q = refl
one_fault bytes NoMemory g p q = absurd p
one_fault bytes f NoMemory p q = absurd q

-- No file both says an appup and has a fault.
pub never_both : (bytes : List ℕ) (a : AppupForm) (f : AppupFault) → SaysAppup bytes a → IsAppupFault bytes f → ⊥
never_both bytes a (BadTerm e) says p = never_says_and_fails appup_files bytes a (bad_term e) says p
never_both bytes a BadShape says (at, p) = never_says_and_fails appup_files bytes a (bad_shape at) says p
never_both bytes a NoMemory says p = p

none_of_none : (n : List ℕ) (before after : List (List ℕ)) → [] ≡ before ++ (n ∷ after) → ⊥
none_of_none n [] after is = absurd cc
none_of_none n (m ∷ before) after is = absurd cc

abbrev Cases : List ℕ → Type 0
Cases bytes = ((a : AppupForm) × SaysAppup bytes a) ⊎ ((f : AppupFault) × IsAppupFault bytes f)

of_fault : (bytes : List ℕ) (f : Fault) → HasFault appup_files bytes f → Cases bytes
of_fault bytes (bad_term e) h = inr (BadTerm e, h)
of_fault bytes (bad_shape at) h = inr (BadShape, (at, h))
of_fault bytes (duplicate n) (inl none) = absurd (never_twice bytes n none)
of_fault bytes (duplicate n) (inr (at, v, has, (a, is, twice))) = absurd (none_of_none n twice.before twice.after twice.is)
of_fault bytes bad_version (inl none) = absurd (never_version bytes none)
of_fault bytes bad_version (inr (at, v, has, (a, is, distinct, wrong))) = absurd cc
of_fault bytes no_memory (inl none) = absurd (never_memory bytes none)
of_fault bytes no_memory (inr (at, v, has, h)) = absurd h

-- Each file says an appup or has a fault.
pub says_or_fault : (bytes : List ℕ) → Cases bytes
says_or_fault bytes = go (kind_says_or_fault appup_files bytes)
  where
    go : ((a : AppupForm) × SaysAppup bytes a) ⊎ ((f : Fault) × HasFault appup_files bytes f) → Cases bytes
    go (inl says) = inl says
    go (inr (f, h)) = of_fault bytes f h
