-- What a file says, or its fault, from the terms in it.
use Rattle.std.proofs.Common.{◌≡◌, ◌≢◌, ℕ, List, [], ◌∷◌, ◌++◌, inl, inr, map, Some, None, Result, Ok, Err, IfErr, IsErr, IsErrAnd, length, slice_get, refl, sym, ap, subst, arith}
use Rattle.erl_term.specs.TermFault.{TermFault}
use Rattle.erl_term.specs.TermFault.TheVariants as term
use Rattle.erl_term.specs.declared.term.Spanned.{Spanned}
use Rattle.erl_term.specs.Value.{value_of}
use Rattle.erl_term.specs.Grammar.{Reading, Reads}
use Rattle.erl_term.specs.Answers.{ReportsFault, reading_of_spanned}
use Rattle.rel_files.specs.declared.fault.FileFault.{FileFault}
use Rattle.rel_files.specs.declared.fault.FileFault.TheVariants.{NoMemory}
use Rattle.rel_files.specs.declared.one_term.FileTerm.{FileTerm}
use Rattle.rel_files.specs.Fault.{file_fault_of}
use Rattle.rel_files.specs.Fault.Fault.{bad_shape}
use Rattle.rel_files.specs.OneTermFile.{HasTermAt, HasNoTerm, AreNotOne, IsNoTermFault}

-- more than one term
pub several : (xs all : List Spanned) (first last : Spanned) (r : Reading) → Some first ≡ slice_get xs 0 → all ≡ xs ++ last ∷ []
    → map reading_of_spanned all ≡ r ∷ [] → ⊥
several [] all first last r some split one = absurd cc
several (x ∷ []) all first last r some split one = let two = ap (map reading_of_spanned) split in absurd cc
several (x ∷ y ∷ xs) all first last r some split one = let more = ap (map reading_of_spanned) split in absurd cc

-- one term alone
pub alone : (xs all : List Spanned) (last : Spanned) (r : Reading) → None ≡ slice_get xs 0 → all ≡ xs ++ last ∷ []
    → map reading_of_spanned all ≡ r ∷ [] → r ≡ reading_of_spanned last
alone [] all last r none split one = let same = ap (map reading_of_spanned) split in cc
alone (x ∷ xs) all last r none split one = absurd cc

-- the fault of a file that is no row of terms
unreadable : (bytes : List ℕ) (e : TermFault) → ReportsFault 64 bytes e → file_fault_of e ≢ NoMemory → IsNoTermFault bytes (file_fault_of e)
unreadable bytes term.NoMemory reports other = absurd (other refl)
unreadable bytes e reports other = inl (e, refl, reports)

-- and so of one that is passed on
pub reports_unreadable : (result : Result FileTerm FileFault) (bytes : List ℕ) (e : TermFault) → IsErr result × IsErrAnd result (λ f. f ≡ file_fault_of e)
    → ReportsFault 64 bytes e → IfErr result (λ f. f ≢ NoMemory → IsNoTermFault bytes f)
reports_unreadable (Ok file) bytes e is reports = tt
reports_unreadable (Err f) bytes e is reports = subst (λ (g : FileFault). g ≢ NoMemory → IsNoTermFault bytes g) (sym is.1) (unreadable bytes e reports)

-- a file with no terms
pub no_terms : (bytes : List ℕ) (all : List Spanned) → length all ≡ 0 → Reads 64 bytes (map reading_of_spanned all) → HasNoTerm bytes (bad_shape 0)
no_terms bytes [] none reads = inr ([], reads, refl)
no_terms bytes (x ∷ all) none reads = absurd (omega arith)

-- no terms aren't one
pub none_alone : (all : List Spanned) (r : Reading) → length all ≡ 0 → map reading_of_spanned all ≡ r ∷ [] → ⊥
none_alone [] r none one = absurd cc
none_alone (x ∷ all) r none one = absurd (omega arith)

-- a file with more than one
pub many_terms : (bytes : List ℕ) (xs all : List Spanned) (first last : Spanned) → Some first ≡ slice_get xs 0 → all ≡ xs ++ last ∷ []
    → Reads 64 bytes (map reading_of_spanned all) → HasNoTerm bytes (bad_shape first.from)
many_terms bytes [] all first last some split reads = absurd cc
many_terms bytes (x ∷ xs) all first last some split reads =
    let same : first ≡ x = cc in
    let read : Reads 64 bytes (reading_of_spanned x ∷ map reading_of_spanned (xs ++ last ∷ [])) =
    subst (λ (ss : List Spanned). Reads 64 bytes (map reading_of_spanned ss)) split reads in
    inr (more xs read (ap (λ (s : Spanned). bad_shape s.from) same))
  where
    more : (xs : List Spanned) → Reads 64 bytes (reading_of_spanned x ∷ map reading_of_spanned (xs ++ last ∷ [])) → bad_shape first.from ≡ bad_shape x.from
        → (rs : List Reading) × Reads 64 bytes rs × AreNotOne rs (bad_shape first.from)
    more [] read is = (reading_of_spanned x ∷ reading_of_spanned last ∷ [], read, is)
    more (y ∷ ys) read is = (reading_of_spanned x ∷ reading_of_spanned y ∷ map reading_of_spanned (ys ++ last ∷ []), read, is)

-- a file with one
pub one_term : (bytes : List ℕ) (xs all : List Spanned) (last : Spanned) → None ≡ slice_get xs 0 → all ≡ xs ++ last ∷ []
    → Reads 64 bytes (map reading_of_spanned all) → HasTermAt bytes last.from (value_of last.term)
one_term bytes [] all last none split reads =
    (reading_of_spanned last, subst (λ (ss : List Spanned). Reads 64 bytes (map reading_of_spanned ss)) split reads, refl, refl)
one_term bytes (x ∷ xs) all last none split reads = absurd cc
