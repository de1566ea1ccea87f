-- What a relup file says, or its fault.
use Rattle.std.proofs.Common.{◌≡◌, ◌≢◌, ℕ, List, [], ◌∷◌, string_bytes, Result, Ok, Err, MatchResult, IfOk, IfErr, IsErr, IsErrAnd, ◌⊎◌, inl, inr, refl, sym, ap, subst, ◌∙◌}
use Rattle.erl_term.specs.TermFault.{TermFault}
use Rattle.erl_term.specs.Value.{Value}
use Rattle.erl_term.specs.Grammar.{Reading, Reads}
use Rattle.erl_term.specs.Faults.{IsFault}
use Rattle.erl_term.proofs.Exact.{one_reading, never_both as reads_or_fails, reads_or_fault}
use Rattle.erl_term.proofs.OneFault.{one_fault as one_term_fault}
use Rattle.rel_files.proofs.OneTermFile.{one_term}
use Rattle.rel_files.specs.declared.fault.FileFault.{FileFault}
use Rattle.rel_files.specs.declared.fault.FileFault.TheVariants as file
use Rattle.rel_files.specs.Fault.{Fault}
use Rattle.rel_files.specs.Fault.Fault.{bad_term, bad_shape, duplicate, bad_version}
use Rattle.rel_files.specs.OneTermFile.{HasFileTerm, HasNoTerm, IsNoTermFault}
use Rattle.relup_file.specs.declared.fault.RelupFault.{RelupFault}
use Rattle.relup_file.specs.declared.fault.RelupFault.TheVariants.{BadTerm, BadShape, NoMemory}
use Rattle.relup_file.specs.Fault.{relup_fault_of_file}
use Rattle.relup_file.specs.Relup.{RelupForm}
use Rattle.relup_file.specs.Form.{IsRelupTerm}
use Rattle.relup_file.specs.Parts.{relup_in}
use Rattle.relup_file.specs.File.{SaysRelup, HasTermFault, IsTermFault, HaveShapeFault, IsRelupFault}
use Rattle.relup_file.proofs.RelupLemmas.{relup_in-term, from_relup, from_fault, relup_in-fault}

-- a fault of the terms is the file's
of_no_row : (bytes : List ℕ) (e : TermFault) → HasNoTerm bytes (bad_term e) → IsRelupFault bytes (BadTerm e)
of_no_row bytes e (inl (d, is, fault)) = let same : d ≡ e = cc in subst (IsFault 64 bytes) same fault
of_no_row bytes e (inr ([], reads, is)) = absurd cc
of_no_row bytes e (inr (r ∷ [], reads, is)) = absurd is
of_no_row bytes e (inr (r ∷ s ∷ rs, reads, is)) = absurd cc

-- none or several terms are no outer shape
of_count : (bytes : List ℕ) (f : Fault) → ((e : TermFault) → f ≡ bad_term e → ⊥) → HasNoTerm bytes f → IsRelupFault bytes (BadShape 0)
of_count bytes f row (inl (e, is, fault)) = absurd (row e is)
of_count bytes f row (inr ([], reads, is)) = ([], reads, refl)
of_count bytes f row (inr (r ∷ [], reads, is)) = absurd is
of_count bytes f row (inr (r ∷ s ∷ rs, reads, is)) = (r ∷ s ∷ rs, reads, refl)

-- the fault of a file that hasn't one term
pub reports_terms : (bytes : List ℕ) (f : FileFault) → (f ≢ file.NoMemory → IsNoTermFault bytes f) → relup_fault_of_file f ≢ NoMemory → IsRelupFault bytes (relup_fault_of_file f)
reports_terms bytes (file.BadTerm e) h other = of_no_row bytes e (h (λ same. absurd cc))
reports_terms bytes (file.BadShape at) h other = of_count bytes (bad_shape at) (λ e is. absurd cc) (h (λ same. absurd cc))
reports_terms bytes (file.Duplicate name) h other = of_count bytes (duplicate (string_bytes name)) (λ e is. absurd cc) (h (λ same. absurd cc))
reports_terms bytes file.BadVersion h other = of_count bytes bad_version (λ e is. absurd cc) (h (λ same. absurd cc))
reports_terms bytes file.NoMemory h other = absurd (other refl)

-- a fault that is passed on
pub passed_on : {A : Type 0} (P : RelupFault → Type 0) (result : Result A RelupFault) (f : RelupFault) → IsErr result × IsErrAnd result (λ g. g ≡ f) → P f → IfErr result P
passed_on P (Ok x) f is h = tt
passed_on P (Err g) f is h = subst P (sym is.1) h

-- no value, where a fault is passed on
pub no_value : {A : Type 0} (P : A → Type 0) (result : Result A RelupFault) (f : RelupFault) → IsErr result × IsErrAnd result (λ g. g ≡ f) → IfOk result P
no_value P (Ok x) f is = absurd is.1
no_value P (Err g) f is = tt

pub only_memory : {A : Type 0} (P : A → Type 0) (result : Result A RelupFault) (f : RelupFault) → IsErr result × IsErrAnd result (λ g. g ≡ f) → f ≡ NoMemory
    → MatchResult result P (λ g. g ≡ NoMemory)
only_memory P (Ok x) f is e = absurd is.1
only_memory P (Err g) f is e = is.1 ∙ e

pub term_fault : (bytes : List ℕ) (v : Value) (f : RelupFault) → HasFileTerm bytes v → IsTermFault v f → IsRelupFault bytes f
term_fault bytes v (BadTerm e) has h = absurd h
term_fault bytes v (BadShape n) (r, reads, is) h = (r ∷ [], reads, subst (λ (w : Value). HasTermFault w n) (sym is) h)
term_fault bytes v NoMemory has h = absurd h

-- the term of a file says what the file says
pub says_term : (bytes : List ℕ) (v : Value) (r : RelupForm) → ((w : Value) → HasFileTerm bytes w → v ≡ w) → SaysRelup bytes r → IsRelupTerm v r
says_term bytes v r only (w, has, is) = subst (λ (x : Value). IsRelupTerm x r) (sym (only w has)) is

-- what is read of the term of a file that says a relup
read_as : (bytes : List ℕ) (p : Reading) (r : RelupForm) → Reads 64 bytes (p ∷ []) → SaysRelup bytes r → relup_in p.term ≡ Ok r
read_as bytes p r reads (v, (q, also, is), says) =
    ap (λ (x : Reading). relup_in x.term) (one_term bytes p q reads also) ∙ (ap relup_in is ∙ relup_in-term v r says)

-- No file says two relups.
pub says_one : (bytes : List ℕ) (r s : RelupForm) → SaysRelup bytes r → SaysRelup bytes s → r ≡ s
says_one bytes r s (v, (p, reads, is), says) also =
    let one : relup_in p.term ≡ Ok r = ap relup_in is ∙ relup_in-term v r says in
    let other : relup_in p.term ≡ Ok s = read_as bytes p s reads also in
    cc

-- No file both says a relup and has a fault.
pub never_both : (bytes : List ℕ) (r : RelupForm) (f : RelupFault) → SaysRelup bytes r → IsRelupFault bytes f → ⊥
never_both bytes r (BadTerm e) (v, (p, reads, is), says) h = reads_or_fails 64 bytes (p ∷ []) e reads h
never_both bytes r (BadShape n) (v, (p, reads, is), says) (rs, also, h) =
    let here : HaveShapeFault (p ∷ []) n = subst (λ ts. HaveShapeFault ts n) (one_reading 64 bytes rs (p ∷ []) also reads) h in
    let bad : relup_in p.term ≡ Err n = relup_in-fault p.term n here in
    let good : relup_in p.term ≡ Ok r = ap relup_in is ∙ relup_in-term v r says in
    absurd cc
never_both bytes r NoMemory says h = h

one_place : (rs : List Reading) (n m : ℕ) → HaveShapeFault rs n → HaveShapeFault rs m → n ≡ m
one_place [] n m d e = d ∙ sym e
one_place (r ∷ []) n m d e = let same : Err n ≡ Err m = sym (relup_in-fault r.term n d) ∙ relup_in-fault r.term m e in cc
one_place (r ∷ s ∷ rs) n m d e = d ∙ sym e

-- No file has two faults.
pub one_fault : (bytes : List ℕ) (f g : RelupFault) → IsRelupFault bytes f → IsRelupFault bytes g → f ≡ g
one_fault bytes (BadTerm d) (BadTerm e) p q = ap BadTerm (one_term_fault 64 bytes d e p q)
one_fault bytes (BadTerm d) (BadShape n) p (rs, reads, h) = absurd (reads_or_fails 64 bytes rs d reads p)
one_fault bytes (BadTerm d) NoMemory p q = absurd q
one_fault bytes (BadShape n) (BadTerm e) (rs, reads, h) q = absurd (reads_or_fails 64 bytes rs e reads q)
one_fault bytes (BadShape n) (BadShape m) (rs, reads, h) (ss, also, k) =
    ap BadShape (one_place ss n m (subst (λ ts. HaveShapeFault ts n) (one_reading 64 bytes rs ss reads also) h) k)
one_fault bytes (BadShape n) NoMemory p q = absurd q
one_fault bytes NoMemory g p q = absurd p

abbrev Cases : List ℕ → Type 0
Cases bytes = ((r : RelupForm) × SaysRelup bytes r) ⊎ ((f : RelupFault) × IsRelupFault bytes f)

of_terms : (bytes : List ℕ) (rs : List Reading) → Reads 64 bytes rs → Cases bytes
of_terms bytes [] reads = inr (BadShape 0, ([], reads, refl))
of_terms bytes (p ∷ q ∷ rs) reads = inr (BadShape 0, (p ∷ q ∷ rs, reads, refl))
of_terms bytes (p ∷ []) reads = go (relup_in p.term) refl
  where
    go : (o : Result RelupForm ℕ) → relup_in p.term ≡ o → Cases bytes
    go (Ok r) is = inl (r, (p.term, (p, reads, refl), from_relup p.term r is))
    go (Err n) is = inr (BadShape n, (p ∷ [], reads, from_fault p.term n is))

-- Each file says a relup or has a fault.
pub says_or_fault : (bytes : List ℕ) → Cases bytes
says_or_fault bytes = go (reads_or_fault 64 bytes)
  where
    go : ((rs : List Reading) × Reads 64 bytes rs) ⊎ ((e : TermFault) × IsFault 64 bytes e) → Cases bytes
    go (inl (rs, reads)) = of_terms bytes rs reads
    go (inr (e, is)) = inr (BadTerm e, is)
