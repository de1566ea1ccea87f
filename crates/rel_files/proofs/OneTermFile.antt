-- A file that is to have one term says one thing or has one fault, where each term does.
use Rattle.std.proofs.Common.{◌≡◌, ℕ, List, [], ◌∷◌, ◌⊎◌, inl, inr, refl, sym, ap, subst, ◌∙◌}
use Rattle.erl_term.specs.TermFault.{TermFault}
use Rattle.erl_term.specs.Value.{Value}
use Rattle.erl_term.specs.Grammar.{Reads, Reading}
use Rattle.erl_term.specs.Faults.{IsFault}
use Rattle.erl_term.proofs.Exact.{one_reading, never_both as reads_or_fails, reads_or_fault}
use Rattle.erl_term.proofs.OneFault.{one_fault as one_term_fault}
use Rattle.rel_files.specs.Fault.{Fault}
use Rattle.rel_files.specs.Fault.Fault.{bad_term, bad_shape}
use Rattle.rel_files.specs.OneTermFile.{HasFileTerm, HasTermAt, AreNotOne, HasNoTerm, TermOfFileSays, HasFileFault}

-- the one term of a file and its place
pub one_term : (bytes : List ℕ) (r s : Reading) → Reads 64 bytes (r ∷ []) → Reads 64 bytes (s ∷ []) → r ≡ s
one_term bytes r s p q = let same : r ∷ [] ≡ s ∷ [] = one_reading 64 bytes (r ∷ []) (s ∷ []) p q in cc

pub has_term : (bytes : List ℕ) (at : ℕ) (v : Value) → HasTermAt bytes at v → HasFileTerm bytes v
has_term bytes at v (r, reads, is, from) = (r, reads, is)

pub one_value : (bytes : List ℕ) (v w : Value) → HasFileTerm bytes v → HasFileTerm bytes w → v ≡ w
one_value bytes v w (p, reads, is) (q, reads_too, also) = sym is ∙ (ap (λ (r : Reading). r.term) (one_term bytes p q reads reads_too) ∙ also)

one_place : (bytes : List ℕ) (at at' : ℕ) (v w : Value) → HasTermAt bytes at v → HasTermAt bytes at' w → at ≡ at'
one_place bytes at at' v w (p, reads, is, from) (q, reads_too, also, from') = sym from ∙ (ap (λ (r : Reading). r.from) (one_term bytes p q reads reads_too) ∙ from')

-- a text with one term has no other number of them, and reads
never_none : (bytes : List ℕ) (v : Value) (f : Fault) → HasFileTerm bytes v → HasNoTerm bytes f → ⊥
never_none bytes v f (r, reads, is_it) (inl (e, is, fault)) = reads_or_fails 64 bytes (r ∷ []) e reads fault
never_none bytes v f (r, reads, is_it) (inr (rs, reads_too, count)) = subst (λ ts. AreNotOne ts f) (one_reading 64 bytes rs (r ∷ []) reads_too reads) count

one_count : (rs : List Reading) (f g : Fault) → AreNotOne rs f → AreNotOne rs g → f ≡ g
one_count [] f g p q = p ∙ sym q
one_count (r ∷ []) f g p q = absurd p
one_count (r ∷ s ∷ rs) f g p q = p ∙ sym q

one_no_term : (bytes : List ℕ) (f g : Fault) → HasNoTerm bytes f → HasNoTerm bytes g → f ≡ g
one_no_term bytes f g (inl (d, is, p)) (inl (e, also, q)) = is ∙ (ap bad_term (one_term_fault 64 bytes d e p q) ∙ sym also)
one_no_term bytes f g (inl (d, is, p)) (inr (rs, reads, q)) = absurd (reads_or_fails 64 bytes rs d reads p)
one_no_term bytes f g (inr (rs, reads, p)) (inl (e, also, q)) = absurd (reads_or_fails 64 bytes rs e reads q)
one_no_term bytes f g (inr (rs, reads, p)) (inr (ss, reads_too, q)) =
    one_count ss f g (subst (λ ts. AreNotOne ts f) (one_reading 64 bytes rs ss reads reads_too) p) q

-- What a file says its term says, whatever is read as that.
pub of_its_term : {X : Type 0} (says : Value → X → Type 0) (bytes : List ℕ) (x : X) (v : Value) (file : TermOfFileSays says bytes x) → v ≡ file.1.0.term → says v x
of_its_term says bytes x v file read = subst (λ (w : Value). says w x) (sym (read ∙ file.1.2)) file.2

-- A file says one thing at most.
module _ {X : Type 0} (says : Value → X → Type 0) (one : (v : Value) (x y : X) → says v x → says v y → x ≡ y) where
  pub file_says_one : (bytes : List ℕ) (x y : X) → TermOfFileSays says bytes x → TermOfFileSays says bytes y → x ≡ y
  file_says_one bytes x y (v, has, is) (w, has_too, also) = one w x y (subst (λ z. says z x) (one_value bytes v w has has_too) is) also

-- A file has one fault at most.
module _ (fails : Value → ℕ → Fault → Type 0) (one : (v : Value) (at : ℕ) (f g : Fault) → fails v at f → fails v at g → f ≡ g) where
  pub one_file_fault : (bytes : List ℕ) (f g : Fault) → HasFileFault fails bytes f → HasFileFault fails bytes g → f ≡ g
  one_file_fault bytes f g (inl p) (inl q) = one_no_term bytes f g p q
  one_file_fault bytes f g (inl p) (inr (at, v, has, fault)) = absurd (never_none bytes v f (has_term bytes at v has) p)
  one_file_fault bytes f g (inr (at, v, has, fault)) (inl q) = absurd (never_none bytes v g (has_term bytes at v has) q)
  one_file_fault bytes f g (inr (at, v, has, fault)) (inr (at', w, has_too, fault_too)) =
      let same = one_value bytes v w (has_term bytes at v has) (has_term bytes at' w has_too) in
      one w at' f g (subst (λ z. fails z at' f) same (subst (λ a. fails v a f) (one_place bytes at at' v w has has_too) fault)) fault_too

-- No file both says something and has a fault.
module _ {X : Type 0} (says : Value → X → Type 0) (fails : Value → ℕ → Fault → Type 0) (never : (v : Value) (at : ℕ) (x : X) (f : Fault) → says v x → fails v at f → ⊥) where
  pub never_both_of_file : (bytes : List ℕ) (x : X) (f : Fault) → TermOfFileSays says bytes x → HasFileFault fails bytes f → ⊥
  never_both_of_file bytes x f (v, has, is) (inl none) = never_none bytes v f has none
  never_both_of_file bytes x f (v, has, is) (inr (at, w, has_too, fault)) =
      never v at x f is (subst (λ z. fails z at f) (one_value bytes w v (has_term bytes at w has_too) has) fault)

-- Each file says something or has a fault.
module _ {X : Type 0} (says : Value → X → Type 0) (fails : Value → ℕ → Fault → Type 0) (either : (v : Value) (at : ℕ) → ((x : X) × says v x) ⊎ ((f : Fault) × fails v at f)) where
  abbrev FileCases : List ℕ → Type 0
  FileCases bytes = ((x : X) × TermOfFileSays says bytes x) ⊎ ((f : Fault) × HasFileFault fails bytes f)

  of_terms : (bytes : List ℕ) (rs : List Reading) → Reads 64 bytes rs → FileCases bytes
  of_terms bytes [] reads = inr (bad_shape 0, inl (inr ([], reads, refl)))
  of_terms bytes (p ∷ q ∷ rs) reads = inr (bad_shape p.from, inl (inr (p ∷ q ∷ rs, reads, refl)))
  of_terms bytes (p ∷ []) reads = go (either p.term p.from)
    where
      go : ((x : X) × says p.term x) ⊎ ((f : Fault) × fails p.term p.from f) → FileCases bytes
      go (inl (x, is)) = inl (x, (p.term, (p, reads, refl), is))
      go (inr (f, fault)) = inr (f, inr (p.from, p.term, (p, reads, refl, refl), fault))

  pub either_of_file : (bytes : List ℕ) → FileCases bytes
  either_of_file bytes = go (reads_or_fault 64 bytes)
    where
      go : ((rs : List Reading) × Reads 64 bytes rs) ⊎ ((e : TermFault) × IsFault 64 bytes e) → FileCases bytes
      go (inl (rs, reads)) = of_terms bytes rs reads
      go (inr (e, is)) = inr (bad_term e, inl (inl (e, refl, is)))
