-- A file of a kind says one thing or has one fault.
use Rattle.std.proofs.Common.{◌≡◌, ℕ, Bool, true, false, List, Option, Some, None, ◌⊎◌, inl, inr, refl, sym, ap, subst, ◌∙◌}
use Rattle.erl_term.specs.Value.{Value}
use Rattle.rel_files.specs.Fault.{Fault}
use Rattle.rel_files.specs.Fault.Fault.{bad_term, bad_shape, duplicate, bad_version, no_memory}
use Rattle.rel_files.specs.Name.{AreDistinct, IsFirstTwice}
use Rattle.rel_files.specs.Kind.{Kind, TermSays, HasTermFault, Says, HasFault}
use Rattle.rel_files.proofs.Distinct.{distinct_or_twice, never_both, one_twice}
use Rattle.rel_files.proofs.OneTermFile.{file_says_one, one_file_fault, never_both_of_file, either_of_file}

module _ {X : Type 0} (k : Kind X) where
  one_shape : (v : Value) (x y : X) → k.read v ≡ Some x → k.read v ≡ Some y → x ≡ y
  one_shape v x y p q = let same : Some x ≡ Some y = sym p ∙ q in cc

  shapeless : (v : Value) (x : X) → k.read v ≡ None → k.read v ≡ Some x → ⊥
  shapeless v x p q = let same : None ≡ Some x = sym p ∙ q in cc

  same_twice : (v : Value) (x y : X) (n : List ℕ) → k.read v ≡ Some x → k.read v ≡ Some y → IsFirstTwice (k.names x) n → IsFirstTwice (k.names y) n
  same_twice v x y n p q twice = subst (λ z. IsFirstTwice (k.names z) n) (one_shape v x y p q) twice

  -- the fault of a term is one
  one_of_term : (v : Value) (at : ℕ) (f g : Fault) → HasTermFault k v at f → HasTermFault k v at g → f ≡ g
  one_of_term v at (bad_term e) g p q = absurd p
  one_of_term v at no_memory g p q = absurd p
  one_of_term v at f (bad_term e) p q = absurd q
  one_of_term v at f no_memory p q = absurd q
  one_of_term v at (bad_shape a) (bad_shape b) p q = ap bad_shape (p.1 ∙ sym q.1)
  one_of_term v at (bad_shape a) (duplicate n) p q = absurd (shapeless v q.0 p.0 q.1)
  one_of_term v at (bad_shape a) bad_version p q = absurd (shapeless v q.0 p.0 q.1)
  one_of_term v at (duplicate m) (bad_shape b) p q = absurd (shapeless v p.0 q.0 p.1)
  one_of_term v at (duplicate m) (duplicate n) p q = ap duplicate (one_twice (k.names q.0) m n (same_twice v p.0 q.0 m p.1 q.1 p.2) q.2)
  one_of_term v at (duplicate m) bad_version p q = absurd (never_both (k.names q.0) m q.2 (same_twice v p.0 q.0 m p.1 q.1 p.2))
  one_of_term v at bad_version (bad_shape b) p q = absurd (shapeless v p.0 q.0 p.1)
  one_of_term v at bad_version (duplicate n) p q = absurd (never_both (k.names p.0) n p.2 (same_twice v q.0 p.0 n q.1 p.1 q.2))
  one_of_term v at bad_version bad_version p q = refl

  -- a term that says something has no fault
  pub never_of_term : (v : Value) (at : ℕ) (x : X) (f : Fault) → TermSays k v x → HasTermFault k v at f → ⊥
  never_of_term v at x (bad_term e) says p = p
  never_of_term v at x (bad_shape a) says p = shapeless v x p.0 says.shape
  never_of_term v at x (duplicate n) says p = never_both (k.names x) n says.distinct (same_twice v p.0 x n p.1 says.shape p.2)
  never_of_term v at x bad_version says p =
      let wrong : false ≡ true = sym p.3 ∙ (ap k.has_versions (one_shape v p.0 x p.1 says.shape) ∙ says.versions) in cc
  never_of_term v at x no_memory says p = p

  abbrev TermCases : Value → ℕ → Type 0
  TermCases v at = ((x : X) × TermSays k v x) ⊎ ((f : Fault) × HasTermFault k v at f)

  -- a term says something or has a fault, by its shape, its names and its versions
  of_versions : (v : Value) (at : ℕ) (x : X) → k.read v ≡ Some x → AreDistinct (k.names x) → (b : Bool) → k.has_versions x ≡ b → TermCases v at
  of_versions v at x shape distinct true is = inl (x, record { shape = shape; distinct = distinct; versions = is })
  of_versions v at x shape distinct false is = inr (bad_version, (x, shape, distinct, is))

  of_names : (v : Value) (at : ℕ) (x : X) → k.read v ≡ Some x → AreDistinct (k.names x) ⊎ ((n : List ℕ) × IsFirstTwice (k.names x) n) → TermCases v at
  of_names v at x shape (inl distinct) = of_versions v at x shape distinct (k.has_versions x) refl
  of_names v at x shape (inr (n, twice)) = inr (duplicate n, (x, shape, twice))

  of_shape : (v : Value) (at : ℕ) (o : Option X) → k.read v ≡ o → TermCases v at
  of_shape v at None is = inr (bad_shape at, (is, refl))
  of_shape v at (Some x) is = of_names v at x is (distinct_or_twice (k.names x))

  of_term : (v : Value) (at : ℕ) → TermCases v at
  of_term v at = of_shape v at (k.read v) refl

  -- No file of the kind says two things.
  pub says_one : (bytes : List ℕ) (x y : X) → Says k bytes x → Says k bytes y → x ≡ y
  says_one bytes x y says also = file_says_one (TermSays k) (λ v x y is is_too. one_shape v x y is.shape is_too.shape) bytes x y says also

  -- No file of the kind has two faults.
  pub one_fault : (bytes : List ℕ) (f g : Fault) → HasFault k bytes f → HasFault k bytes g → f ≡ g
  one_fault bytes f g p q = one_file_fault (HasTermFault k) one_of_term bytes f g p q

  -- No file of the kind both says something and has a fault.
  pub never_says_and_fails : (bytes : List ℕ) (x : X) (f : Fault) → Says k bytes x → HasFault k bytes f → ⊥
  never_says_and_fails bytes x f says fails = never_both_of_file (TermSays k) (HasTermFault k) never_of_term bytes x f says fails

  -- Each file says something of the kind or has a fault.
  pub says_or_fault : (bytes : List ℕ) → ((x : X) × Says k bytes x) ⊎ ((f : Fault) × HasFault k bytes f)
  says_or_fault bytes = either_of_file (TermSays k) (HasTermFault k) of_term bytes
