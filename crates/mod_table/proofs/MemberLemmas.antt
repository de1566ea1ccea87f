-- Rows of another number of terms than they are to have.
use Rattle.std.proofs.Common.{◌≡◌, ℕ, false, List, [], ◌∷◌, length, get_or, Some, None, refl}
use Rattle.erl_term.specs.declared.term.Term.{Term}
use Rattle.erl_term.specs.Value.{Value, Values, value_of, members_of}
use Rattle.erl_term.specs.Value.Value.{atom}
use Rattle.erl_term.specs.Value.Values.{value}
use Rattle.mod_table.specs.Children.{is_only, child_members}

pub not_six : (ts : List Term) → (length ts ≡ 6 → ⊥) → None ≡ child_members (members_of ts)
not_six [] other = refl
not_six (a ∷ []) other = refl
not_six (a ∷ b ∷ []) other = refl
not_six (a ∷ b ∷ c ∷ []) other = refl
not_six (a ∷ b ∷ c ∷ d ∷ []) other = refl
not_six (a ∷ b ∷ c ∷ d ∷ e ∷ []) other = refl
not_six (a ∷ b ∷ c ∷ d ∷ e ∷ f ∷ []) other = absurd (other refl)
not_six (a ∷ b ∷ c ∷ d ∷ e ∷ f ∷ g ∷ ts) other = refl

-- more than one is not one atom alone
many : (name : List ℕ) (v w : Value) (vs : Values) → false ≡ is_only name (value v (value w vs))
many name (atom s) w vs = refl
many name v w vs = refl

pub not_one : (name : List ℕ) (ts : List Term) → (length ts ≡ 1 → ⊥) → false ≡ is_only name (members_of ts)
not_one name [] other = refl
not_one name (t ∷ []) other = absurd (other refl)
not_one name (t ∷ u ∷ ts) other = many name (value_of t) (value_of u) (members_of ts)

-- the six of a child specification
pub six : (ts : List Term) (i s r d k m : Term) → length ts ≡ 6 → i ≡ get_or ts 0 i → s ≡ get_or ts 1 s → r ≡ get_or ts 2 r → d ≡ get_or ts 3 d
    → k ≡ get_or ts 4 k → m ≡ get_or ts 5 m
    → Some (record { id = value_of i; start = value_of s; restart = value_of r; shutdown = value_of d; kind = value_of k; modules = value_of m })
    ≡ child_members (members_of ts)
six (a ∷ b ∷ c ∷ e ∷ f ∷ g ∷ []) i s r d k m are p q u v w x = λ j.
    Some (record { id = value_of (p j); start = value_of (q j); restart = value_of (u j); shutdown = value_of (v j); kind = value_of (w j); modules = value_of (x j) })
six ts i s r d k m are p q u v w x = absurd cc
