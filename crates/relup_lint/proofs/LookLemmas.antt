-- What is found under a name in rows, and in what they stand for.
use Rattle.std.proofs.Common.{◌≡◌, ℕ, Bool, true, false, cond, List, [], ◌∷◌, map, Some, Bor, refl}
use Rattle.std.specs.Map.{lookup}
use Rattle.std.specs.Option.{option_map}
use Rattle.std.specs.Str.{bytes_eq}
use Rattle.relup_lint.specs.Names.{first_under}

pub looked_up : {V W : Type 0} (f : V → W) (name : List ℕ) (rows : List (Bor (List ℕ) × V))
    → option_map f (first_under name rows) ≡ lookup (bytes_eq name) (map (λ (r : Bor (List ℕ) × V). (r.0.now, f r.1)) rows)
looked_up f name [] = refl
looked_up {V} {W} f name (r ∷ rows) = go (bytes_eq name r.0.now) (looked_up f name rows)
  where
    go : (b : Bool) → option_map f (first_under name rows) ≡ lookup (bytes_eq name) (map (λ (q : Bor (List ℕ) × V). (q.0.now, f q.1)) rows)
        → option_map f (cond b (Some r.1) (first_under name rows)) ≡ cond b (Some (f r.1)) (lookup (bytes_eq name) (map (λ (q : Bor (List ℕ) × V). (q.0.now, f q.1)) rows))
    go true later = refl
    go false later = later

pub looked_up_plain : {V : Type 0} (name : List ℕ) (rows : List (Bor (List ℕ) × V))
    → first_under name rows ≡ lookup (bytes_eq name) (map (λ (r : Bor (List ℕ) × V). (r.0.now, r.1)) rows)
looked_up_plain name [] = refl
looked_up_plain {V} name (r ∷ rows) = go (bytes_eq name r.0.now) (looked_up_plain name rows)
  where
    go : (b : Bool) → first_under name rows ≡ lookup (bytes_eq name) (map (λ (q : Bor (List ℕ) × V). (q.0.now, q.1)) rows)
        → cond b (Some r.1) (first_under name rows) ≡ cond b (Some r.1) (lookup (bytes_eq name) (map (λ (q : Bor (List ℕ) × V). (q.0.now, q.1)) rows))
    go true later = refl
    go false later = later
