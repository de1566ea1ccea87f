-- One thing after another, where the first refusal counts.
use Rattle.std.specs.Prelude.{◌≡◌, ◌≢◌, ◌⊎◌, List, [], ◌∷◌, Result, Ok, Err}
use Rattle.rel_unpack.specs.declared.error.UnpackError.{UnpackError}
use Rattle.rel_unpack.specs.declared.error.UnpackError.TheVariants.{NoMemory}
use Rattle.rel_unpack.specs.Refusal.{Refusal, refusal_of}

-- what may be the outcome of something
abbrev pub Outcome : Type 0 → Type 1
Outcome X = Result X Refusal → Type 0

-- first this, and then that, of what this gives
abbrev pub Then : {A B : Type 0} → Outcome A → (A → Outcome B) → Outcome B
Then {A} {B} P Q (Ok b) = (a : A) × P (Ok a) × Q a (Ok b)
Then {A} {B} P Q (Err e) = P (Err e) ⊎ ((a : A) × P (Ok a) × Q a (Err e))

-- of each in turn, and all that they give
abbrev pub Each : {A B : Type 0} → (A → Outcome B) → List A → Outcome (List B)
Each P [] r = r ≡ Ok []
Each P (a ∷ as') r = Then (P a) (λ b. Then (Each P as') (λ bs s. s ≡ Ok (b ∷ bs))) r

-- the answer of a function is such an outcome, or that no memory was left
abbrev pub Answers : {X Y : Type 0} → (X → Y) → Outcome Y → Result X UnpackError → Type 0
Answers view P (Ok x) = P (Ok (view x))
Answers view P (Err e) = e ≢ NoMemory → P (Err (refusal_of e))
