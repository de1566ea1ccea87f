-- What comes one after another from an input of which only so many bytes are read.
use Rattle.std.specs.Prelude.{◌≡◌, ℕ, ◌-◌, ◌≤◌, List, [], ◌∷◌, Option, Some, None, Ok, Err, Result, if◌then◌else◌, ◌==◌}
use Rattle.session_input.specs.declared.error.SessionError.{SessionError}
use Rattle.session_input.specs.declared.error.SessionError.TheVariants.{Read, Limit}

-- What an input gives, one after another: up to its end, or to where more of it is needed than is read.
pub data Feed (A : Type 0) : Type 0 where
  over : Feed A
  cut : Feed A
  next : A → Feed A → Feed A

-- the bytes, of which only so many are read
abbrev pub bytes_within : ℕ → List ℕ → Feed ℕ
bytes_within most [] = if most == 0 then cut else over
bytes_within most (x ∷ xs) = if most == 0 then cut else next x (bytes_within (most - 1) xs)

-- what is known to come begins with one of which P says something, and new comes after it
abbrev pub Gives : {A : Type 0} → Option (Feed A) → Option (Feed A) → (A → Type 0) → Type 0
Gives None new P = Unit {0}
Gives (Some old) None P = ⊥
Gives {A} (Some old) (Some new) P = (a : A) × (old ≡ next a new) × P a

-- what is known to come stays as it was
abbrev pub Stays : {A : Type 0} → Option (Feed A) → Option (Feed A) → Type 0
Stays None new = Unit {0}
Stays (Some old) None = ⊥
Stays (Some old) (Some new) = new ≡ old

-- Nothing is known to come but this end.
abbrev pub EndsAs : {A : Type 0} → Feed A → Option (Feed A) → Option (Feed A) → Type 0
EndsAs end None new = Unit {0}
EndsAs end (Some old) None = ⊥
EndsAs end (Some old) (Some new) = (old ≡ end) × (new ≡ end)

-- The answer of a call that takes the next one: it, or that there is none, wherever from there on the reading may stop; or that
-- more is needed. So what was read by then holds no further one, where a read fails too.
abbrev pub IsNext : {A V : Type 0} → (V → A → Type 0) → Result (Option V) SessionError → ℕ → (ℕ → Option (Feed A))
    → (ℕ → Option (Feed A)) → Type 0
IsNext Shows (Ok (Some v)) reached old new = (most : ℕ) → reached ≤ most → Gives (old most) (new most) (Shows v)
IsNext Shows (Ok None) reached old new = (most : ℕ) → reached ≤ most → EndsAs over (old most) (new most)
IsNext Shows (Err Limit) reached old new = EndsAs cut (old reached) (new reached)
IsNext Shows (Err Read) reached old new = EndsAs cut (old reached) (new reached)
IsNext Shows (Err e) reached old new = Unit {0}
