-- What a session has written, and may write.
use Rattle.std.specs.Prelude.{ℕ, List, Option}
use Rattle.std.specs.Io.KnownBytes.{Appends}

-- known bytes grow by a text of which P says something
abbrev pub Writes : Option (List ℕ) → Option (List ℕ) → (List ℕ → Type 0) → Type 0
Writes old new P = (text : List ℕ) × Appends old new text × P text

-- this text may be written after these bytes, where such bytes are allowed
abbrev pub MayAdd : (Option (List ℕ) → Type 0) → Option (List ℕ) → List ℕ → Type 0
MayAdd Allowed old text = (new : Option (List ℕ)) → Appends old new text → Allowed new
