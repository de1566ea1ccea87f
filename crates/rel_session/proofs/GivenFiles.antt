-- One more file.
use Rattle.std.proofs.Common.{◌≡◌, ℕ, Bool, true, false, List, ap, ◌∙◌, refl}
use Rattle.std.specs.Prelude.{Option, Some, String, string_bytes, bytes_eq, cond}
use Rattle.std.specs.Option.{option_map}
use Rattle.std.specs.String.{string_eq}
use Rattle.std.specs.declared.alloc.Global.{Global}
use Rattle.std.specs.HashMap.{HashMap, UpdatesBy, get_by_text}
use Rattle.std.proofs.lemmas.Map.Text.{hash_map_updates_text}
use Rattle.session_input.specs.declared.given.GivenFile.{GivenFile}
use Rattle.session_input.specs.Commands.{given_of}
use Rattle.rel_session.specs.Files.{give}

option_map-cond : (b : Bool) (g : GivenFile) (o : Option GivenFile) → option_map given_of (cond b (Some g) o) ≡ cond b (Some (given_of g)) (option_map given_of o)
option_map-cond true g o = refl
option_map-cond false g o = refl

-- the files after one was given
pub given_more : {S : Type 0} (m n : HashMap (String Global) GivenFile S) (path : String Global) (g : GivenFile)
    → UpdatesBy string_eq (string_eq path) m n (Some g)
    → (λ (q : List ℕ). option_map given_of (get_by_text n q)) ≡ give (λ q. option_map given_of (get_by_text m q)) (string_bytes path) (given_of g)
given_more m n path g u = λ i q.
    (ap (option_map given_of) (hash_map_updates_text (string_bytes path) m n (Some g) u q)
    ∙ option_map-cond (bytes_eq (string_bytes path) q) g (get_by_text m q)) i
