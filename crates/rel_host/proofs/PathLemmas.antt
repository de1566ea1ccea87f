-- The parts of a path, one after the other.
use Rattle.std.proofs.Common.{◌≡◌, ◌∙◌, ℕ, ◌<◌, ◌==◌, ◌||◌, List, length, false, ap, subst, sym, codes}
use Rattle.std.proofs.lemmas.List.Elements.{All-from_get_or}
use Rattle.std.proofs.lemmas.List.Sums.{fails_before_first}
use mathlib.Core.Bool.{or-false}
use Rattle.std.specs.List.{All, list_any, position_or_len, before_first, after_first}
use Rattle.std.specs.Str.{bytes_eq}
use Rattle.std.proofs.lemmas.List.Splits.{slice_split_first, slice_split_none}
use Rattle.rel_host.specs.Paths.{climbs}

-- after a part that is not `..` all is as in the whole path
pub climbs_behind : (path part behind : List ℕ) → position_or_len (λ b. b == 47) path < length path → part ≡ before_first (λ b. b == 47) path
    → behind ≡ after_first (λ b. b == 47) path → bytes_eq part (codes "..") ≡ false → climbs behind ≡ climbs path
climbs_behind path part behind within is_part is_behind down =
    let first = ap (list_any (λ p. bytes_eq p (codes ".."))) (slice_split_first (λ (b : ℕ). b == 47) path 0 within) in
    let no : bytes_eq (before_first (λ b. b == 47) path) (codes "..") ≡ false = ap (λ (p : List ℕ). bytes_eq p (codes "..")) (sym is_part) ∙ down in
    ap climbs is_behind ∙ sym (first ∙ ap (λ b. b || climbs (after_first (λ b. b == 47) path)) no)

-- a path without '/' is one part
pub climbs_last : (path : List ℕ) → position_or_len (λ b. b == 47) path ≡ length path → climbs path ≡ bytes_eq path (codes "..")
climbs_last path whole =
    let each : All (λ (b : ℕ). (b == 47) ≡ false) path = All-from_get_or (λ (b : ℕ). (b == 47) ≡ false) path 0 (λ k lt. fails_before_first (λ (b : ℕ). b == 47) path k 0 (subst (λ n. k < n) (sym whole) lt)) in
    ap (list_any (λ p. bytes_eq p (codes ".."))) (slice_split_none (λ (b : ℕ). b == 47) path each) ∙ or-false (bytes_eq path (codes ".."))
