-- Pieces of instructions, both ways: what is read of the term of a piece is that piece, and only of its term.
use Rattle.std.proofs.Common.{◌≡◌, ℕ, Bool, List, [], ◌∷◌, Some, None, codes, length, if◌then◌else◌, refl, ap, subst, ◌∙◌}
use Rattle.erl_term.specs.declared.term.Term.{Term}
use Rattle.erl_term.specs.Value.{Value, Values, members_of}
use Rattle.erl_term.specs.Value.Value.{int, atom}
use Rattle.erl_term.specs.Value.Values.{no_values, value}
use Rattle.rel_files.specs.Parts.{word_in}
use Rattle.rel_files.proofs.Options.{chained, passed, choose}
use Rattle.rel_files.proofs.TermParts.{from_word}
use Rattle.relup_instruction.specs.declared.instruction.Direction.{Direction}
use Rattle.relup_instruction.specs.declared.instruction.Direction.TheVariants.{Up, Down}
use Rattle.relup_instruction.specs.declared.instruction.Timeout.{Timeout}
use Rattle.relup_instruction.specs.declared.instruction.Timeout.TheVariants.{Default, Infinity, Milliseconds}
use Rattle.relup_instruction.specs.declared.instruction.PurgeMode.{PurgeMode}
use Rattle.relup_instruction.specs.declared.instruction.PurgeMode.TheVariants.{Soft, Brutal}
use Rattle.relup_instruction.specs.Form.{one, purge_word, direction_word, timeout_term, is_natural, IsTimeout}
use Rattle.relup_instruction.specs.Parts.{one_in, purge_mode_of, purge_mode_in, direction_of, mode_in, timeout_in}

-- another number of terms than one
pub not_one : (ts : List Term) → (length ts ≡ 1 → ⊥) → None ≡ one_in (members_of ts)
not_one [] other = refl
not_one (t ∷ []) other = absurd (other refl)
not_one (t ∷ u ∷ ts) other = refl

pub from_one : (vs : Values) (v : Value) → one_in vs ≡ Some v → vs ≡ one v
from_one (value w no_values) v e = let same : w ≡ v = cc in ap one same
from_one vs v e = absurd cc

pub purge_mode_of-word : (m : PurgeMode) → purge_mode_of (purge_word m) ≡ Some m
purge_mode_of-word Soft = refl
purge_mode_of-word Brutal = refl

from_purge_mode_of : (s : List ℕ) (m : PurgeMode) → purge_mode_of s ≡ Some m → s ≡ purge_word m
from_purge_mode_of s m e =
    choose (s ≡ purge_word m) s (purge_word Soft) (Some Soft) _ m (λ is here. let same : Soft ≡ m = cc in is ∙ ap purge_word same)
    (λ later. choose (s ≡ purge_word m) s (purge_word Brutal) (Some Brutal) None m (λ is here. let same : Brutal ≡ m = cc in is ∙ ap purge_word same)
    (λ none. absurd cc) later) e

pub from_purge_mode : (v : Value) (m : PurgeMode) → purge_mode_in v ≡ Some m → v ≡ atom (purge_word m)
from_purge_mode v m e =
    let word = chained purge_mode_of (word_in v) m e in
    from_word v word.0 word.1 ∙ ap atom (from_purge_mode_of word.0 m word.2)

pub direction_of-word : (d : Direction) → direction_of (direction_word d) ≡ Some d
direction_of-word Up = refl
direction_of-word Down = refl

from_direction_of : (s : List ℕ) (d : Direction) → direction_of s ≡ Some d → s ≡ direction_word d
from_direction_of s d e =
    choose (s ≡ direction_word d) s (direction_word Up) (Some Up) _ d (λ is here. let same : Up ≡ d = cc in is ∙ ap direction_word same)
    (λ later. choose (s ≡ direction_word d) s (direction_word Down) (Some Down) None d (λ is here. let same : Down ≡ d = cc in is ∙ ap direction_word same)
    (λ none. absurd cc) later) e

pub from_mode : (v : Value) (d : Direction) → mode_in v ≡ Some d → v ≡ atom (direction_word d)
from_mode v d e =
    let word = chained direction_of (word_in v) d e in
    from_word v word.0 word.1 ∙ ap atom (from_direction_of word.0 d word.2)

pub timeout_in-term : (t : Timeout) → IsTimeout (Some t) → timeout_in (timeout_term t) ≡ Some t
timeout_in-term Default h = refl
timeout_in-term Infinity h = refl
timeout_in-term (Milliseconds n) h = ap (λ (b : Bool). if b then Some (Milliseconds n) else None) h

pub from_timeout : (v : Value) (t : Timeout) → timeout_in v ≡ Some t → (v ≡ timeout_term t) × IsTimeout (Some t)
from_timeout (atom s) t e =
    let P : Timeout → Type 0 = λ u. (atom s ≡ timeout_term u) × IsTimeout (Some u) in
    choose (P t) s (codes "default") (Some Default) _ t (λ is here. let same : Default ≡ t = cc in subst P same (ap atom is, tt))
    (λ later. choose (P t) s (codes "infinity") (Some Infinity) None t (λ is here. let same : Infinity ≡ t = cc in subst P same (ap atom is, tt))
    (λ none. absurd cc) later) e
from_timeout (int n) t e =
    let P : Timeout → Type 0 = λ u. (int n ≡ timeout_term u) × IsTimeout (Some u) in
    let natural = passed (is_natural n) (Some (Milliseconds n)) t e in
    let same : Milliseconds n ≡ t = let some : Some (Milliseconds n) ≡ Some t = natural.1 in cc in
    subst P same (refl, natural.0)
from_timeout v t e = absurd cc
