-- The pairs of an application's term, and the value of a key, both ways: what is read of them is there, and nothing else is read.
use Rattle.std.proofs.Common.{◌≡◌, ◌≢◌, ℕ, Bool, true, false, List, [], ◌∷◌, ◌++◌, map, Option, Some, None, if◌then◌else◌, refl, sym, ap, ◌∙◌}
use Rattle.std.specs.List.{find}
use Rattle.std.specs.Option.{option_map, option_and_then}
use Rattle.std.proofs.lemmas.Bool.{false_from_ne_true}
use Rattle.std.proofs.lemmas.Slice.Eq.{bytes_eq-Decides}
use Rattle.erl_term.specs.Value.{Value, Values, values_of}
use Rattle.erl_term.specs.Value.Value.{atom, list}
use Rattle.rel_files.specs.Parts.{list_in, pair_in, is_word}
use Rattle.rel_files.specs.Terms.{list_of}
use Rattle.rel_files.proofs.Options.{chained}
use Rattle.rel_files.proofs.Rows.{ReadsEach, from_each}
use Rattle.rel_files.proofs.TermParts.{from_list, from_pair, from_is_word}
use Rattle.rel_files.specs.AppParts.{pairs_in, value_at}
use Rattle.rel_files.specs.AppForm.{entry_term, Lacks, HasFirst}

-- pairs
pub reads_pairs : ReadsEach pair_in pairs_in
reads_pairs = record { none = refl; more = λ v vs. refl }

pub pairs_in-entries : (pairs : List (Value × Value)) → pairs_in (values_of (map entry_term pairs)) ≡ Some pairs
pairs_in-entries [] = refl
pairs_in-entries (p ∷ pairs) = ap (option_map (λ (ps : List (Value × Value)). p ∷ ps)) (pairs_in-entries pairs)

from_pairs : (vs : Values) (pairs : List (Value × Value)) → pairs_in vs ≡ Some pairs → vs ≡ values_of (map entry_term pairs)
from_pairs vs pairs e = (from_each pair_in pairs_in reads_pairs entry_term (λ p. Unit {0}) (λ v p is. (from_pair v p is, tt)) vs pairs e).0

pub from_pair_list : (v : Value) (pairs : List (Value × Value)) → option_and_then pairs_in (list_in v) ≡ Some pairs → v ≡ list_of (map entry_term pairs)
from_pair_list v pairs e =
    let listed = chained pairs_in (list_in v) pairs e in from_list v listed.0 listed.1 ∙ ap list (from_pairs listed.0 pairs listed.2)

-- keys
is_key : (key : List ℕ) → is_word key (atom key) ≡ true
is_key key = (bytes_eq-Decides key key).1 refl

no_key : (key : List ℕ) (v : Value) → v ≢ atom key → is_word key v ≡ false
no_key key v other = false_from_ne_true (is_word key v) (λ is. other (from_is_word key v is))

from_no_key : (key : List ℕ) (v : Value) → is_word key v ≡ false → v ≢ atom key
from_no_key key v is same = let wrong : false ≡ true = sym is ∙ (ap (is_word key) same ∙ is_key key) in cc

-- the value of the first pair of a key, if this is it, or else what is found after it
abbrev first_or : Bool → Value × Value → Option (Value × Value) → Option Value
first_or b p later = option_map (λ (q : Value × Value). q.1) (if b then Some p else later)

abbrev found : List ℕ → List (Value × Value) → Option (Value × Value)
found key pairs = find (λ (p : Value × Value). is_word key p.0) pairs

behind : (key : List ℕ) (before after : List (Value × Value)) (v : Value) → Lacks before key → value_at key (before ++ ((atom key, v) ∷ after)) ≡ Some v
behind key [] after v none = ap (λ (b : Bool). first_or b (atom key, v) (found key after)) (is_key key)
behind key (p ∷ before) after v none =
    ap (λ (b : Bool). first_or b p (found key (before ++ ((atom key, v) ∷ after)))) (no_key key p.0 none.0) ∙ behind key before after v none.1

pub value_at-first : (key : List ℕ) (pairs : List (Value × Value)) (v : Value) → HasFirst pairs key v → value_at key pairs ≡ Some v
value_at-first key pairs v has = ap (value_at key) has.is ∙ behind key has.before has.after v has.first

pub value_at-lacking : (key : List ℕ) (pairs : List (Value × Value)) → Lacks pairs key → value_at key pairs ≡ None
value_at-lacking key [] none = refl
value_at-lacking key (p ∷ pairs) none = ap (λ (b : Bool). first_or b p (found key pairs)) (no_key key p.0 none.0) ∙ value_at-lacking key pairs none.1

pub from_value : (key : List ℕ) (pairs : List (Value × Value)) (v : Value) → value_at key pairs ≡ Some v → HasFirst pairs key v
from_value key [] v e = absurd cc
from_value key (p ∷ pairs) v e = go (is_word key p.0) refl (from_value key pairs v) e
  where
    go : (b : Bool) → is_word key p.0 ≡ b → (value_at key pairs ≡ Some v → HasFirst pairs key v) → first_or b p (found key pairs) ≡ Some v
        → HasFirst (p ∷ pairs) key v
    go true is later e = let same : p.1 ≡ v = cc in record { before = []; after = pairs; is = λ j. (from_is_word key p.0 is j, same j) ∷ pairs; first = tt }
    go false is later e =
        let rest = later e in
        record { before = p ∷ rest.before; after = rest.after; is = ap (λ (ps : List (Value × Value)). p ∷ ps) rest.is; first = (from_no_key key p.0 is, rest.first) }

pub from_no_value : (key : List ℕ) (pairs : List (Value × Value)) → value_at key pairs ≡ None → Lacks pairs key
from_no_value key [] e = tt
from_no_value key (p ∷ pairs) e = go (is_word key p.0) refl (from_no_value key pairs) e
  where
    go : (b : Bool) → is_word key p.0 ≡ b → (value_at key pairs ≡ None → Lacks pairs key) → first_or b p (found key pairs) ≡ None → Lacks (p ∷ pairs) key
    go true is later e = absurd cc
    go false is later e = (from_no_key key p.0 is, later e)
