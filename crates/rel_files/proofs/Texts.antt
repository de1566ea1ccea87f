-- Texts and names as terms, both ways.
use Rattle.std.proofs.Common.{◌≡◌, ℕ, ℤ, pos, suc, Bool, true, List, [], ◌∷◌, map, length, Some, None, if◌then◌else◌, refl, sym, ap, subst, ◌∙◌}
use Rattle.std.specs.List.{AllByRecursion, list_all}
use Rattle.std.specs.Option.{option_map, option_and_then}
use Rattle.erl_term.specs.Value.{Values, values_of}
use Rattle.erl_term.specs.Value.Value.{int, atom}
use Rattle.erl_term.specs.Value.Values.{no_values, value}
use Rattle.erl_term.specs.Lexing.{is_in}
use Rattle.rel_files.specs.Name.{is_name, is_text, IsName}
use Rattle.rel_files.specs.Sketch.{count, are_numbers, character_in, characters_in, text_in, name_in, names_of}
use Rattle.rel_files.proofs.Options.{mapped, chained, passed, both, both_true}
use Rattle.rel_files.specs.Terms.{numbers_of}

-- numbers as terms, one after another
abbrev pub numbers : List ℤ → Values
numbers zs = values_of (map int zs)

pub are_numbers-numbers : (zs : List ℤ) → are_numbers (numbers zs) ≡ true
are_numbers-numbers [] = refl
are_numbers-numbers (z ∷ zs) = are_numbers-numbers zs

pub from_numbers : (vs : Values) → are_numbers vs ≡ true → (zs : List ℤ) × (vs ≡ numbers zs)
from_numbers no_values e = ([], refl)
from_numbers (value (int z) vs) e = let rest = from_numbers vs e in (z ∷ rest.0, ap (value (int z)) rest.1)
from_numbers (value v vs) e = absurd cc

count-numbers : (s : List ℕ) → count (numbers (numbers_of s)) ≡ length s
count-numbers [] = refl
count-numbers (x ∷ s) = ap suc (count-numbers s)

characters_in-numbers : (lowest : ℕ) (s : List ℕ) → list_all (is_in lowest 0x7E) s ≡ true → characters_in lowest (numbers (numbers_of s)) ≡ Some s
characters_in-numbers lowest [] e = refl
characters_in-numbers lowest (x ∷ s) e =
    let parts = both (is_in lowest 0x7E x) (list_all (is_in lowest 0x7E) s) e in
    ap (λ (b : Bool). option_and_then (λ (c : ℕ). option_map (λ (cs : List ℕ). c ∷ cs) (characters_in lowest (numbers (numbers_of s)))) (if b then Some x else None)) parts.0
    ∙ ap (option_map (λ (cs : List ℕ). x ∷ cs)) (characters_in-numbers lowest s parts.1)

from_characters : (lowest : ℕ) (vs : Values) (s : List ℕ) → characters_in lowest vs ≡ Some s → (vs ≡ numbers (numbers_of s)) × (list_all (is_in lowest 0x7E) s ≡ true)
from_characters lowest no_values s e =
    let P : List ℕ → Type 0 = λ t. (no_values ≡ numbers (numbers_of t)) × (list_all (is_in lowest 0x7E) t ≡ true) in
    let same : [] ≡ s = cc in subst P same (refl, refl)
from_characters lowest (value (int (pos n)) vs) s e =
    let P : List ℕ → Type 0 = λ t. (value (int (pos n)) vs ≡ numbers (numbers_of t)) × (list_all (is_in lowest 0x7E) t ≡ true) in
    let first = chained (λ (c : ℕ). option_map (λ (cs : List ℕ). c ∷ cs) (characters_in lowest vs)) (character_in lowest (int (pos n))) s e in
    let char = passed (is_in lowest 0x7E n) (Some n) first.0 first.1 in
    let later = mapped (λ (cs : List ℕ). first.0 ∷ cs) (characters_in lowest vs) s first.2 in
    let rest = from_characters lowest vs later.0 later.1 in
    let same : n ∷ later.0 ≡ s = cc in
    subst P same (ap (value (int (pos n))) rest.0, both_true (is_in lowest 0x7E n) (list_all (is_in lowest 0x7E) later.0) char.0 rest.1)
from_characters lowest (value v vs) s e = absurd cc

pub text_in-numbers : (lowest : ℕ) (s : List ℕ) → is_text lowest s ≡ true → text_in lowest (numbers (numbers_of s)) ≡ Some s
text_in-numbers lowest s e =
    let parts = both (is_in 1 62 (length s)) (list_all (is_in lowest 0x7E) s) e in
    ap (λ (b : Bool). if b then characters_in lowest (numbers (numbers_of s)) else None) (ap (is_in 1 62) (count-numbers s) ∙ parts.0)
    ∙ characters_in-numbers lowest s parts.1

pub from_text : (lowest : ℕ) (vs : Values) (s : List ℕ) → text_in lowest vs ≡ Some s → (vs ≡ numbers (numbers_of s)) × (is_text lowest s ≡ true)
from_text lowest vs s e =
    let sized = passed (is_in 1 62 (count vs)) (characters_in lowest vs) s e in
    let spelled = from_characters lowest vs s sized.1 in (
      spelled.0,
      both_true (is_in 1 62 (length s)) (list_all (is_in lowest 0x7E) s) (ap (is_in 1 62) (sym (count-numbers s) ∙ ap count (sym spelled.0)) ∙ sized.0) spelled.1,
    )

pub names_of-atoms : (ns : List (List ℕ)) → AllByRecursion IsName ns → names_of (values_of (map atom ns)) ≡ Some ns
names_of-atoms [] each = refl
names_of-atoms (n ∷ ns) each =
    ap (λ (b : Bool). option_and_then (λ (m : List ℕ). option_map (λ (ms : List (List ℕ)). m ∷ ms) (names_of (values_of (map atom ns)))) (if b then Some n else None)) each.0
    ∙ ap (option_map (λ (ms : List (List ℕ)). n ∷ ms)) (names_of-atoms ns each.1)

pub from_names : (vs : Values) (ns : List (List ℕ)) → names_of vs ≡ Some ns → (vs ≡ values_of (map atom ns)) × AllByRecursion IsName ns
from_names no_values ns e =
    let P : List (List ℕ) → Type 0 = λ ms. (no_values ≡ values_of (map atom ms)) × AllByRecursion IsName ms in
    let same : [] ≡ ns = cc in subst P same (refl, tt)
from_names (value (atom s) vs) ns e =
    let P : List (List ℕ) → Type 0 = λ ms. (value (atom s) vs ≡ values_of (map atom ms)) × AllByRecursion IsName ms in
    let first = chained (λ (m : List ℕ). option_map (λ (ms : List (List ℕ)). m ∷ ms) (names_of vs)) (name_in (atom s)) ns e in
    let name = passed (is_name s) (Some s) first.0 first.1 in
    let later = mapped (λ (ms : List (List ℕ)). first.0 ∷ ms) (names_of vs) ns first.2 in
    let rest = from_names vs later.0 later.1 in
    let same : s ∷ later.0 ≡ ns = cc in
    subst P same (ap (value (atom s)) rest.0, (name.0, rest.1))
from_names (value v vs) ns e = absurd cc
