-- The characters of a text, as members of a list.
use Rattle.std.proofs.Common.{◌≡◌, ℕ, pos, List, [], ◌∷◌, ◌++◌, map, ap, sym, ◌∙◌, append_assoc}
use Rattle.std.specs.Str.{chars}
use Rattle.std.proofs.lemmas.List.{map-append}
use Rattle.erl_term.specs.Views.{character_values}
use Rattle.erl_term.specs.Value.{Value, values_of}
use Rattle.erl_term.specs.Value.Value.{int}
use Rattle.erl_term.specs.Grammar.{numbers}
use Rattle.erl_term.proofs.ParserLemmas.{values_of-numbers}

-- the members of a text, as a list
pub text_members : (vs : List Value) (s : List ℕ) → vs ≡ character_values s → values_of vs ≡ numbers (chars s)
text_members vs s e = ap values_of e ∙ values_of-numbers (chars s)

-- members and further ones
pub values_on : (old mid new : List Value) (bs front more : List ℕ) → chars bs ≡ chars front ++ chars more → mid ≡ old ++ character_values front → new ≡ mid ++ character_values more →
    new ≡ old ++ character_values bs
values_on old mid new bs front more e a b =
    b ∙ (ap (λ vs. vs ++ character_values more) a ∙ (append_assoc old (character_values front) (character_values more)
    ∙ ap (λ vs. old ++ vs) (sym (ap (map (λ n. int (pos n))) e ∙ map-append (λ n. int (pos n)) (chars front) (chars more)))))

-- members and one further
pub value_on : (old mid new : List Value) (cs : List ℕ) (c : ℕ) → mid ≡ old ++ map (λ n. int (pos n)) cs → new ≡ mid ++ int (pos c) ∷ [] →
    new ≡ old ++ map (λ n. int (pos n)) (cs ++ c ∷ [])
value_on old mid new cs c a b =
    b ∙ (ap (λ vs. vs ++ int (pos c) ∷ []) a ∙ (append_assoc old (map (λ n. int (pos n)) cs) (int (pos c) ∷ [])
    ∙ ap (λ vs. old ++ vs) (sym (map-append (λ n. int (pos n)) cs (c ∷ [])))))
