-- Lists of characters.
use Rattle.std.proofs.Common.{◌≡◌, ℕ, ◌<◌, pos, Bool, true, false, if◌then◌else◌, Option, Some, None, IfSome, List, [], ◌∷◌, ◌++◌, refl, ap, sym, subst, ◌∙◌, arith}
use Rattle.std.specs.Int.{w64}
use Rattle.std.specs.List.{list_all, flat_map}
use Rattle.std.proofs.lemmas.Bool.{and_parts, and_from}
use Rattle.std.proofs.lemmas.Bool.Decides.{nat_tests}
use Rattle.std.proofs.lemmas.Int.{fits_signed_from_abs}
use Rattle.erl_term.specs.declared.term.Term.{Term}
use Rattle.erl_term.specs.Value.{Value, Values, value_of, members_of, FitsTerm, FitTerms}
use Rattle.erl_term.specs.Value.Value.{int}
use Rattle.erl_term.specs.Value.Values.{no_values, value}
use Rattle.erl_term.specs.Grammar.{numbers}
use Rattle.erl_term.specs.Printing.{is_printable, character_of, characters_of, put_character, is_string, string_character}

-- a member that is a character is its number
character-is : (v : Value) (c : ℕ) → character_of v ≡ Some c → (v ≡ int (pos c)) × (is_printable c ≡ true)
character-is (int (pos n)) c e = go (is_printable n) refl e
  where
    go : (b : Bool) → is_printable n ≡ b → (if b then Some n else None) ≡ Some c → (int (pos n) ≡ int (pos c)) × (is_printable c ≡ true)
    go true p e = let same : n ≡ c = cc in (ap (λ k. int (pos k)) same, subst (λ k. is_printable k ≡ true) same p)
    go false p e = absurd cc
character-is v c e = absurd cc

-- so a list of characters alone is the list of their numbers
pub values-characters_of : (vs : Values) (cs : List ℕ) → characters_of vs ≡ Some cs → (vs ≡ numbers cs) × (list_all is_printable cs ≡ true)
values-characters_of no_values cs e =
    let same : [] ≡ cs = cc in
    subst (λ xs. (no_values ≡ numbers xs) × (list_all is_printable xs ≡ true)) same (refl, refl)
values-characters_of (value v vs) cs e = go (character_of v) (characters_of vs) refl refl (λ ds h. values-characters_of vs ds h) e
  where
    go : (o : Option ℕ) (os : Option (List ℕ)) → character_of v ≡ o → characters_of vs ≡ os →
        ((ds : List ℕ) → characters_of vs ≡ Some ds → (vs ≡ numbers ds) × (list_all is_printable ds ≡ true)) →
        put_character o os ≡ Some cs → (value v vs ≡ numbers cs) × (list_all is_printable cs ≡ true)
    go (Some c) (Some ds) a b f e =
        let same : (c ∷ ds) ≡ cs = cc in
        let first = character-is v c a in
        let others = f ds b in
        let all : list_all is_printable (c ∷ ds) ≡ true = and_from (is_printable c) (list_all is_printable ds) first.1 others.1 in
        subst (λ xs. (value v vs ≡ numbers xs) × (list_all is_printable xs ≡ true)) same (ap (λ w. value w vs) first.0 ∙ ap (value (int (pos c))) others.0, all)
    go (Some c) None a b f e = absurd cc
    go None os a b f e = absurd cc

-- a printable character fits a term
fits-character : (c : ℕ) → is_printable c ≡ true → FitsTerm (int (pos c))
fits-character c p = let small : c < 128 = grind (arith, nat_tests) in fits_signed_from_abs w64 (pos c) (omega arith)

fits-numbers : (cs : List ℕ) → list_all is_printable cs ≡ true → FitTerms (numbers cs)
fits-numbers [] p = tt
fits-numbers (c ∷ cs) p =
    let q = and_parts (is_printable c) (list_all is_printable cs) p in
    (fits-character c q.0, fits-numbers cs q.1)

-- the members of a string fit a term
pub fits-string : (vs : Values) → is_string (characters_of vs) ≡ true → FitTerms vs
fits-string vs h = go (characters_of vs) refl h
  where
    go : (o : Option (List ℕ)) → characters_of vs ≡ o → is_string o ≡ true → FitTerms vs
    go (Some (c ∷ cs)) e h = let known = values-characters_of vs (c ∷ cs) e in subst FitTerms (sym known.0) (fits-numbers (c ∷ cs) known.1)
    go (Some []) e h = absurd cc
    go None e h = absurd cc

-- what a member adds to a string
abbrev pub character_text : Option ℕ → List ℕ
character_text None = []
character_text (Some c) = string_character c

abbrev pub member_text : Value → List ℕ
member_text v = character_text (character_of v)

same_characters : (xs ys : List ℕ) → Some xs ≡ Some ys → xs ≡ ys
same_characters xs ys e = cc

-- where each member is a character, the members add what the characters do
pub flat_map-member_text : (ts : List Term) (cs : List ℕ) → characters_of (members_of ts) ≡ Some cs →
    flat_map (λ t. member_text (value_of t)) ts ≡ flat_map string_character cs
flat_map-member_text [] cs e = ap (flat_map string_character) (same_characters [] cs e)
flat_map-member_text (t ∷ ts) cs e = go (character_of (value_of t)) (characters_of (members_of ts)) cs e (λ ds h. flat_map-member_text ts ds h)
  where
    go : (c : Option ℕ) (ds : Option (List ℕ)) (cs : List ℕ) → put_character c ds ≡ Some cs →
        ((es : List ℕ) → ds ≡ Some es → flat_map (λ u. member_text (value_of u)) ts ≡ flat_map string_character es) →
        character_text c ++ flat_map (λ u. member_text (value_of u)) ts ≡ flat_map string_character cs
    go (Some c) (Some ds) cs e f = ap (λ x. string_character c ++ x) (f ds refl) ∙ ap (flat_map string_character) (same_characters (c ∷ ds) cs e)
    go (Some c) None cs e f = absurd cc
    go None ds cs e f = absurd cc

-- what holds of the members' text holds of the characters', where each member is one
pub if_characters : (ts : List Term) (P : List ℕ → Type 0) → P (flat_map (λ t. member_text (value_of t)) ts) →
    IfSome (characters_of (members_of ts)) (λ cs. P (flat_map string_character cs))
if_characters ts P p = go (characters_of (members_of ts)) refl
  where
    go : (o : Option (List ℕ)) → characters_of (members_of ts) ≡ o → IfSome o (λ cs. P (flat_map string_character cs))
    go None e = tt
    go (Some cs) e = subst P (flat_map-member_text ts cs e) p
