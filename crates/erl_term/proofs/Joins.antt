-- Tokens among which no text follows a text are left as they are.
use Rattle.std.proofs.Common.{◌≡◌, ℕ, List, [], ◌∷◌, ◌++◌, None, refl, sym, ◌∙◌, ap, subst, append_assoc}
use Rattle.erl_token.specs.Lexing.{Token, Item, joined, in_front, put_item, join}
use Rattle.erl_token.specs.Lexing.Token.{open_tuple, close_tuple, open_list, close_list, open_binary, close_binary, comma, dot, name, number, text}
use Rattle.erl_term.specs.Grammar.{Phrase, Phrases, tokens_of, members_tokens, rest_tokens, tokens}
use Rattle.erl_term.specs.Grammar.Phrase.{a_name, a_number, a_text, a_tuple, a_list, a_binary}
use Rattle.erl_term.specs.Grammar.Phrases.{no_phrases, phrase}

-- the first of these, if there is one, isn't joined to the token
abbrev IsParted : Token → List Token → Type 0
IsParted t [] = Unit {0}
IsParted t (u ∷ us) = joined t u ≡ None

-- none of these is joined to the one before it
abbrev pub AreApart : List Token → Type 0
AreApart [] = Unit {0}
AreApart (t ∷ ts) = IsParted t ts × AreApart ts

pub join-apart : (is : List Item) → AreApart (tokens is) → join is ≡ is
join-apart [] h = refl
join-apart (i ∷ []) h = refl
join-apart (i ∷ j ∷ is) h = ap (put_item i) (join-apart (j ∷ is) h.1) ∙ ap (λ o. in_front i o j is) h.0

abbrev IsNoText : Token → Type 0
IsNoText (text s) = ⊥
IsNoText t = Unit {0}

joined-no_text : (t u : Token) → IsNoText t → joined t u ≡ None
joined-no_text (text s) u h = absurd h
joined-no_text t u h = refl

parted : (t : Token) (ts : List Token) → IsNoText t → IsParted t ts
parted t [] h = tt
parted t (u ∷ us) h = joined-no_text t u h

-- a token that stands after a term
abbrev pub IsEnd : Token → Type 0
IsEnd comma = Unit {0}
IsEnd dot = Unit {0}
IsEnd close_tuple = Unit {0}
IsEnd close_list = Unit {0}
IsEnd close_binary = Unit {0}
IsEnd t = ⊥

joined-end : (s : List ℕ) (t : Token) → IsEnd t → joined (text s) t ≡ None
joined-end s comma h = refl
joined-end s dot h = refl
joined-end s close_tuple h = refl
joined-end s close_list h = refl
joined-end s close_binary h = refl
joined-end s t h = absurd h

-- the first of these is one
abbrev pub BeginWithEnd : List Token → Type 0
BeginWithEnd [] = ⊥
BeginWithEnd (t ∷ ts) = IsEnd t

text_parted : (s : List ℕ) (ts : List Token) → BeginWithEnd ts → IsParted (text s) ts
text_parted s [] h = absurd h
text_parted s (t ∷ ts) h = joined-end s t h

-- members between brackets, and what follows
bracket_apart : (o c : Token) (ts us : List Token) → IsNoText o → IsNoText c → AreApart us
    → (AreApart (c ∷ us) → AreApart (ts ++ (c ∷ us))) → AreApart ((o ∷ (ts ++ c ∷ [])) ++ us)
bracket_apart o c ts us opens closes h members =
    subst AreApart (ap (λ x. o ∷ x) (sym (append_assoc ts (c ∷ []) us))) (parted o (ts ++ (c ∷ us)) opens, members (parted c us closes, h))

rest_begin : (ps : Phrases) (us : List Token) → BeginWithEnd us → BeginWithEnd (rest_tokens ps ++ us)
rest_begin no_phrases us e = e
rest_begin (phrase p ps) us e = tt

-- The tokens of a term are apart, and from what stands after it.
mutual
  pub term_apart : (p : Phrase) (us : List Token) → BeginWithEnd us → AreApart us → AreApart (tokens_of p ++ us)
  term_apart (a_name s) us e h = (parted (name s) us tt, h)
  term_apart (a_number n) us e h = (parted (number n) us tt, h)
  term_apart (a_text s) us e h = (text_parted s us e, h)
  term_apart (a_tuple ps) us e h = bracket_apart open_tuple close_tuple (members_tokens ps) us tt tt h (members_apart ps (close_tuple ∷ us) tt)
  term_apart (a_list ps) us e h = bracket_apart open_list close_list (members_tokens ps) us tt tt h (members_apart ps (close_list ∷ us) tt)
  term_apart (a_binary ps) us e h = bracket_apart open_binary close_binary (members_tokens ps) us tt tt h (members_apart ps (close_binary ∷ us) tt)

  members_apart : (ps : Phrases) (us : List Token) → BeginWithEnd us → AreApart us → AreApart (members_tokens ps ++ us)
  members_apart no_phrases us e h = h
  members_apart (phrase p ps) us e h = subst AreApart (sym (append_assoc (tokens_of p) (rest_tokens ps) us)) (term_apart p (rest_tokens ps ++ us) (rest_begin ps us e) (rest_apart ps us e h))

  rest_apart : (ps : Phrases) (us : List Token) → BeginWithEnd us → AreApart us → AreApart (rest_tokens ps ++ us)
  rest_apart no_phrases us e h = h
  rest_apart (phrase p ps) us e h = (
    parted comma ((tokens_of p ++ rest_tokens ps) ++ us) tt,
    subst AreApart (sym (append_assoc (tokens_of p) (rest_tokens ps) us)) (term_apart p (rest_tokens ps ++ us) (rest_begin ps us e) (rest_apart ps us e h)),
  )
