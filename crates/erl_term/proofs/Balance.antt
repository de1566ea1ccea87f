-- Brackets are closed as often as they are opened: in whole terms, and in each end of whole terms at least as often.
use Rattle.std.proofs.Common.{◌≡◌, ℕ, ◌+◌, ◌≤◌, inl, inr, List, [], ◌∷◌, ◌++◌, refl, sym, subst, arith}
use Rattle.erl_token.specs.Lexing.{Token}
use Rattle.erl_token.specs.Lexing.Token.{open_tuple, close_tuple, open_list, close_list, open_binary, close_binary, comma, dot}
use Rattle.erl_term.specs.Grammar.{Phrase, Phrases, tokens_of, members_tokens, rest_tokens}
use Rattle.erl_term.specs.Grammar.Phrase.{a_name, a_number, a_text, a_tuple, a_list, a_binary}
use Rattle.erl_term.specs.Grammar.Phrases.{no_phrases, phrase}
use Rattle.erl_term.specs.Faults.{rows, IsOpening, AreMembers}

-- how many brackets a token opens
abbrev pub rise : Token → ℕ
rise open_tuple = 1
rise open_list = 1
rise open_binary = 1
rise t = 0

-- how many it closes
abbrev pub fall : Token → ℕ
fall close_tuple = 1
fall close_list = 1
fall close_binary = 1
fall t = 0

abbrev pub opened : List Token → ℕ
opened [] = 0
opened (t ∷ ts) = rise t + opened ts

abbrev pub closed : List Token → ℕ
closed [] = 0
closed (t ∷ ts) = fall t + closed ts

-- in each end of the row at least as many brackets are closed as are opened
abbrev pub ClosesEach : List Token → Type 0
ClosesEach [] = Unit {0}
ClosesEach (t ∷ ts) = (opened (t ∷ ts) ≤ closed (t ∷ ts)) × ClosesEach ts

-- as many brackets are closed as are opened, and each after its opening
pub record IsEven (ts : List Token) : Type 0 where
  pub same : opened ts ≡ closed ts
  pub ends : ClosesEach ts

opened-append : (a b : List Token) → opened (a ++ b) ≡ opened a + opened b
opened-append [] b = omega arith
opened-append (t ∷ a) b = omega (arith, opened-append a b)

closed-append : (a b : List Token) → closed (a ++ b) ≡ closed a + closed b
closed-append [] b = omega arith
closed-append (t ∷ a) b = omega (arith, closed-append a b)

ends-append : (a b : List Token) → ClosesEach a → opened b ≤ closed b → ClosesEach b → ClosesEach (a ++ b)
ends-append [] b in_a low in_b = in_b
ends-append (t ∷ a) b (here, later) low in_b = (omega (arith, opened-append a b, closed-append a b), ends-append a b later low in_b)

pub even_nothing : IsEven []
even_nothing = record { same = refl; ends = tt }

pub even_append : (a b : List Token) → IsEven a → IsEven b → IsEven (a ++ b)
even_append a b in_a in_b =
    let even_a = in_a.same in
    let even_b = in_b.same in
    record {
      same = omega (arith, opened-append a b, closed-append a b);
      ends = ends-append a b in_a.ends (omega arith) in_b.ends;
    }

-- a token that is no bracket
pub even_alone : (t : Token) → rise t ≡ 0 → fall t ≡ 0 → IsEven (t ∷ [])
even_alone t up down = record { same = omega arith; ends = (omega arith, tt) }

-- a bracket round what is even
pub even_bracket : (o c : Token) (ts : List Token) → rise o ≡ 1 → fall o ≡ 0 → rise c ≡ 0 → fall c ≡ 1 → IsEven ts → IsEven (o ∷ (ts ++ c ∷ []))
even_bracket o c ts up flat level down within =
    let even = within.same in
    let inner : ClosesEach (ts ++ c ∷ []) = ends-append ts (c ∷ []) within.ends (omega arith) (omega arith, tt) in
    record {
      same = omega (arith, opened-append ts (c ∷ []), closed-append ts (c ∷ []));
      ends = (omega (arith, opened-append ts (c ∷ []), closed-append ts (c ∷ [])), inner);
    }

mutual
  pub term_even : (p : Phrase) → IsEven (tokens_of p)
  term_even (a_tuple ps) = even_bracket open_tuple close_tuple (members_tokens ps) refl refl refl refl (members_even ps)
  term_even (a_list ps) = even_bracket open_list close_list (members_tokens ps) refl refl refl refl (members_even ps)
  term_even (a_binary ps) = even_bracket open_binary close_binary (members_tokens ps) refl refl refl refl (members_even ps)
  term_even (a_name s) = even_alone _ refl refl
  term_even (a_number n) = even_alone _ refl refl
  term_even (a_text s) = even_alone _ refl refl

  pub members_even : (ps : Phrases) → IsEven (members_tokens ps)
  members_even no_phrases = even_nothing
  members_even (phrase p ps) = even_append (tokens_of p) (rest_tokens ps) (term_even p) (rest_even ps)

  rest_even : (ps : Phrases) → IsEven (rest_tokens ps)
  rest_even no_phrases = even_nothing
  rest_even (phrase p ps) =
      even_append (comma ∷ []) (tokens_of p ++ rest_tokens ps) (even_alone comma refl refl)
      (even_append (tokens_of p) (rest_tokens ps) (term_even p) (rest_even ps))

pub rows_even : (ps : List Phrase) → IsEven (rows ps)
rows_even [] = even_nothing
rows_even (p ∷ ps) = even_append (tokens_of p) (dot ∷ rows ps) (term_even p) (even_append (dot ∷ []) (rows ps) (even_alone dot refl refl) (rows_even ps))

-- whole members, with a comma or without
pub are_even : (ts : List Token) → AreMembers ts → IsEven ts
are_even ts (ps, inl e) = subst IsEven (sym e) (members_even ps)
are_even ts (ps, inr e) = subst IsEven (sym e) (even_append (members_tokens ps) (comma ∷ []) (members_even ps) (even_alone comma refl refl))

opening_rises : (t : Token) → IsOpening t → rise t ≡ 1
opening_rises open_tuple h = refl
opening_rises open_list h = refl
opening_rises open_binary h = refl
opening_rises t h = absurd h

opening_falls_not : (t : Token) → IsOpening t → fall t ≡ 0
opening_falls_not open_tuple h = refl
opening_falls_not open_list h = refl
opening_falls_not open_binary h = refl
opening_falls_not t h = absurd h

-- a bracket that is open at the end is none of an even row
pub never_open : (before after : List Token) (o : Token) → IsOpening o → IsEven after → ClosesEach (before ++ (o ∷ after)) → ⊥
never_open [] after o opens even (low, later) =
    let same = even.same in
    absurd (omega (arith, opening_rises o opens, opening_falls_not o opens))
never_open (t ∷ before) after o opens even (low, later) = never_open before after o opens even later
