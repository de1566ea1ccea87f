-- A term that is read, by itself.
use Rattle.std.proofs.Common.{◌≡◌, ℕ, ◌+◌, ◌-◌, ◌<◌, true, ◌&&◌, List, [], ◌∷◌, ◌++◌, length, refl, ap, sym, ◌∙◌, arith, append_assoc}
use Rattle.std.specs.Prelude.{slice_range}
use Rattle.std.specs.List.{list_all}
use Rattle.std.proofs.lemmas.List.{length-map}
use Rattle.std.proofs.lemmas.List.Folds.{list_all-append}
use Rattle.erl_token.specs.Lexing.{Token, Item, items_of}
use Rattle.erl_token.specs.Lexing.Token.{dot, close_tuple, close_list, close_binary}
use Rattle.erl_token.specs.Rows.{is_of_term, first_from, last_to, moved, RowsStandAlone}
use Rattle.erl_term.specs.Grammar.{Phrase, Phrases, tokens_of, members_tokens, rest_tokens, tokens, Reading, IsTerm, AreTerms}
use Rattle.erl_term.specs.Grammar.Phrase.{a_name, a_number, a_text, a_tuple, a_list, a_binary}
use Rattle.erl_term.specs.Grammar.Phrases.{no_phrases, phrase}
use Rattle.erl_term.specs.Laws.{EachTermStandsAlone}

-- The tokens of a term

both : (xs ys : List Token) → list_all is_of_term xs ≡ true → list_all is_of_term ys ≡ true → list_all is_of_term (xs ++ ys) ≡ true
both xs ys a b = list_all-append is_of_term xs ys ∙ rw (a, b) refl

mutual
  phrase_tokens : (p : Phrase) → list_all is_of_term (tokens_of p) ≡ true
  phrase_tokens (a_name s) = refl
  phrase_tokens (a_number n) = refl
  phrase_tokens (a_text s) = refl
  phrase_tokens (a_tuple ps) = both (members_tokens ps) (close_tuple ∷ []) (member_tokens ps) refl
  phrase_tokens (a_list ps) = both (members_tokens ps) (close_list ∷ []) (member_tokens ps) refl
  phrase_tokens (a_binary ps) = both (members_tokens ps) (close_binary ∷ []) (member_tokens ps) refl

  member_tokens : (ps : Phrases) → list_all is_of_term (members_tokens ps) ≡ true
  member_tokens no_phrases = refl
  member_tokens (phrase p ps) = both (tokens_of p) (rest_tokens ps) (phrase_tokens p) (later_tokens ps)

  later_tokens : (ps : Phrases) → list_all is_of_term (rest_tokens ps) ≡ true
  later_tokens no_phrases = refl
  later_tokens (phrase p ps) = both (tokens_of p) (rest_tokens ps) (phrase_tokens p) (later_tokens ps)

phrase_some : (p : Phrase) → 0 < length (tokens_of p)
phrase_some (a_name s) = omega arith
phrase_some (a_number n) = omega arith
phrase_some (a_text s) = omega arith
phrase_some (a_tuple ps) = omega arith
phrase_some (a_list ps) = omega arith
phrase_some (a_binary ps) = omega arith

row_tokens : (is : List Item) → list_all (λ i. is_of_term i.token) is ≡ list_all is_of_term (tokens is)
row_tokens [] = refl
row_tokens (i ∷ is) = ap (λ b. is_of_term i.token && b) (row_tokens is)

-- A row that is moved

moved_tokens : (n : ℕ) (is : List Item) → tokens (moved n is) ≡ tokens is
moved_tokens n [] = refl
moved_tokens n (i ∷ is) = ap (λ ts. i.token ∷ ts) (moved_tokens n is)

moved_first : (is : List Item) → 0 ≡ first_from (moved (first_from is) is)
moved_first [] = refl
moved_first (i ∷ is) = omega arith

moved_last : (n : ℕ) (is : List Item) → last_to is - n ≡ last_to (moved n is)
moved_last n [] = omega arith
moved_last n (i ∷ []) = refl
moved_last n (i ∷ j ∷ is) = moved_last n (j ∷ is)

-- The row of a term among those of a text

record RowOf (limit : ℕ) (all : List Item) (r : Reading) : Type 0 where
  pub before : List Item
  pub row : List Item
  pub mark : Item
  pub after : List Item
  pub is : all ≡ before ++ (row ++ (mark ∷ after))
  pub dotted : mark.token ≡ dot
  pub term : IsTerm limit row r

row_of : (limit : ℕ) (all : List Item) (before after : List Reading) (r : Reading) → AreTerms limit all (before ++ (r ∷ after)) → RowOf limit all r
row_of limit all [] after r (row, rest, d, split, is_dot, term, more) =
    record { before = []; row = row; mark = d; after = rest; is = split; dotted = is_dot; term = term }
row_of limit all (b ∷ before) after r (row, rest, d, split, is_dot, term, more) =
    let inner = row_of limit rest before after r more in
    record {
      before = row ++ (d ∷ inner.before);
      row = inner.row;
      mark = inner.mark;
      after = inner.after;
      is = split ∙ (ap (λ is. row ++ (d ∷ is)) inner.is ∙ sym (append_assoc row (d ∷ inner.before) (inner.row ++ (inner.mark ∷ inner.after))));
      dotted = inner.dotted;
      term = inner.term;
    }

pub stands_alone : RowsStandAlone → EachTermStandsAlone
stands_alone rows limit bytes before after r reads =
    let found = row_of limit (items_of bytes) before after r reads in
    let row = found.row in
    let t = found.term in
    let size : length row ≡ length (tokens_of t.phrase) = sym (length-map row (λ i. i.token)) ∙ ap length t.spelled in
    let some : 0 < length row = omega (arith, size, phrase_some t.phrase) in
    let goods : list_all (λ i. is_of_term i.token) row ≡ true = row_tokens row ∙ (ap (list_all is_of_term) t.spelled ∙ phrase_tokens t.phrase) in
    let here = rows bytes found.before row found.after found.mark found.is found.dotted some goods in
    let from : r.from ≡ first_from row = t.from in
    let to : r.to ≡ last_to row = t.to in
    let d : Item = record { token = dot; from = last_to row - first_from row; to = last_to row - first_from row + 1 } in
    let items : items_of (slice_range bytes r.from r.to ++ 46 ∷ []) ≡ moved (first_from row) row ++ d ∷ [] = (λ k. items_of (slice_range bytes (from k) (to k) ++ 46 ∷ [])) ∙ here in
    let alone : IsTerm limit (moved (first_from row) row) (record { term = r.term; from = 0; to = r.to - r.from }) = record {
      phrase = t.phrase;
      spelled = moved_tokens (first_from row) row ∙ t.spelled;
      means = t.means;
      fits = t.fits;
      from = moved_first row;
      to = (λ k. to k - from k) ∙ moved_last (first_from row) row;
    } in
    (moved (first_from row) row, [], d, items, refl, alone, refl)
