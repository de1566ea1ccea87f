-- The innermost open bracket of a row of tokens.
use Rattle.std.proofs.Common.{◌≡◌, ℕ, ◌⊎◌, inl, inr, List, [], ◌∷◌, ◌++◌, Ok, sym, ◌∙◌, ap, subst, append_assoc, append-nil}
use Rattle.std.proofs.lemmas.List.{map-append}
use Rattle.erl_token.specs.declared.token.Bracket.{Bracket}
use Rattle.erl_term.specs.declared.parser.Slot.{Slot}
use Rattle.erl_term.specs.declared.parser.Slot.TheVariants.{First, Next, Later}
use Rattle.erl_token.specs.Lexing.{Token, Item}
use Rattle.erl_token.specs.Lexing.Token.{open_tuple, open_list, open_binary, comma}
use Rattle.erl_term.specs.Grammar.{Phrase, tokens_of, members_tokens, tokens, Reading}
use Rattle.erl_term.specs.Faults.{rows, IsOpening, AreMembers, IsInnermost}
use Rattle.erl_term.specs.Machine.{Level, kind_of, bracket_of, run, nothing_read}
use Rattle.erl_term.specs.Machine.State.{begun, whole, inside}
use Rattle.erl_term.specs.Machine.Kind.{opening}
use Rattle.erl_term.proofs.Passes.{progress}
use Rattle.erl_term.proofs.StateLemmas.{At, phrases_of, ahead, ahead-end, joined, run_stands, nothing_stands}
use Rattle.erl_term.proofs.Viability.{terms_are_rows}
use Rattle.erl_term.proofs.Places.{AreSame, IsBefore, places}
use Rattle.erl_term.proofs.Balance.{IsEven, ClosesEach, even_append, term_even, rows_even, are_even, never_open}

opening_opens : (t : Token) (b : Bracket) → kind_of t ≡ opening b → IsOpening t
opening_opens open_tuple b e = tt
opening_opens open_list b e = tt
opening_opens open_binary b e = tt
opening_opens t b e = absurd (cc)

are_members : (slot : Slot) (ps : List Phrase) (mine : List Item) → At slot ps mine → AreMembers (tokens mine)
are_members First ps mine (none, bare) = (phrases_of [], inl (ap tokens bare))
are_members Next ps mine (qs, p, q, e) = (
  phrases_of ps,
  inr (e ∙ (ap ahead q ∙ (ahead-end qs p ∙ (sym (append_assoc (ahead qs) (tokens_of p) (comma ∷ []))
      ∙ ((λ j. sym (joined qs p) j ++ comma ∷ []) ∙ (λ j. members_tokens (phrases_of (sym q j)) ++ comma ∷ [])))))),
)
are_members Later ps mine (qs, p, q, e) = (phrases_of ps, inl (e ∙ (sym (joined qs p) ∙ ap (λ ps. members_tokens (phrases_of ps)) (sym q))))

-- inside a bracket that one is the innermost
pub inside_innermost : (limit : ℕ) (is : List Item) (done : List Reading) (slot : Slot) (l : Level) (ls : List Level)
    → run limit nothing_read is ≡ Ok (progress done (inside slot l ls)) → (i : Item) × IsInnermost is i × (i.from ≡ l.from)
inside_innermost limit is done slot l ls e =
    let (first, row, split, terms, (outer, mine, o, ps, is_row, around, level, members)) = run_stands limit nothing_read (progress done (inside slot l ls)) [] is (nothing_stands limit) e in (
      o,
      (
        first ++ outer,
        mine,
        split ∙ (ap (λ y. first ++ y) is_row ∙ sym (append_assoc first outer (o ∷ mine))),
        opening_opens o.token (bracket_of l.members) level.opens,
        are_members slot ps mine members,
      ),
      level.at,
    )

-- no bracket of an even row is open at its end
even_has_none : (is : List Item) → IsEven (tokens is) → (i : Item) → IsInnermost is i → ⊥
even_has_none is even i (before, after, split, opens, members) =
    never_open (tokens before) (tokens after) i.token opens (are_even (tokens after) members)
    (subst ClosesEach (ap tokens split ∙ map-append (λ i. i.token) before (i ∷ after)) even.ends)

-- after whole terms no bracket is open
pub begun_has_none : (limit : ℕ) (is : List Item) (done : List Reading) → run limit nothing_read is ≡ Ok (progress done begun) → (i : Item) → IsInnermost is i → ⊥
begun_has_none limit is done e =
    let (first, row, split, terms, none) = run_stands limit nothing_read (progress done begun) [] is (nothing_stands limit) e in
    let (ps, fit, spelled) = terms_are_rows limit first done terms in
    let read : tokens is ≡ rows ps = ap tokens (split ∙ (ap (λ y. first ++ y) none ∙ append-nil first)) ∙ spelled in
    even_has_none is (subst IsEven (sym read) (rows_even ps))

pub whole_has_none : (limit : ℕ) (is : List Item) (done : List Reading) (r : Reading) → run limit nothing_read is ≡ Ok (progress done (whole r)) → (i : Item) → IsInnermost is i → ⊥
whole_has_none limit is done r e =
    let (first, row, split, terms, term) = run_stands limit nothing_read (progress done (whole r)) [] is (nothing_stands limit) e in
    let (ps, fit, spelled) = terms_are_rows limit first done terms in
    let read : tokens is ≡ rows ps ++ tokens_of term.phrase = ap tokens split ∙ (map-append (λ i. i.token) first row ∙ (λ j. spelled j ++ term.spelled j)) in
    even_has_none is (subst IsEven (sym read) (even_append (rows ps) (tokens_of term.phrase) (rows_even ps) (term_even term.phrase)))

-- the innermost of the open brackets is one
pub one_innermost : (is : List Item) (i j : Item) → IsInnermost is i → IsInnermost is j → i ≡ j
one_innermost is i j (before, after, split, opens_i, in_after) (x, y, parts, opens_j, in_y) = go (places before after x y i j (sym split ∙ parts))
  where
    within : (o : Item) (between inner outer : List Item) → outer ≡ between ++ (o ∷ inner) → IsOpening o.token → AreMembers (tokens inner) → AreMembers (tokens outer) → ⊥
    within o between inner outer e opens in_inner in_outer = even_has_none outer (are_even (tokens outer) in_outer) o (between, inner, e, opens, in_inner)

    go : AreSame before after x y i j ⊎ (IsBefore before after x y i j ⊎ IsBefore x y before after j i) → i ≡ j
    go (inl s) = s.here
    go (inr (inl s)) = absurd (within j s.between y after s.behind opens_j in_y in_after)
    go (inr (inr s)) = absurd (within i s.between after y s.behind opens_i in_after in_y)
