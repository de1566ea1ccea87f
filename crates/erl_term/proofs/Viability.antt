-- A row of tokens can be completed exactly where the machine takes it.
use Rattle.std.proofs.Common.{◌≡◌, ℕ, pos, Bool, true, false, if◌then◌else◌, List, [], ◌∷◌, ◌++◌, map, Some, None, Result, Ok, Err, refl, sym, ◌∙◌, ap, subst, append_assoc, append-nil}
use Rattle.std.proofs.lemmas.List.{map-append}
use Rattle.erl_number.specs.declared.fault.TermFault.{TermFault}
use Rattle.erl_term.specs.declared.parser.Slot.TheVariants.{First, Next, Later}
use Rattle.erl_token.specs.Lexing.{Token, Item, some_number}
use Rattle.erl_token.specs.Lexing.Token.{dot}
use Rattle.erl_term.specs.Grammar.{Phrase, meaning, tokens_of, tokens, first_from, last_to, Reading, AreTerms}
use Rattle.erl_term.specs.Grammar.Phrase.{a_number}
use Rattle.erl_term.specs.Faults.{rows, Fit, Viable, MayCome}
use Rattle.erl_term.specs.Value.Value.{int}
use Rattle.erl_term.specs.Machine.{Level, State, Progress, bracket_of, with_member, is_binary, added, open_levels, put, enclosed, next, or_refusal, and_then, run, nothing_read}
use Rattle.erl_term.specs.Machine.State.{begun, whole, inside}
use Rattle.erl_term.proofs.Passes.{progress, reading, tokens_split, run-append, goes, worth, next_leaf, next_closing, closes, behind, dot_ends, reads_terms}
use Rattle.erl_term.proofs.StateLemmas.{run_stands, nothing_stands}

-- terms with their dots, as tokens
pub terms_are_rows : (limit : ℕ) (is : List Item) (rs : List Reading) → AreTerms limit is rs → (ps : List Phrase) × Fit limit ps × (tokens is ≡ rows ps)
terms_are_rows limit is [] e = ([], tt, ap tokens e)
terms_are_rows limit is (r ∷ rs) (row, rest, d, e, is_dot, t, others) =
    let (ps, fit, in_rest) = terms_are_rows limit rest rs others in (
      t.phrase ∷ ps,
      (t.fits, fit),
      ap tokens e ∙ (map-append (λ i. i.token) row (d ∷ rest) ∙ (λ j. t.spelled j ++ (is_dot j ∷ in_rest j))),
    )

pub rows_are_terms : (limit : ℕ) (is : List Item) (ps : List Phrase) → Fit limit ps → tokens is ≡ rows ps → (rs : List Reading) × AreTerms limit is rs
rows_are_terms limit [] [] fit e = ([], refl)
rows_are_terms limit (i ∷ is) [] fit e = absurd (cc)
rows_are_terms limit is (p ∷ ps) (fits, fit) e =
    let (x, y, split, in_x, in_y) = tokens_split is (tokens_of p) (dot ∷ rows ps) e in
    behind_term (λ rest. rows_are_terms limit rest ps fit) x y split in_x in_y
  where
    behind_term : ((rest : List Item) → tokens rest ≡ rows ps → (rs : List Reading) × AreTerms limit rest rs)
        → (x y : List Item) → is ≡ x ++ y → tokens x ≡ tokens_of p → tokens y ≡ dot ∷ rows ps → (rs : List Reading) × AreTerms limit is rs
    behind_term more x [] split in_x in_y = absurd (cc)
    behind_term more x (d ∷ rest) split in_x in_y =
        let (rs, terms) = more rest (cc) in
        let is_dot : d.token ≡ dot = cc in (
          reading (meaning p) (first_from x) (last_to x) ∷ rs,
          (x, rest, d, split, is_dot, record { phrase = p; spelled = in_x; means = refl; fits = fits; from = refl; to = refl }, terms),
        )

-- a token at no place
abbrev pub plain : Token → Item
plain t = record { token = t; from = 0; to = 0 }

tokens-plain : (ts : List Token) → tokens (map plain ts) ≡ ts
tokens-plain [] = refl
tokens-plain (t ∷ ts) = ap (λ us. t ∷ us) (tokens-plain ts)

-- a front of what the machine takes
leading_runs : (limit : ℕ) (p q : Progress) (a b : List Item) → run limit p (a ++ b) ≡ Ok q → (t : Progress) × (run limit p a ≡ Ok t)
leading_runs limit p q a b e = go (run limit p a) refl
  where
    go : (r : Result Progress TermFault) → run limit p a ≡ r → (t : Progress) × (run limit p a ≡ Ok t)
    go (Ok t) h = (t, h)
    go (Err f) h = absurd (let c : Err f ≡ Ok q = (λ j. and_then (sym h j) (λ s. run limit s b)) ∙ (sym (run-append limit p a b) ∙ e) in cc)

pub viable_runs : (limit : ℕ) (is : List Item) → Viable limit (tokens is) → (p : Progress) × (run limit nothing_read is ≡ Ok p)
viable_runs limit is (more, ps, fit, e) =
    let whole_row : tokens (is ++ map plain more) ≡ rows ps =
    map-append (λ i. i.token) is (map plain more) ∙ (ap (λ ts. tokens is ++ ts) (tokens-plain more) ∙ e) in
    let (rs, terms) = rows_are_terms limit (is ++ map plain more) ps fit whole_row in
    leading_runs limit nothing_read (progress rs begun) is (map plain more) (reads_terms limit (is ++ map plain more) rs [] terms)

-- Each state can be brought to its end.
abbrev pub Ends : ℕ → List Reading → State → Type 0
Ends limit done s = (more : List Item) × (rs : List Reading) × (run limit (progress done s) more ≡ Ok (progress rs begun))

ends_behind : (limit : ℕ) (done : List Reading) (s : State) (i : Item) (q : Progress) → next limit (progress done s) i ≡ Some q → Ends limit q.done q.state → Ends limit done s
ends_behind limit done s i q n (more, rs, e) = (i ∷ more, rs, goes limit (progress done s) q i more n ∙ e)

whole_ends : (limit : ℕ) (done : List Reading) (r : Reading) → Ends limit done (whole r)
whole_ends limit done r = (plain dot ∷ [], done ++ r ∷ [], dot_ends limit done r (plain dot) [] refl)

later_ends : (limit : ℕ) (done : List Reading) (l : Level) (ls : List Level) → Ends limit done (inside Later l ls)
later_ends limit done l [] =
    ends_behind limit done (inside Later l []) (plain (closes (bracket_of l.members))) (progress done (behind l [] 0))
    (next_closing limit done (inside Later l []) l [] (plain (closes (bracket_of l.members))) (λ b to. refl) refl)
    (whole_ends limit done (reading (enclosed l.members) l.from 0))
later_ends limit done l (k ∷ ks) =
    ends_behind limit done (inside Later l (k ∷ ks)) (plain (closes (bracket_of l.members))) (progress done (behind l (k ∷ ks) 0))
    (next_closing limit done (inside Later l (k ∷ ks)) l (k ∷ ks) (plain (closes (bracket_of l.members))) (λ b to. refl) refl)
    (later_ends limit done (record k { members = with_member (enclosed l.members) [] k.members }) ks)

-- a zero may stand as a member of each bracket
pub zero_adds : (ls : List Level) → added (Some (0 ∷ [])) ls ≡ Some (worth (is_binary ls) (a_number (pos 0)))
zero_adds ls = go (is_binary ls)
  where
    go : (b : Bool) → (if b then Some (0 ∷ []) else Some []) ≡ Some (worth b (a_number (pos 0)))
    go true = refl
    go false = refl

member_ends : (limit : ℕ) (done : List Reading) (s : State) (l : Level) (ls : List Level) → open_levels s ≡ Some (l ∷ ls) → Ends limit done s
member_ends limit done s l ls free =
    let bs = worth (is_binary (l ∷ ls)) (a_number (pos 0)) in
    ends_behind limit done s (plain some_number) (progress done (put (reading (int (pos 0)) 0 0) bs (l ∷ ls)))
    (next_leaf limit done s (l ∷ ls) (plain some_number) (int (pos 0)) (Some (0 ∷ [])) bs free refl (zero_adds (l ∷ ls)))
    (later_ends limit done (record l { members = with_member (int (pos 0)) bs l.members }) ls)

state_ends : (limit : ℕ) (done : List Reading) (s : State) → Ends limit done s
state_ends limit done begun = ([], done, refl)
state_ends limit done (whole r) = whole_ends limit done r
state_ends limit done (inside Later l ls) = later_ends limit done l ls
state_ends limit done (inside Next l ls) = member_ends limit done (inside Next l ls) l ls refl
state_ends limit done (inside First l ls) = member_ends limit done (inside First l ls) l ls refl

-- what the machine takes up to its end is whole terms
pub reads_only : (limit : ℕ) (is : List Item) (rs : List Reading) → run limit nothing_read is ≡ Ok (progress rs begun) → AreTerms limit is rs
reads_only limit is rs e =
    let (before, row, split, terms, none) = run_stands limit nothing_read (progress rs begun) [] is (nothing_stands limit) e in
    subst (λ is. AreTerms limit is rs) (sym (split ∙ (ap (λ y. before ++ y) none ∙ append-nil before))) terms

pub runs_viable : (limit : ℕ) (is : List Item) (p : Progress) → run limit nothing_read is ≡ Ok p → Viable limit (tokens is)
runs_viable limit is p e =
    let (more, rs, ends) = state_ends limit p.done p.state in
    let all : run limit nothing_read (is ++ more) ≡ Ok (progress rs begun) = run-append limit nothing_read is more ∙ ((λ j. and_then (e j) (λ q. run limit q more)) ∙ ends) in
    let (ps, fit, spelled) = terms_are_rows limit (is ++ more) rs (reads_only limit (is ++ more) rs all) in
    (tokens more, ps, fit, sym (map-append (λ i. i.token) is more) ∙ spelled)

pub runs_on : (limit : ℕ) (is : List Item) (p q : Progress) (i : Item) → run limit nothing_read is ≡ Ok p → next limit p i ≡ Some q → run limit nothing_read (is ++ i ∷ []) ≡ Ok q
runs_on limit is p q i e n =
    run-append limit nothing_read is (i ∷ []) ∙ ((λ j. and_then (e j) (λ q. run limit q (i ∷ []))) ∙ goes limit p q i [] n)

-- what can be completed has come token by token
pub viable_prefix : (limit : ℕ) (a b : List Token) → Viable limit (a ++ b) → Viable limit a
viable_prefix limit a b (more, ps, fit, e) = (b ++ more, ps, fit, sym (append_assoc a b more) ∙ e)

pub may_come : (limit : ℕ) (is : List Item) (p q : Progress) (i : Item) → run limit nothing_read is ≡ Ok p → next limit p i ≡ Some q → MayCome limit (tokens is) i.token
may_come limit is p q i e n =
    subst (λ ts. Viable limit ts) (map-append (λ i. i.token) is (i ∷ [])) (runs_viable limit (is ++ i ∷ []) q (runs_on limit is p q i e n))

pub may_not_come : (limit : ℕ) (is : List Item) (p : Progress) (i : Item) → run limit nothing_read is ≡ Ok p → next limit p i ≡ None → MayCome limit (tokens is) i.token → ⊥
may_not_come limit is p i e n viable =
    let (q, runs) = viable_runs limit (is ++ i ∷ []) (subst (λ ts. Viable limit ts) (sym (map-append (λ i. i.token) is (i ∷ []))) viable) in
    let stops : run limit nothing_read (is ++ i ∷ []) ≡ and_then (or_refusal limit p i None) (λ q. run limit q []) =
    run-append limit nothing_read is (i ∷ []) ∙ ((λ j. and_then (e j) (λ q. run limit q (i ∷ []))) ∙ (λ j. and_then (or_refusal limit p i (n j)) (λ q. run limit q []))) in
    cc
