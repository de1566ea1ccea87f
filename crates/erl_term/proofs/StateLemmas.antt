-- What the machine has read so far stands for the tokens that it has taken.
use Rattle.std.proofs.Common.{◌≡◌, ℕ, ℤ, pos, negsuc, suc, ◌+◌, ◌<◌, ◌≤◌, max, List, [], ◌∷◌, ◌++◌, length, nat_lt, Bool, true, false, if◌then◌else◌, Option, Some, None, Result, Ok, refl, sym, ◌∙◌, ap, subst, arith, append_assoc, append-nil}
use Rattle.std.proofs.lemmas.List.{map-append}
use Rattle.std.proofs.lemmas.Bool.{and_parts}
use Rattle.std.proofs.lemmas.Bool.Decides.{nat_tests}
use Rattle.std.specs.Option.{option_map, option_and_then}
use Rattle.std.specs.List.{list_all, AllByRecursion}
use Rattle.std.specs.Str.{chars}
use Rattle.erl_number.specs.declared.fault.TermFault.{TermFault}
use Rattle.erl_token.specs.declared.token.Bracket.{Bracket}
use Rattle.erl_token.specs.declared.token.Bracket.TheVariants.{Tuple, List as Square, Binary}
use Rattle.erl_term.specs.declared.parser.Slot.{Slot}
use Rattle.erl_term.specs.declared.parser.Slot.TheVariants.{First, Next, Later}
use Rattle.erl_term.specs.Value.{Value}
use Rattle.erl_term.specs.Value.Value.{int, atom, tuple, list}
use Rattle.erl_token.specs.Lexing.{Token, Item}
use Rattle.erl_token.specs.Lexing.Token.{open_tuple, close_tuple, open_list, close_list, open_binary, close_binary, comma, dot, name, number, text}
use Rattle.erl_term.specs.Grammar.{Phrase, Phrases, meaning, segment, segments, tokens_of, members_tokens, depth, depths, IsSegment, HasSegments, numbers, tokens, first_from, last_to, Reading, IsTerm, AreTerms}
use Rattle.erl_term.specs.Grammar.Phrase.{a_name, a_number, a_text, a_tuple, a_list, a_binary}
use Rattle.erl_term.specs.Grammar.Phrases.{no_phrases, phrase}
use Rattle.erl_token.specs.Bytes.{bytes_of}
use Rattle.erl_term.specs.Machine.{Level, State, Progress, Kind, kind_of, byte_of, bracket_of, empty, with_member, is_binary, added, enter, open_levels, put, enclosed, close, shut, is_same, separate, end, next, or_refusal, and_then, run, at_kind, nothing_read}
use Rattle.erl_term.specs.Machine.Members.{in_tuple, in_list, in_binary}
use Rattle.erl_term.specs.Machine.State.{begun, whole, inside}
use Rattle.erl_term.specs.Machine.Kind.{leaf, opening, closing, separator, ending, senseless}
use Rattle.erl_term.proofs.Passes.{progress, reading, last_to-end, StandsIn, worth, Holds, list_of, values_of-list_of, more, bracket_of-empty, bracket_of-with_member, behind, closes}

abbrev pub phrases_of : List Phrase → Phrases
phrases_of [] = no_phrases
phrases_of (p ∷ ps) = phrase p (phrases_of ps)

-- members, each with its comma
abbrev pub ahead : List Phrase → List Token
ahead [] = []
ahead (p ∷ ps) = tokens_of p ++ (comma ∷ ahead ps)

-- this token opens the level, whose members are these phrases, and they fit within the brackets around it
pub record IsLevel (limit : ℕ) (around : List Level) (l : Level) (o : Item) (ps : List Phrase) : Type 0 where
  pub opens : kind_of o.token ≡ opening (bracket_of l.members)
  pub at : o.from ≡ l.from
  pub members : l.members ≡ more (empty (bracket_of l.members)) (phrases_of ps)
  pub fit : depths (phrases_of ps) + suc (length around) ≤ limit
  pub holds : Holds (bracket_of l.members) (phrases_of ps)
  pub outside : is_binary around ≡ false

-- the row opens these brackets, and a term may begin in the innermost
abbrev pub Free : ℕ → List Level → List Item → Type 0
Free limit [] row = row ≡ []
Free limit (l ∷ ls) row =
    (outer mine : List Item) × (o : Item) × (ps : List Phrase)
    × (row ≡ outer ++ (o ∷ mine)) × Free limit ls outer × IsLevel limit ls l o ps × (tokens mine ≡ ahead ps)

-- the members of a bracket that stand in a row, by what may come next
abbrev pub At : Slot → List Phrase → List Item → Type 0
At First ps mine = (ps ≡ []) × (mine ≡ [])
At Next ps mine = (qs : List Phrase) × (p : Phrase) × (ps ≡ qs ++ p ∷ []) × (tokens mine ≡ ahead ps)
At Later ps mine = (qs : List Phrase) × (p : Phrase) × (ps ≡ qs ++ p ∷ []) × (tokens mine ≡ ahead qs ++ tokens_of p)

-- the tokens since the last dot that lead to the state
abbrev pub Row : ℕ → State → List Item → Type 0
Row limit begun row = row ≡ []
Row limit (whole r) row = IsTerm limit row r
Row limit (inside slot l ls) row =
    (outer mine : List Item) × (o : Item) × (ps : List Phrase)
    × (row ≡ outer ++ (o ∷ mine)) × Free limit ls outer × IsLevel limit ls l o ps × At slot ps mine

-- all tokens that lead to what has been read
abbrev pub Stands : ℕ → Progress → List Item → Type 0
Stands limit p is = (before row : List Item) × (is ≡ before ++ row) × AreTerms limit before p.done × Row limit p.state row

pub some_same : {A : Type 0} (a b : A) → Some a ≡ Some b → a ≡ b
some_same a b e = cc

free_stands : (limit : ℕ) (s : State) (ls : List Level) (row : List Item) → open_levels s ≡ Some ls → Row limit s row → Free limit ls row
free_stands limit begun ls row e h = subst (λ ks. Free limit ks row) (some_same [] ls e) h
free_stands limit (inside First l ks) ls row e (outer, mine, o, ps, r, around, level, (none, bare)) =
    subst (λ ks. Free limit ks row) (some_same (l ∷ ks) ls e) (outer, mine, o, ps, r, around, level, rw (none, bare) refl)
free_stands limit (inside Next l ks) ls row e (outer, mine, o, ps, r, around, level, (qs, p, q, spelled)) =
    subst (λ ks. Free limit ks row) (some_same (l ∷ ks) ls e) (outer, mine, o, ps, r, around, level, spelled)
free_stands limit (whole r) ls row e h = absurd (cc)
free_stands limit (inside Later l ks) ls row e h = absurd (cc)

depths-end : (ps : List Phrase) (p : Phrase) → depths (phrases_of (ps ++ p ∷ [])) ≡ max (depths (phrases_of ps)) (depth p)
depths-end [] p = omega arith
depths-end (q ∷ ps) p = omega (arith, depths-end ps p)

-- one member more
list_of-end : (ps : List Phrase) (p : Phrase) → list_of (phrases_of (ps ++ p ∷ [])) ≡ list_of (phrases_of ps) ++ meaning p ∷ []
list_of-end [] p = refl
list_of-end (q ∷ ps) p = ap (λ vs. meaning q ∷ vs) (list_of-end ps p)

segments-end : (ps : List Phrase) (p : Phrase) → segments (phrases_of (ps ++ p ∷ [])) ≡ segments (phrases_of ps) ++ segment p
segments-end [] p = append-nil (segment p)
segments-end (q ∷ ps) p = ap (λ bs. segment q ++ bs) (segments-end ps p) ∙ sym (append_assoc (segment q) (segments (phrases_of ps)) (segment p))

more-end : (b : Bracket) (ps : List Phrase) (p : Phrase)
    → with_member (meaning p) (worth (is_same b Binary) p) (more (empty b) (phrases_of ps)) ≡ more (empty b) (phrases_of (ps ++ p ∷ []))
more-end Tuple ps p = ap in_tuple (sym (list_of-end ps p))
more-end Square ps p = ap in_list (sym (list_of-end ps p))
more-end Binary ps p = ap in_binary (sym (segments-end ps p))

holds-end : (b : Bracket) (ps : List Phrase) (p : Phrase) → Holds b (phrases_of ps) → HasSegments p → StandsIn (is_same b Binary) p → Holds b (phrases_of (ps ++ p ∷ []))
holds-end Tuple [] p h has stands = (has, tt)
holds-end Tuple (q ∷ ps) p (first, others) has stands = (first, holds-end Tuple ps p others has stands)
holds-end Square [] p h has stands = (has, tt)
holds-end Square (q ∷ ps) p (first, others) has stands = (first, holds-end Square ps p others has stands)
holds-end Binary [] p h has stands = (stands, tt)
holds-end Binary (q ∷ ps) p (first, others) has stands = (first, holds-end Binary ps p others has stands)

-- a row that spells a term, where one may come
pub put_stands : (limit : ℕ) (ls : List Level) (outer x : List Item) (p : Phrase) (r : Reading) (bs : List ℕ) → Free limit ls outer
    → tokens x ≡ tokens_of p → depth p + length ls ≤ limit → HasSegments p → StandsIn (is_binary ls) p → r ≡ reading (meaning p) (first_from x) (last_to x)
    → bs ≡ worth (is_binary ls) p → Row limit (put r bs ls) (outer ++ x)
put_stands limit [] outer x p r bs free spelled fits has stands is adds =
    rw free (record { phrase = p; spelled = spelled; means = ap (λ q. q.term) is; fits = (omega arith, has); from = ap (λ q. q.from) is; to = ap (λ q. q.to) is })
put_stands limit (l ∷ ls) outer x p r bs (around, mine, o, ps, e, free, level, in_mine) spelled fits has stands is adds =
    let same : bracket_of l.members ≡ bracket_of (with_member r.term bs l.members) = sym (bracket_of-with_member r.term bs l.members) in (
      around,
      mine ++ x,
      o,
      ps ++ p ∷ [],
      ap (λ y. y ++ x) e ∙ append_assoc around (o ∷ mine) x,
      free,
      record {
        opens = level.opens ∙ ap opening same;
        at = level.at;
        members =
            (λ k. with_member (is k).term (adds k) (level.members k))
            ∙ (more-end (bracket_of l.members) ps p ∙ ap (λ b. more (empty b) (phrases_of (ps ++ p ∷ []))) same);
        fit = let known = level.fit in omega (arith, depths-end ps p);
        holds = subst (λ b. Holds b (phrases_of (ps ++ p ∷ []))) same (holds-end (bracket_of l.members) ps p level.holds has stands);
        outside = level.outside;
      },
      (ps, p, refl, map-append (λ i. i.token) mine x ∙ (λ k. in_mine k ++ spelled k)),
    )

-- a term that is one token
record IsLeaf (t : Token) (v : Value) (bytes : Option (List ℕ)) : Type 0 where
  said : Phrase
  spelled : t ∷ [] ≡ tokens_of said
  means : meaning said ≡ v
  flat : depth said ≡ 0
  has : HasSegments said
  stands : (bs : List ℕ) → bytes ≡ Some bs → IsSegment said × (bs ≡ segment said)

some_byte : (n : ℤ) (bs : List ℕ) → byte_of n ≡ Some bs → IsSegment (a_number n) × (bs ≡ segment (a_number n))
some_byte (pos n) bs e = go (nat_lt n 256) refl e
  where
    go : (b : Bool) → nat_lt n 256 ≡ b → (if b then Some (n ∷ []) else None) ≡ Some bs → (n < 256) × (bs ≡ n ∷ [])
    go true small e = ((grind (arith, nat_tests)), sym (some_same (n ∷ []) bs e))
    go false small e = absurd (cc)
some_byte (negsuc n) bs e = absurd (cc)

all_small : (cs : List ℕ) → list_all (λ n. nat_lt n 256) cs ≡ true → AllByRecursion (λ c. c < 256) cs
all_small [] h = tt
all_small (c ∷ cs) h =
    let (first, others) = and_parts (nat_lt c 256) (list_all (λ n. nat_lt n 256) cs) h in
    ((grind (arith, nat_tests)), all_small cs others)

some_bytes : (s bs : List ℕ) → bytes_of (chars s) ≡ Some bs → IsSegment (a_text s) × (bs ≡ segment (a_text s))
some_bytes s bs e = go (list_all (λ n. nat_lt n 256) (chars s)) refl e
  where
    go : (b : Bool) → list_all (λ n. nat_lt n 256) (chars s) ≡ b → (if b then Some (chars s) else None) ≡ Some bs → AllByRecursion (λ c. c < 256) (chars s) × (bs ≡ chars s)
    go true small e = (all_small (chars s) small, sym (some_same (chars s) bs e))
    go false small e = absurd (cc)

leaf_same : (v w : Value) (a b : Option (List ℕ)) → leaf v a ≡ leaf w b → (v ≡ w) × (a ≡ b)
leaf_same v w a b e = ((cc), (cc))

one_leaf : (t : Token) (v : Value) (bytes : Option (List ℕ)) → kind_of t ≡ leaf v bytes → IsLeaf t v bytes
one_leaf (name s) v bytes e =
    let (means, none) = leaf_same (atom s) v None bytes e in
    record { said = a_name s; spelled = refl; means = means; flat = refl; has = tt; stands = λ bs some. absurd (let never : None ≡ Some bs = none ∙ some in cc) }
one_leaf (number n) v bytes e =
    let (means, bytes_are) = leaf_same (int n) v (byte_of n) bytes e in
    record { said = a_number n; spelled = refl; means = means; flat = refl; has = tt; stands = λ bs some. some_byte n bs (bytes_are ∙ some) }
one_leaf (text s) v bytes e =
    let (means, bytes_are) = leaf_same (list (numbers (chars s))) v (bytes_of (chars s)) bytes e in
    record { said = a_text s; spelled = refl; means = means; flat = refl; has = tt; stands = λ bs some. some_bytes s bs (bytes_are ∙ some) }
one_leaf t v bytes e = absurd (cc)

free_fits : (limit : ℕ) (ls : List Level) (row : List Item) → Free limit ls row → length ls ≤ limit
free_fits limit [] row h = omega arith
free_fits limit (l ∷ ls) row (around, mine, o, ps, e, free, level, in_mine) = let known = level.fit in omega arith

leaf_stands : (limit : ℕ) (ls : List Level) (row : List Item) (i : Item) (v : Value) (bytes : Option (List ℕ)) (bs : List ℕ) → Free limit ls row
    → kind_of i.token ≡ leaf v bytes → added bytes ls ≡ Some bs → Row limit (put (reading v i.from i.to) bs ls) (row ++ i ∷ [])
leaf_stands limit ls row i v bytes bs free k adds =
    let is = one_leaf i.token v bytes k in
    let known = free_fits limit ls row free in
    let flat = is.flat in
    let (stands, worth_is) = go (is_binary ls) adds in
    put_stands limit ls row (i ∷ []) is.said (reading v i.from i.to) bs free is.spelled (omega arith) is.has stands (λ k. reading (sym is.means k) i.from i.to) worth_is
  where
    go : (b : Bool) → (if b then bytes else Some []) ≡ Some bs → StandsIn b (one_leaf i.token v bytes k).said × (bs ≡ worth b (one_leaf i.token v bytes k).said)
    go true e = (one_leaf i.token v bytes k).stands bs e
    go false e = (tt, sym (some_same [] bs e))

empty-more : (b : Bracket) → empty b ≡ more (empty (bracket_of (empty b))) no_phrases
empty-more Tuple = refl
empty-more Square = refl
empty-more Binary = refl

empty_holds : (b : Bracket) → Holds b no_phrases
empty_holds Tuple = tt
empty_holds Square = tt
empty_holds Binary = tt

opening_stands : (limit : ℕ) (ls : List Level) (row : List Item) (i : Item) (b : Bracket) → Free limit ls row → kind_of i.token ≡ opening b
    → is_binary ls ≡ false → nat_lt (length ls) limit ≡ true → Row limit (inside First (record { from = i.from; members = empty b }) ls) (row ++ i ∷ [])
opening_stands limit ls row i b free k outside room = (
  row,
  [],
  i,
  [],
  refl,
  free,
  record {
    opens = k ∙ ap opening (sym (bracket_of-empty b));
    at = refl;
    members = empty-more b;
    fit = grind (arith, nat_tests);
    holds = empty_holds (bracket_of (empty b));
    outside = outside;
  },
  (refl, refl),
)

pub ahead-end : (ps : List Phrase) (p : Phrase) → ahead (ps ++ p ∷ []) ≡ ahead ps ++ (tokens_of p ++ comma ∷ [])
ahead-end [] p = refl
ahead-end (q ∷ ps) p = ap (λ ts. tokens_of q ++ (comma ∷ ts)) (ahead-end ps p) ∙ sym (append_assoc (tokens_of q) (comma ∷ ahead ps) (tokens_of p ++ comma ∷ []))

-- members with commas between them
pub joined : (ps : List Phrase) (p : Phrase) → members_tokens (phrases_of (ps ++ p ∷ [])) ≡ ahead ps ++ tokens_of p
joined [] p = append-nil (tokens_of p)
joined (q ∷ []) p =
    ap (λ ts. tokens_of q ++ (comma ∷ ts)) (append-nil (tokens_of p)) ∙ sym (append_assoc (tokens_of q) (comma ∷ []) (tokens_of p))
joined (q ∷ r ∷ ps) p =
    ap (λ ts. tokens_of q ++ (comma ∷ ts)) (joined (r ∷ ps) p) ∙ sym (append_assoc (tokens_of q) (comma ∷ ahead (r ∷ ps)) (tokens_of p))

-- the bracket as a phrase
abbrev pub bracketed : Bracket → List Phrase → Phrase
bracketed Tuple ps = a_tuple (phrases_of ps)
bracketed Square ps = a_list (phrases_of ps)
bracketed Binary ps = a_binary (phrases_of ps)

meaning-bracketed : (b : Bracket) (ps : List Phrase) → enclosed (more (empty b) (phrases_of ps)) ≡ meaning (bracketed b ps)
meaning-bracketed Tuple ps = ap tuple (values_of-list_of (phrases_of ps))
meaning-bracketed Square ps = ap list (values_of-list_of (phrases_of ps))
meaning-bracketed Binary ps = refl

depth-bracketed : (b : Bracket) (ps : List Phrase) → depth (bracketed b ps) ≡ depths (phrases_of ps) + 1
depth-bracketed Tuple ps = refl
depth-bracketed Square ps = refl
depth-bracketed Binary ps = refl

has-bracketed : (b : Bracket) (ps : List Phrase) → Holds b (phrases_of ps) → HasSegments (bracketed b ps)
has-bracketed Tuple ps h = h
has-bracketed Square ps h = h
has-bracketed Binary ps h = h

-- the token that begins a bracket
abbrev pub opens : Bracket → Token
opens Tuple = open_tuple
opens Square = open_list
opens Binary = open_binary

opening_is : (b : Bracket) (t : Token) → kind_of t ≡ opening b → t ≡ opens b
opening_is Tuple open_tuple e = refl
opening_is Square open_list e = refl
opening_is Binary open_binary e = refl
opening_is b t e = absurd (cc)

closing_is : (b : Bracket) (t : Token) → kind_of t ≡ closing b → t ≡ closes b
closing_is Tuple close_tuple e = refl
closing_is Square close_list e = refl
closing_is Binary close_binary e = refl
closing_is b t e = absurd (cc)

spelled-bracketed : (b : Bracket) (ps : List Phrase) → opens b ∷ (members_tokens (phrases_of ps) ++ closes b ∷ []) ≡ tokens_of (bracketed b ps)
spelled-bracketed Tuple ps = refl
spelled-bracketed Square ps = refl
spelled-bracketed Binary ps = refl

-- outside of a binary any term may stand, and adds no bytes
stands_outside : (b : Bool) (p : Phrase) → b ≡ false → StandsIn b p × ([] ≡ worth b p)
stands_outside true p e = absurd (cc)
stands_outside false p e = (tt, refl)

-- a bracket with these members is closed
closing_stands : (limit : ℕ) (l : Level) (ls : List Level) (outer mine : List Item) (o c : Item) (ps : List Phrase)
    → Free limit ls outer → IsLevel limit ls l o ps → tokens mine ≡ members_tokens (phrases_of ps) → kind_of c.token ≡ closing (bracket_of l.members)
    → Row limit (behind l ls c.to) ((outer ++ (o ∷ mine)) ++ c ∷ [])
closing_stands limit l ls outer mine o c ps free level in_mine k =
    let b : Bracket = bracket_of l.members in
    let spelled : tokens (o ∷ (mine ++ c ∷ [])) ≡ tokens_of (bracketed b ps) =
    (λ j. opening_is b o.token level.opens j ∷ (map-append (λ i. i.token) mine (c ∷ []) ∙ (λ i. in_mine i ++ closing_is b c.token k i ∷ [])) j)
    ∙ spelled-bracketed b ps in
    let fits : depth (bracketed b ps) + length ls ≤ limit = let known = level.fit in omega (arith, depth-bracketed b ps) in
    let means : enclosed l.members ≡ meaning (bracketed b ps) = ap enclosed level.members ∙ meaning-bracketed b ps in
    let ends : c.to ≡ last_to (o ∷ (mine ++ c ∷ [])) = sym (last_to-end (o ∷ mine) c) in
    let (stands, adds) = stands_outside (is_binary ls) (bracketed b ps) level.outside in
    subst (λ row. Row limit (behind l ls c.to) row) (sym (append_assoc outer (o ∷ mine) (c ∷ [])))
    (put_stands limit ls outer (o ∷ (mine ++ c ∷ [])) (bracketed b ps) (reading (enclosed l.members) l.from c.to) [] free spelled fits
    (has-bracketed b ps level.holds) stands (λ j. reading (means j) (sym level.at j) (ends j)) adds)

pub same_bracket : (a b : Bracket) → is_same a b ≡ true → a ≡ b
same_bracket Tuple Tuple e = refl
same_bracket Square Square e = refl
same_bracket Binary Binary e = refl
same_bracket a b e = absurd (cc)

-- the innermost bracket as it is closed
shut_stands : (limit : ℕ) (l : Level) (ls : List Level) (outer mine : List Item) (o c : Item) (ps : List Phrase) (b : Bracket) (t : State)
    → Free limit ls outer → IsLevel limit ls l o ps → tokens mine ≡ members_tokens (phrases_of ps) → kind_of c.token ≡ closing b
    → shut l ls b c.to ≡ Some t → Row limit t ((outer ++ (o ∷ mine)) ++ c ∷ [])
shut_stands limit l ls outer mine o c ps b t free level in_mine k e = go (is_same (bracket_of l.members) b) refl e
  where
    go : (same : Bool) → is_same (bracket_of l.members) b ≡ same → (if same then Some (behind l ls c.to) else None) ≡ Some t
        → Row limit t ((outer ++ (o ∷ mine)) ++ c ∷ [])
    go true same e = subst (λ t. Row limit t ((outer ++ (o ∷ mine)) ++ c ∷ [])) (some_same (behind l ls c.to) t e)
        (closing_stands limit l ls outer mine o c ps free level in_mine (k ∙ ap closing (sym (same_bracket (bracket_of l.members) b same))))
    go false same e = absurd (cc)

close_stands : (limit : ℕ) (s : State) (row : List Item) (c : Item) (b : Bracket) (t : State) → Row limit s row
    → kind_of c.token ≡ closing b → close s b c.to ≡ Some t → Row limit t (row ++ c ∷ [])
close_stands limit (inside First l ls) row c b t (outer, mine, o, ps, e, free, level, (none, bare)) k shuts =
    rw e (shut_stands limit l ls outer mine o c ps b t free level (rw (none, bare) refl) k shuts)
close_stands limit (inside Later l ls) row c b t (outer, mine, o, ps, e, free, level, (qs, p, q, in_mine)) k shuts =
    rw e (shut_stands limit l ls outer mine o c ps b t free level (in_mine ∙ (sym (joined qs p) ∙ ap (λ ps. members_tokens (phrases_of ps)) (sym q))) k shuts)
close_stands limit (inside Next l ls) row c b t h k shuts = absurd (cc)
close_stands limit begun row c b t h k shuts = absurd (cc)
close_stands limit (whole r) row c b t h k shuts = absurd (cc)

separator_is : (t : Token) → kind_of t ≡ separator → t ≡ comma
separator_is comma e = refl
separator_is t e = absurd (cc)

separate_stands : (limit : ℕ) (s : State) (row : List Item) (c : Item) (t : State) → Row limit s row
    → kind_of c.token ≡ separator → separate s ≡ Some t → Row limit t (row ++ c ∷ [])
separate_stands limit (inside Later l ls) row c t (outer, mine, o, ps, e, free, level, (qs, p, q, in_mine)) k e' =
    let spelled : tokens (mine ++ c ∷ []) ≡ ahead ps =
    map-append (λ i. i.token) mine (c ∷ []) ∙ ((λ j. in_mine j ++ separator_is c.token k j ∷ [])
    ∙ (append_assoc (ahead qs) (tokens_of p) (comma ∷ []) ∙ (sym (ahead-end qs p) ∙ ap ahead (sym q)))) in
    subst (λ t. Row limit t (row ++ c ∷ [])) (some_same (inside Next l ls) t e')
    (outer, mine ++ c ∷ [], o, ps, ap (λ y. y ++ c ∷ []) e ∙ append_assoc outer (o ∷ mine) (c ∷ []), free, level, (qs, p, q, spelled))
separate_stands limit (inside First l ls) row c t h k e = absurd (cc)
separate_stands limit (inside Next l ls) row c t h k e = absurd (cc)
separate_stands limit begun row c t h k e = absurd (cc)
separate_stands limit (whole r) row c t h k e = absurd (cc)

-- one term more after others
AreTerms-end : (limit : ℕ) (is row : List Item) (d : Item) (rs : List Reading) (r : Reading) → AreTerms limit is rs → IsTerm limit row r → d.token ≡ dot
    → AreTerms limit (is ++ (row ++ d ∷ [])) (rs ++ r ∷ [])
AreTerms-end limit is row d [] r e t k = (row, [], d, ap (λ y. y ++ (row ++ d ∷ [])) e, k, t, refl)
AreTerms-end limit is row d (q ∷ rs) r (first, rest, e, is_first, first_dot, first_term, others) t k = (
  first,
  rest ++ (row ++ d ∷ []),
  e,
  ap (λ y. y ++ (row ++ d ∷ [])) is_first ∙ append_assoc first (e ∷ rest) (row ++ d ∷ []),
  first_dot,
  first_term,
  AreTerms-end limit rest row d rs r others t k,
)

ending_is : (t : Token) → kind_of t ≡ ending → t ≡ dot
ending_is dot e = refl
ending_is t e = absurd (cc)

end_stands : (limit : ℕ) (done : List Reading) (s : State) (before row : List Item) (d : Item) (q : Progress) → AreTerms limit before done → Row limit s row
    → kind_of d.token ≡ ending → end done s ≡ Some q → Stands limit q ((before ++ row) ++ d ∷ [])
end_stands limit done (whole r) before row d q terms t k e =
    subst (λ q. Stands limit q ((before ++ row) ++ d ∷ [])) (some_same (progress (done ++ r ∷ []) begun) q e)
    (before ++ (row ++ d ∷ []), [], append_assoc before row (d ∷ []) ∙ sym (append-nil (before ++ (row ++ d ∷ []))), AreTerms-end limit before row d done r terms t (ending_is d.token k), refl)
end_stands limit done (inside slot l ls) before row d q terms t k e = absurd (cc)
end_stands limit done begun before row d q terms t k e = absurd (cc)

-- each token that may come keeps what has been read in step with the tokens
next_stands : (limit : ℕ) (done : List Reading) (s : State) (before row : List Item) (i : Item) (q : Progress) → AreTerms limit before done → Row limit s row
    → next limit (progress done s) i ≡ Some q → Stands limit q ((before ++ row) ++ i ∷ [])
next_stands limit done s before row i q terms h e = by_kind (kind_of i.token) refl e
  where
    onward : (t : State) → Row limit t (row ++ i ∷ []) → Some (progress done t) ≡ Some q → Stands limit q ((before ++ row) ++ i ∷ [])
    onward t h e = subst (λ q. Stands limit q ((before ++ row) ++ i ∷ [])) (some_same (progress done t) q e)
        (before, row ++ i ∷ [], append_assoc before row (i ∷ []), terms, h)

    by_added : (v : Value) (bytes : Option (List ℕ)) (ls : List Level) (o : Option (List ℕ)) → kind_of i.token ≡ leaf v bytes → open_levels s ≡ Some ls → added bytes ls ≡ o
        → option_map (λ bs. progress done (put (reading v i.from i.to) bs ls)) o ≡ Some q → Stands limit q ((before ++ row) ++ i ∷ [])
    by_added v bytes ls (Some bs) k free adds e =
        onward (put (reading v i.from i.to) bs ls) (leaf_stands limit ls row i v bytes bs (free_stands limit s ls row free h) k adds) e
    by_added v bytes ls None k free adds e = absurd (cc)

    by_leaf : (v : Value) (bytes : Option (List ℕ)) (o : Option (List Level)) → kind_of i.token ≡ leaf v bytes → open_levels s ≡ o
        → option_and_then (λ ls. option_map (λ bs. progress done (put (reading v i.from i.to) bs ls)) (added bytes ls)) o ≡ Some q → Stands limit q ((before ++ row) ++ i ∷ [])
    by_leaf v bytes (Some ls) k free e = by_added v bytes ls (added bytes ls) k free refl e
    by_leaf v bytes None k free e = absurd (cc)

    by_room : (b : Bracket) (ls : List Level) (binary room : Bool) → kind_of i.token ≡ opening b → open_levels s ≡ Some ls → is_binary ls ≡ binary → nat_lt (length ls) limit ≡ room
        → option_map (λ t. progress done t) (if binary then None else if room then Some (inside First (record { from = i.from; members = empty b }) ls) else None) ≡ Some q
        → Stands limit q ((before ++ row) ++ i ∷ [])
    by_room b ls false true k free outside room e =
        onward (inside First (record { from = i.from; members = empty b }) ls) (opening_stands limit ls row i b (free_stands limit s ls row free h) k outside room) e
    by_room b ls false false k free outside room e = absurd (cc)
    by_room b ls true room k free outside is e = absurd (cc)

    by_opening : (b : Bracket) (o : Option (List Level)) → kind_of i.token ≡ opening b → open_levels s ≡ o
        → option_and_then (λ ls. option_map (λ t. progress done t) (enter limit b i.from ls)) o ≡ Some q → Stands limit q ((before ++ row) ++ i ∷ [])
    by_opening b (Some ls) k free e = by_room b ls (is_binary ls) (nat_lt (length ls) limit) k free refl refl e
    by_opening b None k free e = absurd (cc)

    by_closing : (b : Bracket) (o : Option State) → kind_of i.token ≡ closing b → close s b i.to ≡ o
        → option_map (λ t. progress done t) o ≡ Some q → Stands limit q ((before ++ row) ++ i ∷ [])
    by_closing b (Some t) k shuts e = onward t (close_stands limit s row i b t h k shuts) e
    by_closing b None k shuts e = absurd (cc)

    by_separator : (o : Option State) → kind_of i.token ≡ separator → separate s ≡ o
        → option_map (λ t. progress done t) o ≡ Some q → Stands limit q ((before ++ row) ++ i ∷ [])
    by_separator (Some t) k parts e = onward t (separate_stands limit s row i t h k parts) e
    by_separator None k parts e = absurd (cc)

    by_kind : (k : Kind) → kind_of i.token ≡ k → at_kind limit done s k i.from i.to ≡ Some q → Stands limit q ((before ++ row) ++ i ∷ [])
    by_kind (leaf v bytes) k e = by_leaf v bytes (open_levels s) k refl e
    by_kind (opening b) k e = by_opening b (open_levels s) k refl e
    by_kind (closing b) k e = by_closing b (close s b i.to) k refl e
    by_kind separator k e = by_separator (separate s) k refl e
    by_kind ending k e = end_stands limit done s before row i q terms h k e
    by_kind senseless k e = absurd (cc)

ok_same : (p q : Progress) → (let a : Result Progress TermFault = Ok p in a) ≡ Ok q → p ≡ q
ok_same p q e = cc

pub run_stands : (limit : ℕ) (p q : Progress) (before is : List Item) → Stands limit p before → run limit p is ≡ Ok q → Stands limit q (before ++ is)
run_stands limit p q before [] h e = subst (λ is. Stands limit q is) (sym (append-nil before)) (subst (λ q. Stands limit q before) (ok_same p q e) h)
run_stands limit p q before (i ∷ is) (first, row, r, terms, h) e =
    subst (λ is. Stands limit q is) (append_assoc before (i ∷ []) is) (go (λ t. run_stands limit t q (before ++ i ∷ []) is) (next limit p i) refl e)
  where
    go : ((t : Progress) → Stands limit t (before ++ i ∷ []) → run limit t is ≡ Ok q → Stands limit q ((before ++ i ∷ []) ++ is))
        → (o : Option Progress) → next limit p i ≡ o → and_then (or_refusal limit p i o) (λ t. run limit t is) ≡ Ok q → Stands limit q ((before ++ i ∷ []) ++ is)
    go more (Some t) n e = more t (subst (λ x. Stands limit t (x ++ i ∷ [])) (sym r) (next_stands limit p.done p.state first row i t terms h n)) e
    go more None n e = absurd (cc)

pub nothing_stands : (limit : ℕ) → Stands limit nothing_read []
nothing_stands limit = ([], [], refl, refl, refl)
