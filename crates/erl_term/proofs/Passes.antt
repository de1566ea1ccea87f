-- A row of tokens that spells a term leads the machine after that term.
use Rattle.std.proofs.Common.{◌≡◌, ℕ, ℤ, pos, negsuc, suc, ◌+◌, ◌<◌, ◌≤◌, List, [], ◌∷◌, ◌++◌, length, nat_lt, Bool, true, false, if◌then◌else◌, Option, Some, None, Result, Ok, Err, refl, sym, ◌∙◌, ap, subst, arith, append_assoc, append-nil, zero-add}
use Rattle.std.proofs.lemmas.Bool.Decides.{nat_tests}
use Rattle.std.proofs.lemmas.Bool.{and_from}
use Rattle.std.specs.List.{list_all, AllByRecursion}
use Rattle.std.specs.Option.{option_map}
use Rattle.std.specs.Str.{chars}
use Rattle.erl_number.specs.declared.fault.TermFault.{TermFault}
use Rattle.erl_token.specs.declared.token.Bracket.{Bracket}
use Rattle.erl_token.specs.declared.token.Bracket.TheVariants.{Tuple, List as Square, Binary}
use Rattle.erl_term.specs.declared.parser.Slot.TheVariants.{First, Next, Later}
use Rattle.erl_term.specs.Value.{Value, values_of}
use Rattle.erl_term.specs.Value.Values.{value}
use Rattle.erl_term.specs.Value.Value.{tuple, list}
use Rattle.erl_token.specs.Lexing.{Token, Item}
use Rattle.erl_token.specs.Lexing.Token.{open_tuple, close_tuple, open_list, close_list, open_binary, close_binary, comma, dot, name, number, text}
use Rattle.erl_term.specs.Grammar.{Phrase, Phrases, meaning, meanings, segment, segments, tokens_of, members_tokens, rest_tokens, depth, depths, IsSegment, AreSegments, HasSegments, HaveSegments, tokens, first_from, last_to, Reading, AreTerms}
use Rattle.erl_term.specs.Grammar.Phrase.{a_name, a_number, a_text, a_tuple, a_list, a_binary}
use Rattle.erl_term.specs.Grammar.Phrases.{no_phrases, phrase}
use Rattle.erl_token.specs.Bytes.{bytes_of}
use Rattle.erl_term.specs.Machine.{Level, Members, State, Progress, kind_of, byte_of, is_binary, is_same, bracket_of, empty, with_member, added, open_levels, put, enclosed, close, shut, next, step, or_refusal, and_then, run}
use Rattle.erl_term.specs.Machine.Members.{in_tuple, in_list, in_binary}
use Rattle.erl_term.specs.Machine.State.{begun, whole, inside}
use Rattle.erl_term.specs.Machine.Kind.{leaf, opening, closing}

abbrev pub progress : List Reading → State → Progress
progress done s = record { done = done; state = s }

abbrev pub reading : Value → ℕ → ℕ → Reading
reading v from to = record { term = v; from = from; to = to }

-- a row that spells one row of tokens and then another
pub tokens_split : (is : List Item) (a b : List Token) → tokens is ≡ a ++ b
    → (x y : List Item) × (is ≡ x ++ y) × (tokens x ≡ a) × (tokens y ≡ b)
tokens_split is [] b e = ([], is, refl, refl, e)
tokens_split [] (t ∷ a) b e = absurd (cc)
tokens_split (i ∷ is) (t ∷ a) b e =
    let h : i.token ≡ t = cc in
    let r : tokens is ≡ a ++ b = cc in
    let (x, y, p, q, s) = tokens_split is a b r in
    (i ∷ x, y, ap (λ z. i ∷ z) p, (λ k. h k ∷ q k), s)

pub last_to-end : (is : List Item) (c : Item) → last_to (is ++ c ∷ []) ≡ c.to
last_to-end [] c = refl
last_to-end (i ∷ []) c = refl
last_to-end (i ∷ j ∷ is) c = last_to-end (j ∷ is) c

pub run-append : (limit : ℕ) (p : Progress) (a b : List Item) → run limit p (a ++ b) ≡ and_then (run limit p a) (λ q. run limit q b)
run-append limit p [] b = refl
run-append limit p (i ∷ a) b = go (λ q. run-append limit q a b) (step limit p i)
  where
    go : ((q : Progress) → run limit q (a ++ b) ≡ and_then (run limit q a) (λ t. run limit t b)) → (r : Result Progress TermFault)
        → and_then r (λ q. run limit q (a ++ b)) ≡ and_then (and_then r (λ q. run limit q a)) (λ q. run limit q b)
    go more (Ok q) = more q
    go more (Err f) = refl

-- a token that may come
pub goes : (limit : ℕ) (p q : Progress) (i : Item) (is : List Item) → next limit p i ≡ Some q → run limit p (i ∷ is) ≡ run limit q is
goes limit p q i is e = ap (λ x. and_then (or_refusal limit p i x) (λ q. run limit q is)) e

-- the phrase may stand in the innermost bracket: as a segment if that is a binary
abbrev pub StandsIn : Bool → Phrase → Type 0
StandsIn true p = IsSegment p
StandsIn false p = Unit {0}

-- the bytes that it adds there
abbrev pub worth : Bool → Phrase → List ℕ
worth true p = segment p
worth false p = []

-- what may stand in a bracket
abbrev pub Holds : Bracket → Phrases → Type 0
Holds Binary ps = AreSegments ps
Holds b ps = HaveSegments ps

segment_has : (p : Phrase) → IsSegment p → HasSegments p
segment_has (a_name s) h = tt
segment_has (a_number n) h = tt
segment_has (a_text s) h = tt
segment_has p h = absurd h

-- the first of the members of a bracket, and the others
pub holds_parts : (b : Bracket) (p : Phrase) (ps : Phrases) → Holds b (phrase p ps) → HasSegments p × StandsIn (is_same b Binary) p × Holds b ps
holds_parts Tuple p ps (first, others) = (first, tt, others)
holds_parts Square p ps (first, others) = (first, tt, others)
holds_parts Binary p ps (first, others) = (segment_has p first, first, others)

-- a token that stands for a phrase adds its bytes
pub added-worth : (p : Phrase) (bytes : Option (List ℕ)) (ls : List Level) → (IsSegment p → bytes ≡ Some (segment p)) → StandsIn (is_binary ls) p
    → added bytes ls ≡ Some (worth (is_binary ls) p)
added-worth p bytes ls is h = go (is_binary ls) h
  where
    go : (b : Bool) → StandsIn b p → (if b then bytes else Some []) ≡ Some (worth b p)
    go true h = is h
    go false h = refl

pub next_leaf : (limit : ℕ) (done : List Reading) (s : State) (ls : List Level) (i : Item) (v : Value) (bytes : Option (List ℕ)) (bs : List ℕ)
    → open_levels s ≡ Some ls → kind_of i.token ≡ leaf v bytes → added bytes ls ≡ Some bs
    → next limit (progress done s) i ≡ Some (progress done (put (reading v i.from i.to) bs ls))
next_leaf limit done s ls i v bytes bs o k a = rw (k, o) (ap (option_map (λ bs. progress done (put (reading v i.from i.to) bs ls))) a)

pub next_opening : (limit : ℕ) (done : List Reading) (s : State) (ls : List Level) (i : Item) (b : Bracket)
    → open_levels s ≡ Some ls → kind_of i.token ≡ opening b → is_binary ls ≡ false → nat_lt (length ls) limit ≡ true
    → next limit (progress done s) i ≡ Some (progress done (inside First (record { from = i.from; members = empty b }) ls))
next_opening limit done s ls i b o k square l = rw (k, o, square, l) refl

-- the members' values
abbrev pub list_of : Phrases → List Value
list_of no_phrases = []
list_of (phrase p ps) = meaning p ∷ list_of ps

pub values_of-list_of : (ps : Phrases) → values_of (list_of ps) ≡ meanings ps
values_of-list_of no_phrases = refl
values_of-list_of (phrase p ps) = ap (λ vs. value (meaning p) vs) (values_of-list_of ps)

-- these members more
abbrev pub more : Members → Phrases → Members
more (in_tuple vs) ps = in_tuple (vs ++ list_of ps)
more (in_list vs) ps = in_list (vs ++ list_of ps)
more (in_binary bs) ps = in_binary (bs ++ segments ps)

pub more-none : (m : Members) → m ≡ more m no_phrases
more-none (in_tuple vs) = ap in_tuple (sym (append-nil vs))
more-none (in_list vs) = ap in_list (sym (append-nil vs))
more-none (in_binary bs) = ap in_binary (sym (append-nil bs))

more-one : (m : Members) (p : Phrase) (ps : Phrases) → more (with_member (meaning p) (worth (is_same (bracket_of m) Binary) p) m) ps ≡ more m (phrase p ps)
more-one (in_tuple vs) p ps = ap in_tuple (append_assoc vs (meaning p ∷ []) (list_of ps))
more-one (in_list vs) p ps = ap in_list (append_assoc vs (meaning p ∷ []) (list_of ps))
more-one (in_binary bs) p ps = ap in_binary (append_assoc bs (segment p) (segments ps))

pub bracket_of-with_member : (v : Value) (bs : List ℕ) (m : Members) → bracket_of (with_member v bs m) ≡ bracket_of m
bracket_of-with_member v bs (in_tuple vs) = refl
bracket_of-with_member v bs (in_list vs) = refl
bracket_of-with_member v bs (in_binary xs) = refl

pub bracket_of-empty : (b : Bracket) → bracket_of (empty b) ≡ b
bracket_of-empty Tuple = refl
bracket_of-empty Square = refl
bracket_of-empty Binary = refl

pub is_same-refl : (b : Bracket) → is_same b b ≡ true
is_same-refl Tuple = refl
is_same-refl Square = refl
is_same-refl Binary = refl

-- the token that ends a bracket
abbrev pub closes : Bracket → Token
closes Tuple = close_tuple
closes Square = close_list
closes Binary = close_binary

pub kind_of-closes : (b : Bracket) → kind_of (closes b) ≡ closing b
kind_of-closes Tuple = refl
kind_of-closes Square = refl
kind_of-closes Binary = refl

-- the bracket with these members more
abbrev pub with_members : Level → Phrases → Level
with_members l ps = record l { members = more l.members ps }

-- the bracket with one member more
abbrev pub with_phrase : Level → Phrase → Level
with_phrase l p = record l { members = with_member (meaning p) (worth (is_same (bracket_of l.members) Binary) p) l.members }

-- the state after a bracket
abbrev pub behind : Level → List Level → ℕ → State
behind l ls to = put (reading (enclosed l.members) l.from to) [] ls

pub next_closing : (limit : ℕ) (done : List Reading) (s : State) (l : Level) (ls : List Level) (c : Item)
    → ((b : Bracket) (to : ℕ) → close s b to ≡ shut l ls b to) → c.token ≡ closes (bracket_of l.members)
    → next limit (progress done s) c ≡ Some (progress done (behind l ls c.to))
next_closing limit done s l ls c may e =
    let k : kind_of c.token ≡ closing (bracket_of l.members) = ap kind_of e ∙ kind_of-closes (bracket_of l.members) in
    rw (k, may (bracket_of l.members) c.to, is_same-refl (bracket_of l.members)) refl

-- where a member may begin, a row that spells a phrase that fits leads after it
abbrev pub Passes : ℕ → Phrase → Type 0
Passes limit p = (done : List Reading) (s : State) (ls : List Level) (row is : List Item)
    → open_levels s ≡ Some ls → length ls + depth p ≤ limit → HasSegments p → StandsIn (is_binary ls) p → tokens row ≡ tokens_of p
    → run limit (progress done s) (row ++ is) ≡ run limit (progress done (put (reading (meaning p) (first_from row) (last_to row)) (worth (is_binary ls) p) ls)) is

-- after a bracket, or after one of its members, the members that are left and the end of the bracket lead after it
abbrev pub PassesMembers : ℕ → Phrases → (Phrases → List Token) → State → Level → List Level → Type 0
PassesMembers limit ps spelled s l ls = (done : List Reading) (row is : List Item) (c : Item)
    → suc (length ls) + depths ps ≤ limit → Holds (bracket_of l.members) ps → tokens row ≡ spelled ps → c.token ≡ closes (bracket_of l.members)
    → run limit (progress done s) (row ++ (c ∷ is)) ≡ run limit (progress done (behind (with_members l ps) ls c.to)) is

one_token : (row : List Item) (t : Token) → tokens row ≡ t ∷ [] → (i : Item) × (row ≡ i ∷ []) × (i.token ≡ t)
one_token [] t e = absurd (cc)
one_token (i ∷ []) t e = (i, refl, (cc))
one_token (i ∷ j ∷ is) t e = absurd (cc)

leaf_passes : (limit : ℕ) (p : Phrase) (t : Token) (bytes : Option (List ℕ)) → tokens_of p ≡ t ∷ [] → kind_of t ≡ leaf (meaning p) bytes
    → (IsSegment p → bytes ≡ Some (segment p)) → Passes limit p
leaf_passes limit p t bytes spelled k segment_is done s ls row is o fits has stands e =
    let (i, r, h) = one_token row t (e ∙ spelled) in
    rw r (goes limit (progress done s) (progress done (put (reading (meaning p) i.from i.to) (worth (is_binary ls) p) ls)) i is
    (next_leaf limit done s ls i (meaning p) bytes (worth (is_binary ls) p) o (ap kind_of h ∙ k) (added-worth p bytes ls segment_is stands)))

-- no bracket stands in a binary
outside : (p : Phrase) (ls : List Level) → (IsSegment p → ⊥) → StandsIn (is_binary ls) p → is_binary ls ≡ false
outside p ls never h = go (is_binary ls) refl h
  where
    go : (b : Bool) → is_binary ls ≡ b → StandsIn b p → is_binary ls ≡ false
    go true e h = absurd (never h)
    go false e h = e

-- a bracket whose members pass
bracket_passes : (limit : ℕ) (b : Bracket) (p : Phrase) (ps : Phrases) (o : Token)
    → kind_of o ≡ opening b → tokens_of p ≡ o ∷ (members_tokens ps ++ closes b ∷ []) → meaning p ≡ enclosed (more (empty b) ps) → depth p ≡ depths ps + 1
    → (HasSegments p → Holds b ps) → (IsSegment p → ⊥)
    → ((l : Level) (ls : List Level) → PassesMembers limit ps members_tokens (inside First l ls) l ls) → Passes limit p
bracket_passes limit b p ps o k spelled means deep holds never inner done s ls [] is free fits has stands e =
    absurd (let h : [] ≡ o ∷ (members_tokens ps ++ closes b ∷ []) = e ∙ spelled in cc)
bracket_passes limit b p ps o k spelled means deep holds never inner done s ls (i ∷ row) is free fits has stands e =
    let h : i.token ∷ tokens row ≡ o ∷ (members_tokens ps ++ closes b ∷ []) = e ∙ spelled in
    let first : i.token ≡ o = cc in
    let rest : tokens row ≡ members_tokens ps ++ closes b ∷ [] = cc in
    let (m, z, r, in_m, in_z) = tokens_split row (members_tokens ps) (closes b ∷ []) rest in
    let (c, zc, last) = one_token z (closes b) in_z in
    around m c first (r ∙ ap (λ y. m ++ y) zc) in_m last
  where
    around : (m : List Item) (c : Item) → i.token ≡ o → row ≡ m ++ c ∷ [] → tokens m ≡ members_tokens ps → c.token ≡ closes b
        → run limit (progress done s) ((i ∷ row) ++ is)
        ≡ run limit (progress done (put (reading (meaning p) (first_from (i ∷ row)) (last_to (i ∷ row))) (worth (is_binary ls) p) ls)) is
    around m c first row_is in_m last =
        let level : Level = record { from = i.from; members = empty b } in
        let room : nat_lt (length ls) limit ≡ true = grind (arith, nat_tests) in
        let fits_in : suc (length ls) + depths ps ≤ limit = omega arith in
        let same : bracket_of (empty b) ≡ b = bracket_of-empty b in
        let free_of : is_binary ls ≡ false = outside p ls never stands in
        let opened = goes limit (progress done s) (progress done (inside First level ls)) i ((m ++ c ∷ []) ++ is)
        (next_opening limit done s ls i b free (ap kind_of first ∙ k) free_of room) in
        let shut_again = inner level ls done m is c fits_in (subst (λ a. Holds a ps) (sym same) (holds has)) in_m (last ∙ ap closes (sym same)) in
        rw (row_is, last_to-end (i ∷ m) c, means, free_of) (opened ∙ (ap (λ y. run limit (progress done (inside First level ls)) y) (append_assoc m (c ∷ []) is) ∙ shut_again))

no_tokens : (row : List Item) → tokens row ≡ [] → row ≡ []
no_tokens [] e = refl
no_tokens (i ∷ is) e = absurd (cc)

-- the end of a bracket with no members left
ends : (limit : ℕ) (s : State) (l : Level) (ls : List Level) → ((b : Bracket) (to : ℕ) → close s b to ≡ shut l ls b to)
    → (done : List Reading) (row is : List Item) (c : Item) → tokens row ≡ [] → c.token ≡ closes (bracket_of l.members)
    → run limit (progress done s) (row ++ (c ∷ is)) ≡ run limit (progress done (behind (with_members l no_phrases) ls c.to)) is
ends limit s l ls may done row is c e t =
    rw (no_tokens row e) (goes limit (progress done s) (progress done (behind l ls c.to)) c is (next_closing limit done s l ls c may t)
    ∙ ap (λ m. run limit (progress done (behind (record l { members = m }) ls c.to)) is) (more-none l.members))

-- one member more, and then those after it
one_more : (limit : ℕ) (s : State) (p : Phrase) (ps : Phrases) (l : Level) (ls : List Level) → Passes limit p
    → ((l : Level) (ls : List Level) → PassesMembers limit ps rest_tokens (inside Later l ls) l ls)
    → open_levels s ≡ Some (l ∷ ls) → (done : List Reading) (row is : List Item) (c : Item)
    → suc (length ls) + depths (phrase p ps) ≤ limit → Holds (bracket_of l.members) (phrase p ps) → tokens row ≡ tokens_of p ++ rest_tokens ps → c.token ≡ closes (bracket_of l.members)
    → run limit (progress done s) (row ++ (c ∷ is)) ≡ run limit (progress done (behind (with_members l (phrase p ps)) ls c.to)) is
one_more limit s p ps l ls this others free done row is c fits holds e t =
    let (x, y, r, in_x, in_y) = tokens_split row (tokens_of p) (rest_tokens ps) e in
    let fits_here : suc (length ls) + depth p ≤ limit = omega arith in
    let fits_later : suc (length ls) + depths ps ≤ limit = omega arith in
    let (has, stands, holds_others) = holds_parts (bracket_of l.members) p ps holds in
    let same : bracket_of (with_phrase l p).members ≡ bracket_of l.members = bracket_of-with_member (meaning p) (worth (is_same (bracket_of l.members) Binary) p) l.members in
    let here = this done s (l ∷ ls) x (y ++ (c ∷ is)) free fits_here has stands in_x in
    let later = others (with_phrase l p) ls done y is c fits_later (subst (λ b. Holds b ps) (sym same) holds_others) in_y (t ∙ ap closes (sym same)) in
    rw r (ap (λ z. run limit (progress done s) z) (append_assoc x y (c ∷ is)) ∙ (here ∙ (later
    ∙ ap (λ m. run limit (progress done (behind (record l { members = m }) ls c.to)) is) (more-one l.members p ps))))

-- numbers and texts as segments
byte_is : (n : ℤ) → IsSegment (a_number n) → byte_of n ≡ Some (segment (a_number n))
byte_is (pos n) h = let small : nat_lt n 256 ≡ true = grind (arith, nat_tests) in rw small refl
byte_is (negsuc n) h = absurd h

all_bytes : (cs : List ℕ) → AllByRecursion (λ c. c < 256) cs → list_all (λ n. nat_lt n 256) cs ≡ true
all_bytes [] h = refl
all_bytes (c ∷ cs) (small, others) = let byte : nat_lt c 256 ≡ true = grind (arith, nat_tests) in and_from (nat_lt c 256) (list_all (λ n. nat_lt n 256) cs) byte (all_bytes cs others)

bytes_are : (s : List ℕ) → IsSegment (a_text s) → bytes_of (chars s) ≡ Some (chars s)
bytes_are s h = rw (all_bytes (chars s) h) refl

mutual
  pub passes : (limit : ℕ) (p : Phrase) → Passes limit p
  passes limit (a_name s) = leaf_passes limit (a_name s) (name s) None refl refl (λ h. absurd h)
  passes limit (a_number n) = leaf_passes limit (a_number n) (number n) (byte_of n) refl refl (byte_is n)
  passes limit (a_text s) = leaf_passes limit (a_text s) (text s) (bytes_of (chars s)) refl refl (bytes_are s)
  passes limit (a_tuple ps) =
      bracket_passes limit Tuple (a_tuple ps) ps open_tuple refl refl (ap tuple (sym (values_of-list_of ps))) refl (λ h. h) (λ h. h) (members_pass limit ps)
  passes limit (a_list ps) =
      bracket_passes limit Square (a_list ps) ps open_list refl refl (ap list (sym (values_of-list_of ps))) refl (λ h. h) (λ h. h) (members_pass limit ps)
  passes limit (a_binary ps) = bracket_passes limit Binary (a_binary ps) ps open_binary refl refl refl refl (λ h. h) (λ h. h) (members_pass limit ps)

  members_pass : (limit : ℕ) (ps : Phrases) (l : Level) (ls : List Level) → PassesMembers limit ps members_tokens (inside First l ls) l ls
  members_pass limit no_phrases l ls done row is c fits holds e t = ends limit (inside First l ls) l ls (λ b to. refl) done row is c e t
  members_pass limit (phrase p ps) l ls done row is c fits holds e t =
      one_more limit (inside First l ls) p ps l ls (passes limit p) (rest_passes limit ps) refl done row is c fits holds e t

  rest_passes : (limit : ℕ) (ps : Phrases) (l : Level) (ls : List Level) → PassesMembers limit ps rest_tokens (inside Later l ls) l ls
  rest_passes limit no_phrases l ls done row is c fits holds e t = ends limit (inside Later l ls) l ls (λ b to. refl) done row is c e t
  rest_passes limit (phrase p ps) l ls done [] is c fits holds e t = absurd (cc)
  rest_passes limit (phrase p ps) l ls done (i ∷ row) is c fits holds e t =
      let is_comma : i.token ≡ comma = cc in
      let rest : tokens row ≡ tokens_of p ++ rest_tokens ps = cc in
      goes limit (progress done (inside Later l ls)) (progress done (inside Next l ls)) i (row ++ (c ∷ is)) (rw is_comma refl)
      ∙ one_more limit (inside Next l ls) p ps l ls (passes limit p) (rest_passes limit ps) refl done row is c fits holds rest t

-- after a whole term the dot ends it
pub dot_ends : (limit : ℕ) (done : List Reading) (r : Reading) (d : Item) (is : List Item) → d.token ≡ dot
    → run limit (progress done (whole r)) (d ∷ is) ≡ run limit (progress (done ++ r ∷ []) begun) is
dot_ends limit done r d is e = goes limit (progress done (whole r)) (progress (done ++ r ∷ []) begun) d is (rw e refl)

-- a row of terms is read as these
pub reads_terms : (limit : ℕ) (is : List Item) (rs done : List Reading) → AreTerms limit is rs
    → run limit (progress done begun) is ≡ Ok (progress (done ++ rs) begun)
reads_terms limit is [] done e = rw (e, append-nil done) refl
reads_terms limit is (r ∷ rs) done (row, rest, d, e, is_dot, t, others) =
    let fits : 0 + depth t.phrase ≤ limit = rw zero-add t.fits.0 in
    let first = passes limit t.phrase done begun [] row (d ∷ rest) refl fits t.fits.1 tt t.spelled in
    let same : reading (meaning t.phrase) (first_from row) (last_to row) ≡ r = λ k. reading (sym t.means k) (sym t.from k) (sym t.to k) in
    let ended = dot_ends limit done r d rest is_dot in
    rw e (first ∙ (ap (λ q. run limit (progress done (whole q)) (d ∷ rest)) same ∙ (ended ∙ (reads_terms limit rest rs (done ++ r ∷ []) others ∙ ap (λ q. Ok (progress q begun)) (append_assoc done (r ∷ []) rs)))))
