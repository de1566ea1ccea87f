-- Rows of items that are cut out of their text.
use Rattle.std.proofs.Common.{inl, inr, ◌⊎◌, ◌≡◌, ℕ, zero, suc, ◌+◌, ◌-◌, ◌<◌, ◌≤◌, Bool, true, false, ◌&&◌, ◌||◌, ◌==◌, if◌then◌else◌, nat_lt, nat_le, List, [], ◌∷◌, ◌++◌, length, take, drop, get_or, Option, Some, None, refl, ap, sym, subst, ◌∙◌, arith, append_assoc}
use Rattle.std.specs.Prelude.{slice_range}
use Rattle.std.specs.List.{list_all}
use Rattle.std.specs.Str.{IsUtf8, is_utf8}
use Rattle.std.specs.Str.Lossy.{utf8_valid_len, valid_len_up_to}
use Rattle.std.proofs.lemmas.Bool.{and_parts, cases_lt}
use Rattle.std.proofs.lemmas.Bool.Decides.{nat_tests}
use Rattle.std.proofs.lemmas.List.{length-append, length-drop, take-append-drop, take-append-le, drop-append-le, drop-drop, get_or-drop}
use Rattle.std.proofs.Math.Seq.{take-append_seam, drop-append_seam}
use Rattle.std.proofs.lemmas.Str.{IsUtf8-from_is_utf8, IsUtf8-nil, IsUtf8-take, IsUtf8-drop, IsUtf8-append, IsUtf8-from_ascii, IsCharBoundary-before_ascii}
use Rattle.std.proofs.lemmas.Str.Ascii.{IsAscii-nil, IsAscii-cons}
use Rattle.erl_token.specs.declared.class.Class.{Class}
use Rattle.erl_token.specs.declared.class.Class.TheVariants.{Blank, Percent, Other}
use Rattle.erl_number.specs.Texts.{sealed}
use Rattle.erl_token.specs.Lexing.{Token, Item, Spelling, class_of, spelling, comment_size, start_of, goes_on, lex, joined, in_front, put_item, join, items_of}
use Rattle.erl_token.specs.Lexing.Token.{dot, stray, broken, text}
use Rattle.erl_number.specs.Views.{seal}
use Rattle.erl_token.specs.Tiling.{is_gap, Tile}
use Rattle.erl_token.specs.Rows.{is_of_term, first_from, last_to, moved_item, moved, RowsStandAlone}
use Rattle.erl_token.proofs.ClassLemmas.{class_large}
use Rattle.erl_token.proofs.Sizes.{spelling_holds, comment_fits}
use Rattle.erl_token.proofs.TilingLemmas.{lex_tiles}
use Rattle.erl_token.proofs.CutLemmas.{stop}
use Rattle.erl_token.proofs.TokenCuts.{spelling_stays}
use Rattle.erl_token.proofs.JoinLemmas.{joined-no_text}
use Rattle.erl_number.proofs.Parts.{byte_valid}
use Rattle.erl_number.proofs.Runs.{sealed-IsUtf8}

abbrev Goods : List Item → Type 0
Goods is = list_all (λ i. is_of_term i.token) is ≡ true

-- where a row ends that stands after this place
abbrev ends_at : ℕ → List Item → ℕ
ends_at p [] = p
ends_at p (i ∷ is) = ends_at i.to is

ends_last : (p : ℕ) (i : Item) (is : List Item) → ends_at p (i ∷ is) ≡ last_to (i ∷ is)
ends_last p i [] = refl
ends_last p i (j ∷ is) = ends_last i.to j is

tile_end : (c : Bool) (p : ℕ) (bytes : List ℕ) (row more : List Item) → Tile c p bytes (row ++ more) → p ≤ ends_at p row
tile_end c p bytes [] more t = omega arith
tile_end c p bytes (i ∷ row) more (l, t) = let later = tile_end false i.to l.behind row more t in omega (arith, l.from, l.to, later)

tile_past : (c : Bool) (p : ℕ) (bytes : List ℕ) (i : Item) (row more : List Item) → Tile c p bytes (i ∷ (row ++ more)) → p < ends_at i.to row
tile_past c p bytes i row more (l, t) = let later = tile_end false i.to l.behind row more t in omega (arith, l.some, l.from, l.to, later)

abbrev the_dot : ℕ → Item
the_dot at = record { token = dot; from = at; to = at + 1 }

comment_stays : (c d e : List ℕ) → comment_size (c ++ d) < length c → comment_size (c ++ e) ≡ comment_size (c ++ d)
comment_stays [] d e l = absurd (omega arith)
comment_stays (x ∷ c) d e l = go (x == 10 || nat_lt 255 x) l (comment_stays c d e)
  where
    go : (b : Bool) → (if b then 0 else comment_size (c ++ d) + 1) < length (x ∷ c) → (comment_size (c ++ d) < length c → comment_size (c ++ e) ≡ comment_size (c ++ d))
        → (if b then 0 else comment_size (c ++ e) + 1) ≡ (if b then 0 else comment_size (c ++ d) + 1)
    go true l more = refl
    go false l more = ap (λ n. n + 1) (more (omega (arith, l)))

abbrev Later : ℕ → ℕ → List ℕ → List ℕ → Type 0
Later base at c d = (n : ℕ) (is js : List Item) → n ≤ length c → lex (base + at + 1) n (c ++ d) ≡ is ++ js → Goods is
    → ends_at (base + at + 1 + n) is ≡ base + at + 1 + length c → lex (at + 1) n (c ++ stop) ≡ moved base is ++ the_dot (at + 1 + length c) ∷ []

-- The items of a text up to a place, where a dot and the end follow that place in place of all else.
lex_cut : (base at n : ℕ) (c d : List ℕ) (row more : List Item) → n ≤ length c → lex (base + at) n (c ++ d) ≡ row ++ more → Goods row
    → ends_at (base + at + n) row ≡ base + at + length c → lex at n (c ++ stop) ≡ moved base row ++ the_dot (at + length c) ∷ []
lex_cut base at zero [] d [] more h e g s = ap (λ p. the_dot p ∷ []) (omega arith)
lex_cut base at zero [] d (i ∷ row) more h e g s =
    let t : Tile false (base + at + 0) d (i ∷ (row ++ more)) = subst (Tile false (base + at + 0) d) e (lex_tiles d (base + at) 0 (omega arith)) in
    absurd (omega (arith, s, tile_past false (base + at + 0) d i row more t))
lex_cut base at (suc n) [] d row more h e g s = absurd (omega arith)
lex_cut base at (suc n) (x ∷ c) d row more h e g s =
    let step : base + at + 1 ≡ base + (at + 1) = omega arith in
    let place : base + (at + 1) + n ≡ base + at + suc n = omega arith in
    let end : base + at + length (x ∷ c) ≡ base + (at + 1) + length c = omega arith in
    lex_cut base (at + 1) n c d row more (omega (arith, h)) (subst (λ p. lex p n (c ++ d) ≡ row ++ more) step e) g (ap (λ p. ends_at p row) place ∙ (s ∙ end))
    ∙ ap (λ p. moved base row ++ the_dot p ∷ []) (omega arith)
lex_cut base at zero (x ∷ c) d row more h e g s = go (class_of x) row e g s
    (λ n is js l f good end.
    let step : base + at + 1 ≡ base + (at + 1) = omega arith in
    let place : base + (at + 1) + n ≡ base + at + 1 + n = omega arith in
    let last : base + at + 1 + length c ≡ base + (at + 1) + length c = omega arith in
    lex_cut base (at + 1) n c d is js l (subst (λ p. lex p n (c ++ d) ≡ is ++ js) step f) good (ap (λ p. ends_at p is) place ∙ (end ∙ last)))
  where
    here : (is : List Item) → moved base is ++ the_dot (at + 1 + length c) ∷ [] ≡ moved base is ++ the_dot (at + length (x ∷ c)) ∷ []
    here is = ap (λ p. moved base is ++ the_dot p ∷ []) (omega arith)

    put_token : (k : Class) (own : Spelling) {i : Item} {is : List Item} → spelling at k x (c ++ stop) ≡ own → record { token = own.token; from = at; to = at + own.size } ≡ i
        → lex (at + 1) (own.size - 1) (c ++ stop) ≡ is
        → (let s = spelling at k x (c ++ stop) in record { token = s.token; from = at; to = at + s.size } ∷ lex (at + 1) (s.size - 1) (c ++ stop)) ≡ i ∷ is
    put_token k own same item tail =
        ap (λ s. record { token = s.token; from = at; to = at + s.size } ∷ lex (at + 1) (s.size - 1) (c ++ stop)) same ∙ (λ j. item j ∷ tail j)

    go : (k : Class) (row : List Item) → goes_on (base + at) (start_of (base + at) k x (c ++ d)) (λ n. lex (base + at + 1) n (c ++ d)) ≡ row ++ more → Goods row
        → ends_at (base + at + 0) row ≡ base + at + length (x ∷ c) → Later base at c d
        → goes_on at (start_of at k x (c ++ stop)) (λ n. lex (at + 1) n (c ++ stop)) ≡ moved base row ++ the_dot (at + length (x ∷ c)) ∷ []
    go k [] e g s later = absurd (omega (arith, s))
    go Blank (i ∷ row) e g s later = later 0 (i ∷ row) more (omega arith) e g (s ∙ omega arith) ∙ here (i ∷ row)
    go Percent (i ∷ row) e g s later =
        let m = comment_size (c ++ d) in
        let t : Tile false (base + at + 1 + m) (drop m (c ++ d)) (i ∷ (row ++ more)) = subst (Tile false (base + at + 1 + m) (drop m (c ++ d))) e (lex_tiles (c ++ d) (base + at + 1) m (comment_fits (c ++ d))) in
        let less : m < length c = omega (arith, s, tile_past false (base + at + 1 + m) (drop m (c ++ d)) i row more t) in
        ap (λ n. lex (at + 1) n (c ++ stop)) (comment_stays c d stop less) ∙ (later m (i ∷ row) more (omega (arith, less)) e g (s ∙ omega arith) ∙ here (i ∷ row))
    go k (i ∷ row) e g s later =
        let own : Spelling = spelling (base + at) k x (c ++ d) in
        let holds = spelling_holds (base + at) k x (c ++ d) in
        let first : record { token = own.token; from = base + at; to = base + at + own.size } ≡ i = cc in
        let rest : lex (base + at + 1) (own.size - 1) (c ++ d) ≡ row ++ more = cc in
        let parts = and_parts (is_of_term i.token) (list_all (λ j. is_of_term j.token) row) g in
        let good : is_of_term own.token ≡ true = ap (λ j. is_of_term j.token) first ∙ parts.0 in
        let to : base + at + own.size ≡ i.to = ap (λ j. j.to) first in
        let place : base + at + 1 + (own.size - 1) ≡ i.to = omega (arith, to, holds.0) in
        let t : Tile false (base + at + 1 + (own.size - 1)) (drop (own.size - 1) (c ++ d)) (row ++ more) =
        subst (Tile false (base + at + 1 + (own.size - 1)) (drop (own.size - 1) (c ++ d))) rest (lex_tiles (c ++ d) (base + at + 1) (own.size - 1) (omega (arith, holds.1))) in
        let end : ends_at (base + at + 1 + (own.size - 1)) row ≡ base + at + length (x ∷ c) = ap (λ p. ends_at p row) place ∙ s in
        let fits : own.size ≤ length (x ∷ c) = omega (arith, end, tile_end false (base + at + 1 + (own.size - 1)) (drop (own.size - 1) (c ++ d)) row more t, holds.0) in
        let same : spelling at k x (c ++ stop) ≡ own = spelling_stays (base + at) at k x c d good fits in
        let from : at ≡ base + at - base = omega arith in
        let behind : at + own.size ≡ base + at + own.size - base = omega arith in
        let item : record { token = own.token; from = at; to = at + own.size } ≡ moved_item base i =
        (λ j. record { token = own.token; from = from j; to = behind j }) ∙ ap (moved_item base) first in
        let tail : lex (at + 1) (own.size - 1) (c ++ stop) ≡ moved base row ++ the_dot (at + length (x ∷ c)) ∷ [] =
        later (own.size - 1) row more (omega (arith, fits)) rest parts.1 (end ∙ omega arith) ∙ here row in
        put_token k own same item tail

-- Joins

put_dot : (i : Item) (js : List Item) (p : ℕ) → put_item i (js ++ the_dot p ∷ []) ≡ put_item i js ++ the_dot p ∷ []
put_dot i [] p = ap (λ o. in_front i o (the_dot p) []) (joined-no_text i.token dot refl)
put_dot i (j ∷ js) p = go (joined i.token j.token)
  where
    go : (o : Option Token) → in_front i o j (js ++ the_dot p ∷ []) ≡ in_front i o j js ++ the_dot p ∷ []
    go None = refl
    go (Some u) = refl

join_dot : (is : List Item) (p : ℕ) → join (is ++ the_dot p ∷ []) ≡ join is ++ the_dot p ∷ []
join_dot [] p = refl
join_dot (i ∷ is) p = ap (put_item i) (join_dot is p) ∙ put_dot i (join is) p

moved_put : (n : ℕ) (i : Item) (js : List Item) → put_item (moved_item n i) (moved n js) ≡ moved n (put_item i js)
moved_put n i [] = refl
moved_put n i (j ∷ js) = go (joined i.token j.token)
  where
    go : (o : Option Token) → in_front (moved_item n i) o (moved_item n j) (moved n js) ≡ moved n (in_front i o j js)
    go None = refl
    go (Some u) = refl

moved_join : (n : ℕ) (is : List Item) → join (moved n is) ≡ moved n (join is)
moved_join n [] = refl
moved_join n (i ∷ is) = ap (put_item (moved_item n i)) (moved_join n is) ∙ moved_put n i (join is)

put_first : (i : Item) (js : List Item) → first_from (put_item i js) ≡ i.from
put_first i [] = refl
put_first i (j ∷ js) = go (joined i.token j.token)
  where
    go : (o : Option Token) → first_from (in_front i o j js) ≡ i.from
    go None = refl
    go (Some u) = refl

put_ends : (p : ℕ) (i : Item) (js : List Item) → ends_at p (put_item i js) ≡ ends_at i.to js
put_ends p i [] = refl
put_ends p i (j ∷ js) = go (joined i.token j.token)
  where
    go : (o : Option Token) → ends_at p (in_front i o j js) ≡ ends_at j.to js
    go None = refl
    go (Some u) = refl

join_ends : (p : ℕ) (is : List Item) → ends_at p (join is) ≡ ends_at p is
join_ends p [] = refl
join_ends p (i ∷ is) = put_ends p i (join is) ∙ join_ends i.to is

-- what is joined as tokens of a term is such tokens
put_goods : (i : Item) (js : List Item) → Goods (put_item i js) → (is_of_term i.token ≡ true) × Goods js
put_goods i [] g = (go (is_of_term i.token) g, refl)
  where
    go : (b : Bool) → (b && true) ≡ true → b ≡ true
    go true g = refl
    go false g = absurd cc
put_goods i (j ∷ js) g = go i.token j.token g
  where
    one : (t : Token) → (is_of_term t && (is_of_term j.token && list_all (λ k. is_of_term k.token) js)) ≡ true → (is_of_term t ≡ true) × Goods (j ∷ js)
    one t g = and_parts (is_of_term t) (is_of_term j.token && list_all (λ k. is_of_term k.token) js) g

    go : (t u : Token) → list_all (λ k. is_of_term k.token) (in_front (record { token = t; from = i.from; to = i.to }) (joined t u) (record { token = u; from = j.from; to = j.to }) js) ≡ true
        → (is_of_term t ≡ true) × ((is_of_term u && list_all (λ k. is_of_term k.token) js) ≡ true)
    go (text s) (text r) g = (refl, g)
    go (text s) (broken (text r) f) g = absurd cc
    go t u g = and_parts (is_of_term t) (is_of_term u && list_all (λ k. is_of_term k.token) js) g

join_goods : (is : List Item) → Goods (join is) → Goods is
join_goods [] g = refl
join_goods (i ∷ is) g =
    let parts = put_goods i (join is) g in
    rw (parts.0, join_goods is parts.1) refl

-- what a dot is joined from is one
put_is_dot : (i : Item) (js : List Item) (d : Item) (ds : List Item) → put_item i js ≡ d ∷ ds → d.token ≡ dot → i.token ≡ dot
put_is_dot i [] d ds e h = let same : i ≡ d = cc in ap (λ k. k.token) same ∙ h
put_is_dot i (j ∷ js) d ds e h = go i.token j.token e
  where
    go : (t u : Token) → in_front (record { token = t; from = i.from; to = i.to }) (joined t u) (record { token = u; from = j.from; to = j.to }) js ≡ d ∷ ds → t ≡ dot
    go (text s) (text r) e = let same : record { token = text (s ++ r); from = i.from; to = j.to } ≡ d = cc in let bad : text (s ++ r) ≡ dot = ap (λ k. k.token) same ∙ h in absurd cc
    go (text s) (broken (text r) f) e = let same : record { token = broken (text []) f; from = i.from; to = j.to } ≡ d = cc in let bad : broken (text []) f ≡ dot = ap (λ k. k.token) same ∙ h in absurd cc
    go t u e = let same : record { token = t; from = i.from; to = i.to } ≡ d = cc in ap (λ k. k.token) same ∙ h

-- a row of joined items, and what it is joined from
record Split (all a b : List Item) : Type 0 where
  pub left : List Item
  pub right : List Item
  pub is : all ≡ left ++ right
  pub first : join left ≡ a
  pub second : join right ≡ b

-- a first item that stands alone
alone_first : (i j : Item) (js a b : List Item) → j ∷ js ≡ a ++ b → joined i.token j.token ≡ None → put_item i a ≡ i ∷ a
alone_first i j js [] b e p = refl
alone_first i j js (y ∷ a) b e p =
    let same : j ≡ y = cc in
    ap (λ o. in_front i o y a) (ap (λ k. joined i.token k.token) (sym same) ∙ p)

left_empty : (a b : List Item) → [] ≡ a ++ b → a ≡ []
left_empty [] b e = refl
left_empty (y ∷ a) b e = absurd cc

join_split : (is a b : List Item) → join is ≡ a ++ b → Split is a b
join_split is [] b e = record { left = []; right = is; is = refl; first = refl; second = e }
join_split [] (x ∷ a) b e = absurd cc
join_split (i ∷ is) (x ∷ a) b e = go (join is) refl e (λ a' f. join_split is a' b f)
  where
    under : (x : Item) (a : List Item) (s : Split is a b) → put_item i a ≡ x ∷ a → Split (i ∷ is) (x ∷ a) b
    under x a s e = record { left = i ∷ s.left; right = s.right; is = ap (λ r. i ∷ r) s.is; first = ap (put_item i) s.first ∙ e; second = s.second }

    over : (x j : Item) (a : List Item) (s : Split is (j ∷ a) b) → put_item i (j ∷ a) ≡ x ∷ a → Split (i ∷ is) (x ∷ a) b
    over x j a s e = record { left = i ∷ s.left; right = s.right; is = ap (λ r. i ∷ r) s.is; first = ap (put_item i) s.first ∙ e; second = s.second }

    go : (js : List Item) → join is ≡ js → put_item i js ≡ x ∷ (a ++ b) → ((c : List Item) → join is ≡ c ++ b → Split is c b) → Split (i ∷ is) (x ∷ a) b
    go [] h e more =
        let none : [] ≡ a ++ b = cc in
        let first : i ≡ x = cc in
        let empty : a ≡ [] = left_empty a b none in
        under x a (more a (h ∙ none)) (ap (put_item i) empty ∙ (λ k. first k ∷ sym empty k))
    go (j ∷ js) h e more = inner (joined i.token j.token) refl e
      where
        inner : (o : Option Token) → joined i.token j.token ≡ o → in_front i o j js ≡ x ∷ (a ++ b) → Split (i ∷ is) (x ∷ a) b
        inner None p e =
            let first : i ≡ x = cc in
            let rest : j ∷ js ≡ a ++ b = cc in
            under x a (more a (h ∙ rest)) (alone_first i j js a b rest p ∙ (λ k. first k ∷ a))
        inner (Some u) p e =
            let first : record { token = u; from = i.from; to = j.to } ≡ x = cc in
            let rest : js ≡ a ++ b = cc in
            over x j a (more (j ∷ a) (h ∙ ap (λ r. j ∷ r) rest)) (ap (λ o. in_front i o j a) p ∙ (λ k. first k ∷ a))

-- Places

-- where an item stands
record Found (at n : ℕ) (xs : List ℕ) (i : Item) (is : List Item) : Type 0 where
  pub place : ℕ
  pub from : i.from ≡ at + place
  pub reads : lex i.from 0 (drop place xs) ≡ i ∷ is

find : (at n : ℕ) (xs : List ℕ) (before : List Item) (i : Item) (is : List Item) → lex at n xs ≡ before ++ (i ∷ is) → Found at n xs i is
find at n [] [] i is e = absurd cc
find at n [] (b ∷ before) i is e = absurd cc
find at (suc n) (x ∷ xs) before i is e =
    let f = find (at + 1) n xs before i is e in
    record { place = suc f.place; from = omega (arith, f.from); reads = f.reads }
find at zero (x ∷ xs) before i is e = go (class_of x) refl before e (λ n before e. find (at + 1) n xs before i is e)
  where
    later : (n : ℕ) → Found (at + 1) n xs i is → Found at zero (x ∷ xs) i is
    later n f = record { place = suc f.place; from = omega (arith, f.from); reads = f.reads }

    token : (s : Spelling) (before : List Item) → goes_on at (start_of at (class_of x) x xs) (λ n. lex (at + 1) n xs) ≡ record { token = s.token; from = at; to = at + s.size } ∷ lex (at + 1) (s.size - 1) xs
        → record { token = s.token; from = at; to = at + s.size } ∷ lex (at + 1) (s.size - 1) xs ≡ before ++ (i ∷ is)
        → ((n : ℕ) (before : List Item) → lex (at + 1) n xs ≡ before ++ (i ∷ is) → Found (at + 1) n xs i is) → Found at zero (x ∷ xs) i is
    token s [] h e more =
        let first : record { token = s.token; from = at; to = at + s.size } ≡ i = cc in
        let from : at ≡ i.from = ap (λ j. j.from) first in
        record { place = 0; from = omega (arith, from); reads = ap (λ p. lex p 0 (x ∷ xs)) (sym from) ∙ (h ∙ e) }
    token s (b ∷ before) h e more =
        let rest : lex (at + 1) (s.size - 1) xs ≡ before ++ (i ∷ is) = cc in
        later (s.size - 1) (more (s.size - 1) before rest)

    go : (k : Class) → class_of x ≡ k → (before : List Item) → goes_on at (start_of at k x xs) (λ n. lex (at + 1) n xs) ≡ before ++ (i ∷ is)
        → ((n : ℕ) (before : List Item) → lex (at + 1) n xs ≡ before ++ (i ∷ is) → Found (at + 1) n xs i is) → Found at zero (x ∷ xs) i is
    go Blank h before e more = later 0 (more 0 before e)
    go Percent h before e more = later (comment_size xs) (more (comment_size xs) before e)
    go k h before e more = token (spelling at k x xs) before (ap (λ c. goes_on at (start_of at c x xs) (λ n. lex (at + 1) n xs)) h) e more

-- what stands after a row
record Behind (p : ℕ) (bytes : List ℕ) (row more : List Item) : Type 0 where
  pub own : List ℕ
  pub rest : List ℕ
  pub is : bytes ≡ own ++ rest
  pub size : p + length own ≡ ends_at p row
  pub tiles : Tile false (ends_at p row) rest more

behind_row : (c : Bool) (p : ℕ) (bytes : List ℕ) (i : Item) (row more : List Item) → Tile c p bytes (i ∷ (row ++ more)) → Behind p bytes (i ∷ row) more
behind_row c p bytes i [] more (l, t) =
    let size : length (l.gap ++ l.own) ≡ length l.gap + length l.own = length-append l.gap l.own in
    record { own = l.gap ++ l.own; rest = l.behind; is = l.is ∙ sym (append_assoc l.gap l.own l.behind); size = omega (arith, size, l.from, l.to); tiles = t }
behind_row c p bytes i (j ∷ row) more (l, t) =
    let b = behind_row false i.to l.behind j row more t in
    let own = l.gap ++ (l.own ++ b.own) in
    let same : l.gap ++ (l.own ++ (b.own ++ b.rest)) ≡ own ++ b.rest =
    ap (λ r. l.gap ++ r) (sym (append_assoc l.own b.own b.rest)) ∙ sym (append_assoc l.gap (l.own ++ b.own) b.rest) in
    let size : length own ≡ length l.gap + (length l.own + length b.own) = length-append l.gap (l.own ++ b.own) ∙ ap (λ n. length l.gap + n) (length-append l.own b.own) in
    record { own = own; rest = b.rest; is = l.is ∙ (ap (λ r. l.gap ++ (l.own ++ r)) b.is ∙ same); size = omega (arith, size, l.from, l.to, b.size); tiles = b.tiles }

-- Bytes that are characters of their own

small_class : (x : ℕ) → (class_of x ≡ Other → ⊥) → x < 128
small_class x h = go (cases_lt x 128)
  where
    go : (x < 128) ⊎ (128 ≤ x) → x < 128
    go (inl small) = small
    go (inr large) = absurd (h (class_large x large))

-- the first byte of an item that is no byte of its own
first_small : (at x : ℕ) (xs : List ℕ) (i : Item) (is : List Item) → lex at 0 (x ∷ xs) ≡ i ∷ is → ((y : ℕ) → i.token ≡ stray y → ⊥) → x < 128
first_small at x xs i is e never = small_class x (λ other. let same : i.token ≡ stray x = go other in never x same)
  where
    go : class_of x ≡ Other → i.token ≡ stray x
    go other =
        let reads : record { token = stray x; from = at; to = at + 1 } ∷ lex (at + 1) (1 - 1) xs ≡ i ∷ is =
        sym (ap (λ k. goes_on at (start_of at k x xs) (λ n. lex (at + 1) n xs)) other) ∙ e in
        let first : record { token = stray x; from = at; to = at + 1 } ≡ i = cc in
        sym (ap (λ j. j.token) first)

-- the first byte after a row that a dot follows
record Small (bytes : List ℕ) : Type 0 where
  pub first : ℕ
  pub rest : List ℕ
  pub is : bytes ≡ first ∷ rest
  pub small : first < 128

small_behind : (w bytes : List ℕ) (to : ℕ) (j : Item) (m : List Item) → drop to w ≡ bytes → Found 0 0 w j m → j.token ≡ dot → (gap own behind : List ℕ) → bytes ≡ gap ++ (own ++ behind)
    → is_gap (own ++ behind) false gap ≡ true → 0 < length own → j.from ≡ to + length gap → Small bytes
small_behind w bytes to j m cut f d [] [] behind is gaps some from = absurd (omega (arith, some))
small_behind w bytes to j m cut f d [] (y ∷ own) behind is gaps some from =
    let place : f.place ≡ to = omega (arith, from, f.from) in
    let here : drop f.place w ≡ y ∷ (own ++ behind) = ap (λ n. drop n w) place ∙ (cut ∙ is) in
    let reads : lex j.from 0 (y ∷ (own ++ behind)) ≡ j ∷ m = ap (lex j.from 0) (sym here) ∙ f.reads in
    record { first = y; rest = own ++ behind; is = is; small = first_small j.from y (own ++ behind) j m reads (λ z e. let bad : stray z ≡ dot = sym e ∙ d in cc) }
small_behind w bytes to j m cut f d (y ∷ gap) own behind is gaps some from =
    record { first = y; rest = gap ++ (own ++ behind); is = is; small = go (nat_le y 32) (y == 37) refl refl gaps }
  where
    go : (a b : Bool) → nat_le y 32 ≡ a → (y == 37) ≡ b → (if a then is_gap (own ++ behind) false gap else b && is_gap (own ++ behind) true gap) ≡ true → y < 128
    go true b p q g = grind (arith, nat_tests)
    go false true p q g = grind (arith, nat_tests)
    go false false p q g = absurd cc

-- Bytes that are UTF-8

slice_prefix : (xs ys : List ℕ) (a n : ℕ) → a + n ≤ length xs → take n (drop a (xs ++ ys)) ≡ take n (drop a xs)
slice_prefix xs ys a n l =
    ap (take n) (drop-append-le a xs ys (omega (arith, l))) ∙ take-append-le n (drop a xs) ys (omega (arith, l, length-drop a xs))

valid_up_to : (bs : List ℕ) (m : ℕ) → IsUtf8 (take (valid_len_up_to bs m) bs)
valid_up_to bs zero = IsUtf8-nil
valid_up_to bs (suc m) = go (is_utf8 (take (suc m) bs)) refl (valid_up_to bs m)
  where
    go : (b : Bool) → is_utf8 (take (suc m) bs) ≡ b → IsUtf8 (take (valid_len_up_to bs m) bs) → IsUtf8 (take (if b then suc m else valid_len_up_to bs m) bs)
    go true e u = IsUtf8-from_is_utf8 (take (suc m) bs) e
    go false e u = u

valid_prefix : (bs : List ℕ) → IsUtf8 (take (utf8_valid_len bs) bs)
unfolding utf8_valid_len
valid_prefix bs = valid_up_to bs (length bs)

sealed_as : (bytes : List ℕ) → (b : Bool) × (sealed bytes ≡ take (utf8_valid_len bytes) bytes ++ seal b)
sealed_as bytes = go (utf8_valid_len bytes == length bytes)
  where
    go : (c : Bool) → (b : Bool) × (take (utf8_valid_len bytes) bytes ++ (if c then [] else 256 ∷ []) ≡ take (utf8_valid_len bytes) bytes ++ seal b)
    go true = (false, refl)
    go false = (true, refl)

-- a byte that is a character of its own, at its place in the part that is UTF-8
record Ascii (valid : List ℕ) (at : ℕ) : Type 0 where
  pub within : at < length valid
  pub small : get_or valid at 0 < 128

ascii_at : (w valid : List ℕ) (b : Bool) (at y : ℕ) (ys : List ℕ) → w ≡ valid ++ seal b → drop at w ≡ y ∷ ys → y < 128 → Ascii valid at
ascii_at w valid b at y ys is e small =
    let there : drop at (valid ++ seal b) ≡ y ∷ ys = ap (drop at) (sym is) ∙ e in
    let size : length (valid ++ seal b) - at ≡ suc (length ys) = sym (length-drop at (valid ++ seal b)) ∙ ap length there in
    let place : at + 0 ≡ at = omega arith in
    let byte : get_or (valid ++ seal b) at 0 ≡ y = ap (λ n. get_or (valid ++ seal b) n 0) (sym place) ∙ (sym (get_or-drop at (valid ++ seal b) 0 0) ∙ ap (λ r. get_or r 0 0) there) in
    let (within, same) = byte_valid valid b at (omega (arith, size)) (omega (arith, byte, small)) in
    record { within = within; small = omega (arith, same, byte, small) }

-- what lies between two such bytes is UTF-8
between_utf8 : (valid : List ℕ) (from n : ℕ) → IsUtf8 valid → Ascii valid from → Ascii valid (from + n) → IsUtf8 (take n (drop from valid))
between_utf8 valid from n u a b =
    let later = IsUtf8-drop valid from u (IsCharBoundary-before_ascii valid from a.within a.small) in
    let size = length-drop from valid in
    let byte : get_or (drop from valid) n 0 ≡ get_or valid (from + n) 0 = get_or-drop from valid n 0 in
    IsUtf8-take (drop from valid) n later (IsCharBoundary-before_ascii (drop from valid) n (omega (arith, size, b.within)) (omega (arith, byte, b.small)))

-- the first byte of a row
small_here : (at : ℕ) (bytes : List ℕ) (i : Item) (is : List Item) → lex at 0 bytes ≡ i ∷ is → ((y : ℕ) → i.token ≡ stray y → ⊥) → Small bytes
small_here at [] i is e never = absurd cc
small_here at (x ∷ xs) i is e never = record { first = x; rest = xs; is = refl; small = first_small at x xs i is e never }

no_stray : (i : Item) (is : List Item) → Goods (i ∷ is) → (y : ℕ) → i.token ≡ stray y → ⊥
no_stray i is g y e =
    let good : is_of_term i.token ≡ true = (and_parts (is_of_term i.token) (list_all (λ j. is_of_term j.token) is) g).0 in
    let bad : is_of_term (stray y) ≡ true = ap is_of_term (sym e) ∙ good in
    cc

-- the bytes of a row, and a dot: a text of its own
row_bytes : (bytes : List ℕ) (from : ℕ) (own rest : List ℕ) → drop from (sealed bytes) ≡ own ++ rest → Small (own ++ rest) → Small rest
    → (slice_range bytes from (from + length own) ≡ own) × (sealed (own ++ stop) ≡ own ++ stop)
row_bytes bytes from own rest cut first behind =
    let valid = take (utf8_valid_len bytes) bytes in
    let (b, is) = sealed_as bytes in
    let rest_at : drop (from + length own) (sealed bytes) ≡ rest = sym (drop-drop (length own) from (sealed bytes)) ∙ (ap (drop (length own)) cut ∙ drop-append_seam own rest) in
    let begins = ascii_at (sealed bytes) valid b from first.first first.rest is (cut ∙ first.is) first.small in
    let ends = ascii_at (sealed bytes) valid b (from + length own) behind.first behind.rest is (rest_at ∙ behind.is) behind.small in
    let within : from + length own ≤ length valid = omega (arith, ends.within) in
    let size : from + length own - from ≡ length own = omega arith in
    let part : own ≡ take (length own) (drop from valid) =
    sym (take-append_seam own rest) ∙ (ap (take (length own)) (sym cut ∙ ap (drop from) is) ∙ slice_prefix valid (seal b) from (length own) within) in
    let all : bytes ≡ valid ++ drop (utf8_valid_len bytes) bytes = sym (take-append-drop (utf8_valid_len bytes) bytes) in
    let slice : slice_range bytes from (from + length own) ≡ own =
    ap (λ n. take n (drop from bytes)) size ∙ (ap (λ r. take (length own) (drop from r)) all
    ∙ (slice_prefix valid (drop (utf8_valid_len bytes) bytes) from (length own) within ∙ sym part)) in
    let utf8 : IsUtf8 own = subst IsUtf8 (sym part) (between_utf8 valid from (length own) (valid_prefix bytes) begins ends) in
    let dotted = IsUtf8-append own stop utf8 (IsUtf8-from_ascii stop (IsAscii-cons 46 [] (omega arith) IsAscii-nil)) in
    (slice, sealed-IsUtf8 (own ++ stop) dotted)

-- where a cut reads as a row and a dot
reads_cut : (bytes own : List ℕ) (from to : ℕ) (row : List Item) → from + length own ≡ to
    → (slice_range bytes from (from + length own) ≡ own) × (sealed (own ++ stop) ≡ own ++ stop)
    → lex 0 0 (own ++ stop) ≡ moved from row ++ the_dot (0 + length own) ∷ []
    → items_of (slice_range bytes from to ++ stop) ≡ join (moved from row) ++ the_dot (to - from) ∷ []
reads_cut bytes own from to row ends (slice, dotted) cut =
    let size : 0 + length own ≡ to - from = omega (arith, ends) in
    ap (λ n. items_of (slice_range bytes from n ++ stop)) (sym ends)
    ∙ (ap (λ r. join (lex 0 0 (sealed (r ++ stop)))) slice ∙ (ap (λ r. join (lex 0 0 r)) dotted
    ∙ (ap join cut ∙ (join_dot (moved from row) (0 + length own) ∙ ap (λ n. join (moved from row) ++ the_dot n ∷ []) size))))

-- A row that was found, with the dot after it.
cut_found : (bytes : List ℕ) (i : Item) (row : List Item) (j : Item) (more : List Item) (f : Found 0 0 (sealed bytes) i (row ++ (j ∷ more)))
    → Found 0 0 (sealed bytes) j more → Behind i.from (drop f.place (sealed bytes)) (i ∷ row) (j ∷ more) → Goods (i ∷ row) → j.token ≡ dot
    → items_of (slice_range bytes i.from (last_to (i ∷ row)) ++ stop) ≡ join (moved i.from (i ∷ row)) ++ the_dot (last_to (i ∷ row) - i.from) ∷ []
cut_found bytes i row j more f g b goods d =
    let w = sealed bytes in
    let q = drop f.place w in
    let none : i.from + 0 ≡ i.from = omega arith in
    let to = last_to (i ∷ row) in
    let last : ends_at i.from (i ∷ row) ≡ to = ends_last i.from i row in
    let ends : i.from + length b.own ≡ to = b.size ∙ last in
    let place : f.place ≡ i.from = omega (arith, f.from) in
    let from : f.place + length b.own ≡ to = omega (arith, place, ends) in
    let rest_at : drop to w ≡ b.rest = ap (λ n. drop n w) (sym from) ∙ (sym (drop-drop (length b.own) f.place w) ∙ (ap (drop (length b.own)) b.is ∙ drop-append_seam b.own b.rest)) in
    let lies = b.tiles.0 in
    let behind = small_behind w b.rest to j more rest_at g d lies.gap lies.own lies.behind lies.is lies.gaps lies.some (lies.from ∙ ap (λ p. p + length lies.gap) last) in
    let cut = lex_cut i.from 0 0 b.own b.rest (i ∷ row) (j ∷ more) (omega arith)
    (ap (λ p. lex p 0 (b.own ++ b.rest)) none ∙ (ap (lex i.from 0) (sym b.is) ∙ f.reads)) goods (sym b.size ∙ omega arith) in
    let first = small_here i.from q i (row ++ (j ∷ more)) f.reads (no_stray i row goods) in
    let bytes_are = row_bytes bytes i.from b.own b.rest (ap (λ n. drop n w) (sym place) ∙ b.is) (subst Small b.is first) behind in
    reads_cut bytes b.own i.from to (i ∷ row) ends bytes_are cut

-- A row of single items.
cut_row : (bytes : List ℕ) (before : List Item) (i : Item) (row : List Item) (j : Item) (more : List Item)
    → lex 0 0 (sealed bytes) ≡ before ++ ((i ∷ row) ++ (j ∷ more)) → Goods (i ∷ row) → j.token ≡ dot
    → items_of (slice_range bytes i.from (last_to (i ∷ row)) ++ stop) ≡ join (moved i.from (i ∷ row)) ++ the_dot (last_to (i ∷ row) - i.from) ∷ []
cut_row bytes before i row j more e goods d =
    let w = sealed bytes in
    let f = find 0 0 w before i (row ++ (j ∷ more)) e in
    let g = find 0 0 w (before ++ (i ∷ row)) j more (e ∙ sym (append_assoc before (i ∷ row) (j ∷ more))) in
    let q = drop f.place w in
    let none : i.from + 0 ≡ i.from = omega arith in
    let tiles : Tile false i.from q (i ∷ (row ++ (j ∷ more))) =
    subst (λ p. Tile false p q (i ∷ (row ++ (j ∷ more)))) none (subst (Tile false (i.from + 0) q) f.reads (lex_tiles q i.from 0 (omega arith))) in
    cut_found bytes i row j more f g (behind_row false i.from q i row (j ∷ more) tiles) goods d

last_of : (p : ℕ) (is : List Item) → 0 < length is → ends_at p is ≡ last_to is
last_of p [] h = absurd (omega arith)
last_of p (i ∷ is) h = ends_last p i is

pub rows_stand_alone : RowsStandAlone
rows_stand_alone bytes before row after d e is_dot some goods =
    let s = join_split (lex 0 0 (sealed bytes)) before (row ++ (d ∷ after)) e in
    let r = join_split s.right row (d ∷ after) s.second in
    go s.left r.left r.right (s.is ∙ ap (λ is. s.left ++ is) r.is) r.first r.second
  where
    go : (left own more : List Item) → lex 0 0 (sealed bytes) ≡ left ++ (own ++ more) → join own ≡ row → join more ≡ d ∷ after
        → items_of (slice_range bytes (first_from row) (last_to row) ++ 46 ∷ []) ≡ moved (first_from row) row ++ the_dot (last_to row - first_from row) ∷ []
    go left [] more all is behind = let none : 0 ≡ length row = ap length is in absurd (omega (arith, none, some))
    go left (i ∷ own) [] all is behind = absurd cc
    go left (i ∷ own) (j ∷ more) all is behind =
        let from : first_from row ≡ i.from = ap first_from (sym is) ∙ put_first i (join own) in
        let to : last_to row ≡ last_to (i ∷ own) = sym (last_of 0 row some) ∙ (ap (ends_at 0) (sym is) ∙ (join_ends 0 (i ∷ own) ∙ ends_last 0 i own)) in
        let cut = cut_row bytes left i own j more all (join_goods (i ∷ own) (subst Goods (sym is) goods)) (put_is_dot j (join more) d after behind is_dot) in
        let same : join (moved i.from (i ∷ own)) ≡ moved i.from row = moved_join i.from (i ∷ own) ∙ ap (moved i.from) is in
        (λ k. items_of (slice_range bytes (from k) (to k) ++ stop))
        ∙ (cut ∙ (ap (λ is. is ++ the_dot (last_to (i ∷ own) - i.from) ∷ []) same
        ∙ (λ k. moved (sym from k) row ++ the_dot (sym to k - sym from k) ∷ [])))
