-- The items of a text tile it.
use Rattle.std.proofs.Common.{◌≡◌, ℕ, zero, suc, ◌+◌, ◌-◌, ◌<◌, ◌≤◌, Bool, true, false, ◌||◌, ◌==◌, if◌then◌else◌, nat_lt, nat_le, List, [], ◌∷◌, ◌++◌, length, take, drop, Option, Some, None, refl, ap, sym, subst, ◌∙◌, arith, append_assoc, append-nil}
use Rattle.std.proofs.lemmas.Bool.Decides.{nat_tests}
use Rattle.std.proofs.lemmas.List.{length-append, length-take, take-append-drop}
use Rattle.erl_token.specs.declared.class.Class.{Class}
use Rattle.erl_token.specs.declared.class.Class.TheVariants.{Blank, Percent}
use Rattle.erl_number.specs.Texts.{sealed}
use Rattle.erl_token.specs.Lexing.{Token, Item, Spelling, class_of, spelling, comment_size, start_of, goes_on, lex, joined, in_front, put_item, join}
use Rattle.erl_token.specs.Tiling.{ends_comment, is_gap, Tile, ItemsTile}
use Rattle.erl_token.proofs.Sizes.{comment_fits, spelling_holds}

-- a byte of a gap, in front of what is tiled
one_first : (c d : Bool) (x at : ℕ) (xs : List ℕ) (is : List Item) → ((behind gap : List ℕ) → is_gap behind c gap ≡ true → is_gap behind d (x ∷ gap) ≡ true)
    → Tile c (at + 1) xs is → Tile d at (x ∷ xs) is
one_first c d x at xs [] g t = g [] xs t
one_first c d x at xs (i ∷ is) g (l, t) = (
  record {
    gap = x ∷ l.gap;
    own = l.own;
    behind = l.behind;
    is = ap (λ r. x ∷ r) l.is;
    gaps = g (l.own ++ l.behind) l.gap l.gaps;
    some = l.some;
    from = omega (arith, l.from);
    to = l.to;
  },
  t,
)

-- where a comment ends, a gap goes on as if there were none
ends : (behind gap : List ℕ) (x : ℕ) (xs : List ℕ) → (x == 10 || nat_lt 255 x) ≡ true → x ∷ xs ≡ gap ++ behind → is_gap behind false gap ≡ true → is_gap behind true gap ≡ true
ends behind [] x xs h e g = subst (λ b. ends_comment b ≡ true) e h
ends behind (y ∷ gap) x xs h e g = go (y == 10) refl
  where
    go : (b : Bool) → (y == 10) ≡ b → is_gap behind true (y ∷ gap) ≡ true
    go true p =
        let small : nat_le y 32 ≡ true = grind (arith, nat_tests) in
        let same : is_gap behind false (y ∷ gap) ≡ is_gap behind false gap = rw small refl in
        rw p (sym same ∙ g)
    go false p =
        let same : x ≡ y = cc in
        let large : nat_le y 32 ≡ false = grind (arith, nat_tests) in
        let other : (y == 37) ≡ false = grind (arith, nat_tests) in
        let no : is_gap behind false (y ∷ gap) ≡ false = rw (large, other) refl in
        absurd cc

ends_first : (at x : ℕ) (xs : List ℕ) (is : List Item) → (x == 10 || nat_lt 255 x) ≡ true → Tile false at (x ∷ xs) is → Tile true at (x ∷ xs) is
ends_first at x xs [] h t = ends [] (x ∷ xs) x xs h (sym (append-nil (x ∷ xs))) t
ends_first at x xs (i ∷ is) h (l, t) = (record { gap = l.gap; own = l.own; behind = l.behind; is = l.is; gaps = ends (l.own ++ l.behind) l.gap x xs h l.is l.gaps; some = l.some; from = l.from; to = l.to }, t)

-- a comment, in front of what is tiled after it
comment_first : (at : ℕ) (xs : List ℕ) (is : List Item) → Tile false (at + comment_size xs) (drop (comment_size xs) xs) is → Tile true at xs is
comment_first at [] [] t = refl
comment_first at [] (i ∷ is) (l, t) =
    let none : 0 ≡ length l.gap + (length l.own + length l.behind) = ap length l.is ∙ (length-append l.gap (l.own ++ l.behind) ∙ ap (λ n. length l.gap + n) (length-append l.own l.behind)) in
    absurd (omega (arith, l.some))
comment_first at (x ∷ xs) is t = go (x == 10 || nat_lt 255 x) refl t (λ u. comment_first (at + 1) xs is u)
  where
    go : (b : Bool) → (x == 10 || nat_lt 255 x) ≡ b
        → Tile false (at + (if b then 0 else comment_size xs + 1)) (drop (if b then 0 else comment_size xs + 1) (x ∷ xs)) is
        → (Tile false (at + 1 + comment_size xs) (drop (comment_size xs) xs) is → Tile true (at + 1) xs is) → Tile true at (x ∷ xs) is
    go true h t more = ends_first at x xs is h (subst (λ p. Tile false p (x ∷ xs) is) (omega arith) t)
    go false h t more =
        let next : comment_size xs + 1 ≡ suc (comment_size xs) = omega arith in
        let behind : Tile false (at + 1 + comment_size xs) (drop (comment_size xs) xs) is =
        subst (λ p. Tile false p (drop (comment_size xs) xs) is) (omega arith) (subst (λ n. Tile false (at + n) (drop n (x ∷ xs)) is) next t) in
        let no_line : (x == 10) ≡ false = grind (arith, nat_tests) in
        let small : nat_le x 255 ≡ true = grind (arith, nat_tests) in
        one_first true true x at xs is (λ b g e. rw (no_line, small) e) (more behind)

-- a token of so many bytes, in front of what is tiled after it
token_first : (x at : ℕ) (xs : List ℕ) (s : Spelling) (is : List Item) → 0 < s.size → s.size ≤ length xs + 1
    → Tile false (at + 1 + (s.size - 1)) (drop (s.size - 1) xs) is → Tile false at (x ∷ xs) (record { token = s.token; from = at; to = at + s.size } ∷ is)
token_first x at xs s is some most t =
    let size : length (take (s.size - 1) xs) ≡ s.size - 1 = length-take (s.size - 1) xs ∙ omega arith in (
      record {
        gap = [];
        own = x ∷ take (s.size - 1) xs;
        behind = drop (s.size - 1) xs;
        is = ap (λ r. x ∷ r) (sym (take-append-drop (s.size - 1) xs));
        gaps = refl;
        some = omega arith;
        from = omega arith;
        to = omega (arith, size);
      },
      subst (λ p. Tile false p (drop (s.size - 1) xs) is) (omega arith) t,
    )

pub lex_tiles : (xs : List ℕ) (at n : ℕ) → n ≤ length xs → Tile false (at + n) (drop n xs) (lex at n xs)
lex_tiles [] at zero h = refl
lex_tiles [] at (suc n) h = absurd (omega arith)
lex_tiles (x ∷ xs) at (suc n) h = subst (λ p. Tile false p (drop n xs) (lex (at + 1) n xs)) (omega arith) (lex_tiles xs (at + 1) n (omega arith))
lex_tiles (x ∷ xs) at zero h = subst (λ p. Tile false p (x ∷ xs) (lex at zero (x ∷ xs))) (omega arith) (go (class_of x) refl (λ n l. lex_tiles xs (at + 1) n l))
  where
    go : (k : Class) → class_of x ≡ k → ((n : ℕ) → n ≤ length xs → Tile false (at + 1 + n) (drop n xs) (lex (at + 1) n xs))
        → Tile false at (x ∷ xs) (goes_on at (start_of at k x xs) (λ n. lex (at + 1) n xs))
    go Blank e more =
        let small : nat_le x 32 ≡ true = grind (arith, nat_tests) in
        one_first false false x at xs (lex (at + 1) 0 xs) (λ b g f. rw small f) (subst (λ p. Tile false p xs (lex (at + 1) 0 xs)) (omega arith) (more 0 (omega arith)))
    go Percent e more =
        let is : (x == 37) ≡ true = grind (arith, nat_tests) in
        let large : nat_le x 32 ≡ false = grind (arith, nat_tests) in
        one_first true false x at xs (lex (at + 1) (comment_size xs) xs) (λ b g f. rw (large, is) f)
        (comment_first (at + 1) xs (lex (at + 1) (comment_size xs) xs) (more (comment_size xs) (comment_fits xs)))
    go k e more =
        let size = spelling_holds at k x xs in
        token_first x at xs (spelling at k x xs) (lex (at + 1) ((spelling at k x xs).size - 1) xs) size.0 (omega (arith, size.1)) (more ((spelling at k x xs).size - 1) (omega (arith, size.1)))

-- items that are put together lie where they lay
put_tiles : (c : Bool) (at : ℕ) (bytes : List ℕ) (i : Item) (js : List Item) → Tile c at bytes (i ∷ js) → Tile c at bytes (put_item i js)
put_tiles c at bytes i [] t = t
put_tiles c at bytes i (j ∷ js) t = go (joined i.token j.token) t
  where
    go : (o : Option Token) → Tile c at bytes (i ∷ j ∷ js) → Tile c at bytes (in_front i o j js)
    go None t = t
    go (Some u) (l, (m, t)) =
        let own = l.own ++ (m.gap ++ m.own) in
        let same : l.own ++ l.behind ≡ own ++ m.behind =
        ap (λ r. l.own ++ r) (m.is ∙ sym (append_assoc m.gap m.own m.behind)) ∙ sym (append_assoc l.own (m.gap ++ m.own) m.behind) in
        let size : length own ≡ length l.own + (length m.gap + length m.own) =
        length-append l.own (m.gap ++ m.own) ∙ ap (λ n. length l.own + n) (length-append m.gap m.own) in (
          record {
            gap = l.gap;
            own = own;
            behind = m.behind;
            is = l.is ∙ ap (λ r. l.gap ++ r) same;
            gaps = subst (λ r. is_gap r c l.gap ≡ true) same l.gaps;
            some = omega (arith, size, l.some);
            from = l.from;
            to = omega (arith, size, l.to, m.from, m.to);
          },
          t,
        )

join_tiles : (c : Bool) (at : ℕ) (bytes : List ℕ) (is : List Item) → Tile c at bytes is → Tile c at bytes (join is)
join_tiles c at bytes [] t = t
join_tiles c at bytes (i ∷ is) (l, t) = put_tiles c at bytes i (join is) (l, join_tiles false i.to l.behind is t)

pub items_tile : ItemsTile
items_tile bytes =
    join_tiles false 0 (sealed bytes) (lex 0 0 (sealed bytes)) (lex_tiles (sealed bytes) 0 0 (omega arith))
