-- What spells a token spells it too where a dot and the end follow it in place of all else.
use Rattle.std.proofs.Common.{◌≡◌, ℕ, zero, suc, ◌+◌, ◌%◌, ◌<◌, ◌≤◌, Bool, true, false, ◌&&◌, ◌||◌, ◌==◌, if◌then◌else◌, nat_lt, List, [], ◌∷◌, ◌++◌, length, take, drop, Option, Some, None, refl, ap, sym, subst, ◌∙◌, arith}
use Rattle.std.specs.Char.{is_digit}
use Rattle.std.specs.Str.{chars, continuation_len}
use Rattle.std.specs.Str.Parse.{digits_value}
use Rattle.std.proofs.lemmas.List.{take-append-le, drop-append-le, length-drop}
use Rattle.erl_number.specs.Escapes.{Character, is_in, leading, with_next, first_of, itself, scalar, octal, braced, paired, hexadecimal, caret, letter_character, by_name, escape}
use Rattle.erl_number.specs.Escapes.Character.{means, senseless, unfinished}
use Rattle.erl_token.proofs.Sizes.{CharacterHolds, escape_holds}

-- a dot, and the end
abbrev pub stop : List ℕ
stop = 46 ∷ []

pub nil_of : {A : Type 0} (xs : List A) → length xs ≤ 0 → xs ≡ []
nil_of [] l = refl
nil_of (x ∷ xs) l = absurd (omega arith)

pub leading_stays : (p : ℕ → Bool) → p 46 ≡ false → (c d : List ℕ) → length (leading p (c ++ d)) ≤ length c → leading p (c ++ stop) ≡ leading p (c ++ d)
leading_stays p s [] d l = let none = nil_of (leading p d) l in rw s (sym none)
leading_stays p s (x ∷ c) d l = go (p x) l (leading_stays p s c d)
  where
    go : (b : Bool) → length (if b then x ∷ leading p (c ++ d) else []) ≤ length (x ∷ c) → (length (leading p (c ++ d)) ≤ length c → leading p (c ++ stop) ≡ leading p (c ++ d))
        → (if b then x ∷ leading p (c ++ stop) else []) ≡ (if b then x ∷ leading p (c ++ d) else [])
    go true l f = ap (λ r. x ∷ r) (f (omega (arith, l)))
    go false l f = refl

take_leading_stays : (n : ℕ) (p : ℕ → Bool) → p 46 ≡ false → (c d : List ℕ) → length (take n (leading p (c ++ d))) ≤ length c → take n (leading p (c ++ stop)) ≡ take n (leading p (c ++ d))
take_leading_stays zero p s c d l = refl
take_leading_stays (suc n) p s [] d l = let none = nil_of (take (suc n) (leading p d)) l in rw s (sym none)
take_leading_stays (suc n) p s (x ∷ c) d l = go (p x) l (take_leading_stays n p s c d)
  where
    go : (b : Bool) → length (take (suc n) (if b then x ∷ leading p (c ++ d) else [])) ≤ length (x ∷ c)
        → (length (take n (leading p (c ++ d))) ≤ length c → take n (leading p (c ++ stop)) ≡ take n (leading p (c ++ d)))
        → take (suc n) (if b then x ∷ leading p (c ++ stop) else []) ≡ take (suc n) (if b then x ∷ leading p (c ++ d) else [])
    go true l f = ap (λ r. x ∷ r) (f (omega (arith, l)))
    go false l f = refl

-- what stands after a place within stays, up to the stop
pub drop_stays : (n : ℕ) (c d : List ℕ) → n ≤ length c → (drop n (c ++ d) ≡ drop n c ++ d) × (drop n (c ++ stop) ≡ drop n c ++ stop)
drop_stays n c d l = (drop-append-le n c d l, drop-append-le n c stop l)

-- Characters

first_size : (cs : List ℕ) (size k n : ℕ) → first_of cs size ≡ means k n → size ≡ n
first_size [] size k n e = absurd cc
first_size (c ∷ cs) size k n e = cc

pub itself_stays : (x : ℕ) (c d : List ℕ) (k n : ℕ) → itself x (c ++ d) ≡ means k n → n ≤ length (x ∷ c) → itself x (c ++ stop) ≡ means k n
itself_stays x c d k n e l =
    let size = continuation_len x + 1 in
    let known : size ≡ n = first_size (chars (take size (x ∷ (c ++ d)))) size k n e in
    let same : take size (x ∷ (c ++ stop)) ≡ take size (x ∷ (c ++ d)) = take-append-le size (x ∷ c) stop (omega arith) ∙ sym (take-append-le size (x ∷ c) d (omega arith)) in
    ap (λ b. first_of (chars b) size) same ∙ e

scalar_size : (v size k n : ℕ) → scalar v size ≡ means k n → size ≡ n
scalar_size v size k n e = go (nat_lt v 0xD800 || is_in 0xE000 0x10FFFF v) e
  where
    go : (b : Bool) → (if b then means v size else senseless) ≡ means k n → size ≡ n
    go true e = cc
    go false e = absurd cc

octal_stays : (x : ℕ) (c d : List ℕ) (k n : ℕ) → octal (x ∷ (c ++ d)) ≡ means k n → n ≤ length (x ∷ c) → octal (x ∷ (c ++ stop)) ≡ means k n
octal_stays x c d k n e l =
    let row = take 3 (leading (λ y. is_digit y 8) (x ∷ (c ++ d))) in
    let size : length row ≡ n = scalar_size (digits_value 8 row) (length row) k n e in
    let same = take_leading_stays 3 (λ y. is_digit y 8) refl (x ∷ c) d (omega (arith, size, l)) in
    ap (λ ds. scalar (digits_value 8 ds) (length ds)) same ∙ e

abbrev braced_end : List ℕ → List ℕ → Character
braced_end ds rest = with_next rest (λ y ys. if y == 125 && nat_lt 0 (length ds) then scalar (digits_value 16 ds) (length ds + 3) else senseless)

braced_size : (ds rest : List ℕ) (k n : ℕ) → braced_end ds rest ≡ means k n → (length ds + 3 ≡ n) × (0 < length rest)
braced_size ds [] k n e = absurd cc
braced_size ds (y ∷ ys) k n e = (go (nat_lt 255 y) (y == 125 && nat_lt 0 (length ds)) e, omega arith)
  where
    go : (a b : Bool) → (if a then unfinished else if b then scalar (digits_value 16 ds) (length ds + 3) else senseless) ≡ means k n → length ds + 3 ≡ n
    go true b e = absurd cc
    go false true e = scalar_size (digits_value 16 ds) (length ds + 3) k n e
    go false false e = absurd cc

braced_stays : (c d : List ℕ) (k n : ℕ) → braced (c ++ d) ≡ means k n → n ≤ length c + 2 → braced (c ++ stop) ≡ means k n
braced_stays c d k n e l =
    let ds = leading (λ y. is_digit y 16) (c ++ d) in
    let size = (braced_size ds (drop (length ds) (c ++ d)) k n e).0 in
    let same = leading_stays (λ y. is_digit y 16) refl c d (omega (arith, size)) in
    let left : 0 < length (drop (length ds) c) = omega (arith, size, length-drop (length ds) c) in
    let within : length ds ≤ length c = omega (arith, size) in
    let cut = drop_stays (length ds) c d within in
    ap (λ r. braced_end r (drop (length r) (c ++ stop))) same ∙ (ap (braced_end ds) cut.1
    ∙ (tail (drop (length ds) c) left ∙ (sym (ap (braced_end ds) cut.0) ∙ e)))
  where
    tail : (r : List ℕ) → 0 < length r → braced_end (leading (λ y. is_digit y 16) (c ++ d)) (r ++ stop) ≡ braced_end (leading (λ y. is_digit y 16) (c ++ d)) (r ++ d)
    tail [] l = absurd (omega arith)
    tail (y ∷ r) l = refl

paired_least : (x : ℕ) (xs : List ℕ) (k n : ℕ) → paired x xs ≡ means k n → n ≡ 3
paired_least x [] k n e = absurd cc
paired_least x (y ∷ ys) k n e = go (nat_lt 255 y) (is_digit y 16) e
  where
    go : (a b : Bool) → (if a then unfinished else if b then means (digits_value 16 (x ∷ y ∷ [])) 3 else senseless) ≡ means k n → n ≡ 3
    go true b e = absurd cc
    go false true e = cc
    go false false e = absurd cc

paired_stays : (x : ℕ) (c d : List ℕ) (k n : ℕ) → paired x (c ++ d) ≡ means k n → n ≤ length c + 2 → paired x (c ++ stop) ≡ means k n
paired_stays x [] d k n e l = absurd (omega (arith, paired_least x d k n e, l))
paired_stays x (y ∷ c) d k n e l = e

hexadecimal_least : (xs : List ℕ) (k n : ℕ) → hexadecimal xs ≡ means k n → 3 ≤ n
hexadecimal_least [] k n e = absurd cc
hexadecimal_least (y ∷ ys) k n e = go (nat_lt 255 y) (y == 123) (is_digit y 16) e
  where
    go : (a b f : Bool) → (if a then unfinished else if b then braced ys else if f then paired y ys else senseless) ≡ means k n → 3 ≤ n
    go true b f e = absurd cc
    go false true f e = let row = leading (λ x. is_digit x 16) ys in omega (arith, (braced_size row (drop (length row) ys) k n e).0)
    go false false true e = omega (arith, paired_least y ys k n e)
    go false false false e = absurd cc

hexadecimal_stays : (c d : List ℕ) (k n : ℕ) → hexadecimal (c ++ d) ≡ means k n → n ≤ length c + 1 → hexadecimal (c ++ stop) ≡ means k n
hexadecimal_stays [] d k n e l = absurd (omega (arith, hexadecimal_least d k n e, l))
hexadecimal_stays (y ∷ c) d k n e l = go (nat_lt 255 y) (y == 123) (is_digit y 16) e
  where
    go : (a b f : Bool) → (if a then unfinished else if b then braced (c ++ d) else if f then paired y (c ++ d) else senseless) ≡ means k n
        → (if a then unfinished else if b then braced (c ++ stop) else if f then paired y (c ++ stop) else senseless) ≡ means k n
    go true b f e = absurd cc
    go false true f e = braced_stays c d k n e (omega arith)
    go false false true e = paired_stays y c d k n e (omega arith)
    go false false false e = absurd cc

caret_stays : (c d : List ℕ) (k n : ℕ) → caret (c ++ d) ≡ means k n → n ≤ length c + 1 → caret (c ++ stop) ≡ means k n
caret_stays [] d k n e l = absurd (omega (arith, least d e, l))
  where
    least : (d : List ℕ) → caret d ≡ means k n → n ≡ 2
    least [] e = absurd cc
    least (y ∷ ys) e = go (nat_lt 255 y) (is_in 64 95 y || is_in 97 122 y) e
      where
        go : (a b : Bool) → (if a then unfinished else if b then means (y % 32) 2 else senseless) ≡ means k n → n ≡ 2
        go true b e = absurd cc
        go false true e = cc
        go false false e = absurd cc
caret_stays (y ∷ c) d k n e l = e

by_name_stays : (o : Option ℕ) (x : ℕ) (c d : List ℕ) (k n : ℕ) → by_name o x (c ++ d) ≡ means k n → n ≤ length (x ∷ c) → by_name o x (c ++ stop) ≡ means k n
by_name_stays (Some b) x c d k n e l = e
by_name_stays None x c d k n e l = itself_stays x c d k n e l

pub escape_stays : (c d : List ℕ) (k n : ℕ) → escape (c ++ d) ≡ means k n → n ≤ length c → escape (c ++ stop) ≡ means k n
escape_stays [] d k n e l = let holds = subst (CharacterHolds (length d)) e (escape_holds d) in absurd (omega (arith, holds.0, l))
escape_stays (x ∷ c) d k n e l = go (nat_lt 255 x) (is_digit x 8) (x == 120) (x == 94) e
  where
    go : (a b f g : Bool) → (if a then unfinished else if b then octal (x ∷ (c ++ d)) else if f then hexadecimal (c ++ d) else if g then caret (c ++ d) else by_name (letter_character x) x (c ++ d)) ≡ means k n
        → (if a then unfinished else if b then octal (x ∷ (c ++ stop)) else if f then hexadecimal (c ++ stop) else if g then caret (c ++ stop) else by_name (letter_character x) x (c ++ stop)) ≡ means k n
    go true b f g e = absurd cc
    go false true f g e = octal_stays x c d k n e l
    go false false true g e = hexadecimal_stays c d k n e (omega arith)
    go false false false true e = caret_stays c d k n e (omega arith)
    go false false false false e = by_name_stays (letter_character x) x c d k n e l
