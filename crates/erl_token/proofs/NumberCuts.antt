-- What spells a number or stands between quotes does so too where a dot and the end follow it in place of all else.
use Rattle.std.proofs.Common.{◌≡◌, ℕ, zero, suc, ◌+◌, ◌<◌, ◌≤◌, Bool, true, false, ◌&&◌, ◌||◌, ◌==◌, if◌then◌else◌, nat_lt, List, [], ◌∷◌, ◌++◌, length, drop, refl, ap, sym, subst, ◌∙◌, arith}
use Rattle.std.specs.Prelude.{encode_utf8}
use Rattle.std.specs.Char.{is_digit}
use Rattle.std.specs.Str.{bytes_eq}
use Rattle.std.proofs.lemmas.Bool.{and_parts}
use Rattle.std.proofs.lemmas.Bool.Decides.{nat_tests}
use Rattle.std.proofs.lemmas.Slice.Eq.{bytes_eq-Decides}
use Rattle.std.proofs.lemmas.List.{length-drop}
use Rattle.erl_number.specs.declared.fault.TermFault.TheVariants.{BadToken, BadNumber, Unsupported}
use Rattle.erl_number.specs.Escapes.{Character, is_in, leading, itself, escape}
use Rattle.erl_number.specs.Escapes.Character.{means, senseless, unfinished}
use Rattle.erl_number.specs.Numbers.{Numeral, more_digits, digit_row, begins, spelled_by, unless_float, goes_on_as_float, is_alphanumeric, in_base, behind_base, behind_digits, digits_numeral, character_number, ended, character_numeral, numeral}
use Rattle.erl_number.specs.Numbers.Numeral.{whole, faulty as faulty_number}
use Rattle.erl_token.specs.Quotes.{Quoted, quoted, behind, escaped}
use Rattle.erl_token.specs.Quotes.Quoted.{closed, faulty}
use Rattle.erl_token.proofs.Sizes.{CharacterHolds, itself_holds, NumeralHolds, numeral_holds}
use Rattle.erl_token.proofs.CutLemmas.{stop, nil_of, leading_stays, drop_stays, escape_stays, itself_stays}

-- Rows of digits

more_stays : (base : ℕ) → is_digit 46 base ≡ false → (c d : List ℕ) → length (more_digits base (c ++ d)) ≤ length c → more_digits base (c ++ stop) ≡ more_digits base (c ++ d)
more_stays base s [] d l = let none = nil_of (more_digits base d) l in rw s (sym none)
more_stays base s (x ∷ y ∷ c) d l = go (is_digit x base || (x == 95 && is_digit y base)) l (more_stays base s (y ∷ c) d)
  where
    go : (b : Bool) → length (if b then x ∷ more_digits base (y ∷ (c ++ d)) else []) ≤ length (x ∷ y ∷ c)
        → (length (more_digits base (y ∷ (c ++ d))) ≤ length (y ∷ c) → more_digits base (y ∷ (c ++ stop)) ≡ more_digits base (y ∷ (c ++ d)))
        → (if b then x ∷ more_digits base (y ∷ (c ++ stop)) else []) ≡ (if b then x ∷ more_digits base (y ∷ (c ++ d)) else [])
    go true l f = ap (λ r. x ∷ r) (f (omega (arith, l)))
    go false l f = refl
more_stays base s (x ∷ []) d l = go (is_digit x base) (x == 95) (begins (λ y. is_digit y base) d) refl l (more_stays base s [] d)
  where
    row : (d : List ℕ) → begins (λ y. is_digit y base) d ≡ true → 0 < length (more_digits base d)
    row [] b = absurd cc
    row (y ∷ d) b = rw b (omega arith)

    go : (a b f : Bool) → begins (λ y. is_digit y base) d ≡ f → length (if a || (b && f) then x ∷ more_digits base d else []) ≤ 1
        → (length (more_digits base d) ≤ 0 → more_digits base stop ≡ more_digits base d)
        → (if a || (b && is_digit 46 base) then x ∷ more_digits base stop else []) ≡ (if a || (b && f) then x ∷ more_digits base d else [])
    go true b f e l more = ap (λ r. x ∷ r) (more (omega (arith, l)))
    go false true true e l more = let some = row d e in absurd (omega (arith, l, some))
    go false true false e l more = rw s refl
    go false false f e l more = refl

row_stays : (base : ℕ) → is_digit 46 base ≡ false → (c d : List ℕ) → length (digit_row base (c ++ d)) ≤ length c → digit_row base (c ++ stop) ≡ digit_row base (c ++ d)
row_stays base s [] d l = let none = nil_of (digit_row base d) l in rw s (sym none)
row_stays base s (x ∷ c) d l = go (is_digit x base) l
  where
    go : (b : Bool) → length (if b then more_digits base (x ∷ (c ++ d)) else []) ≤ length (x ∷ c)
        → (if b then more_digits base (x ∷ (c ++ stop)) else []) ≡ (if b then more_digits base (x ∷ (c ++ d)) else [])
    go true l = more_stays base s (x ∷ c) d l
    go false l = refl

-- Numbers

float_stays : (c d : List ℕ) → goes_on_as_float (c ++ d) ≡ false → goes_on_as_float (c ++ stop) ≡ false
float_stays [] d e = refl
float_stays (x ∷ y ∷ c) d e = e
float_stays (x ∷ []) d e = go (x == 46)
  where
    go : (b : Bool) → (b && is_digit 46 10) ≡ false
    go true = refl
    go false = refl

-- a number that is no float
unless_whole : (start : ℕ) (rest : List ℕ) (n : Numeral) (k size : ℕ) → unless_float start rest n ≡ whole k size → (goes_on_as_float rest ≡ false) × (n ≡ whole k size)
unless_whole start rest n k size e = go (goes_on_as_float rest) refl e
  where
    go : (b : Bool) → goes_on_as_float rest ≡ b → (if b then faulty_number (Unsupported start) else n) ≡ whole k size → (goes_on_as_float rest ≡ false) × (n ≡ whole k size)
    go true h e = absurd cc
    go false h e = (h, e)

in_base_stays : (start start' base size : ℕ) (c d : List ℕ) (k n : ℕ) → in_base start base size (c ++ d) ≡ whole k n → n ≤ size + length c → in_base start' base size (c ++ stop) ≡ whole k n
in_base_stays start start' base size c d k n e l =
    let p : ℕ → Bool = λ x. is_alphanumeric x || x == 95 in
    let row = leading p (c ++ d) in
    let good = is_in 2 36 base && bytes_eq (digit_row base (c ++ d)) row in
    let parts = unless_whole start (drop (length row) (c ++ d)) (if good then whole (spelled_by base row) (size + length row) else faulty_number (BadNumber start)) k n e in
    let inner = passed good row parts.1 in
    let within : length row ≤ length c = omega (arith, inner.2, l) in
    let same = leading_stays p refl c d within in
    let cut = drop_stays (length row) c d within in
    let tests = and_parts (is_in 2 36 base) (bytes_eq (digit_row base (c ++ d)) row) inner.0 in
    let base_high : base ≤ 36 = let h = tests.0 in grind (arith, nat_tests) in
    let no_digit : is_digit 46 base ≡ false = grind (arith, nat_tests) in
    let same_row : digit_row base (c ++ d) ≡ row = (bytes_eq-Decides (digit_row base (c ++ d)) row).0 tests.1 in
    let size_row : length (digit_row base (c ++ d)) ≡ length row = ap length same_row in
    let digits : digit_row base (c ++ stop) ≡ digit_row base (c ++ d) = row_stays base no_digit c d (omega (arith, size_row, within)) in
    let calm : goes_on_as_float (drop (length row) (c ++ stop)) ≡ false =
    ap goes_on_as_float cut.1 ∙ float_stays (drop (length row) c) d (ap goes_on_as_float (sym cut.0) ∙ parts.0) in
    ap (λ r. unless_float start' (drop (length r) (c ++ stop)) (if is_in 2 36 base && bytes_eq (digit_row base (c ++ stop)) r then whole (spelled_by base r) (size + length r) else faulty_number (BadNumber start'))) same
    ∙ rw (calm, digits, inner.0) inner.1
  where
    passed : (b : Bool) (row : List ℕ) → (if b then whole (spelled_by base row) (size + length row) else faulty_number (BadNumber start)) ≡ whole k n
        → (b ≡ true) × (whole (spelled_by base row) (size + length row) ≡ whole k n) × (size + length row ≡ n)
    passed true row e = (refl, e, cc)
    passed false row e = absurd cc

-- what stands after a base takes a byte
base_least : (start base size at : ℕ) (d : List ℕ) (k n : ℕ) → behind_base start base size at d ≡ whole k n → size < n
base_least start base size at [] k n e = absurd cc
base_least start base size at (x ∷ d) k n e = go (is_alphanumeric x) refl e
  where
    sized : (b : Bool) (all : List ℕ) → 0 < length all → (if b then whole (spelled_by base all) (size + length all) else faulty_number (BadNumber start)) ≡ whole k n → size < n
    sized true all some e = let same : size + length all ≡ n = cc in omega (arith, same)
    sized false all some e = absurd cc

    go : (b : Bool) → is_alphanumeric x ≡ b → (if b then in_base start base size (x ∷ d) else faulty_number (BadToken at)) ≡ whole k n → size < n
    go true a e =
        let p : ℕ → Bool = λ y. is_alphanumeric y || y == 95 in
        let all = leading p (x ∷ d) in
        let first : all ≡ x ∷ leading p d = rw a refl in
        let good = is_in 2 36 base && bytes_eq (digit_row base (x ∷ d)) all in
        sized good all (omega (arith, ap length first)) (unless_whole start (drop (length all) (x ∷ d)) (if good then whole (spelled_by base all) (size + length all) else faulty_number (BadNumber start)) k n e).1
    go false a e = absurd cc

base_stays : (start start' base size at at' : ℕ) (c d : List ℕ) (k n : ℕ) → behind_base start base size at (c ++ d) ≡ whole k n → n ≤ size + length c
    → behind_base start' base size at' (c ++ stop) ≡ whole k n
base_stays start start' base size at at' [] d k n e l = absurd (omega (arith, base_least start base size at d k n e, l))
base_stays start start' base size at at' (x ∷ c) d k n e l = go (is_alphanumeric x) e
  where
    go : (b : Bool) → (if b then in_base start base size (x ∷ (c ++ d)) else faulty_number (BadToken at)) ≡ whole k n
        → (if b then in_base start' base size (x ∷ (c ++ stop)) else faulty_number (BadToken at')) ≡ whole k n
    go true e = in_base_stays start start' base size (x ∷ c) d k n e l
    go false e = absurd cc

-- a number takes its digits at least
digits_least : (start at : ℕ) (row xs : List ℕ) (k n : ℕ) → behind_digits start at row xs ≡ whole k n → length row ≤ n
digits_least start at row [] k n e = let same : length row ≡ n = cc in omega (arith, same)
digits_least start at row (x ∷ xs) k n e = go (x == 35) e
  where
    go : (b : Bool) → (if b then behind_base start (spelled_by 10 row) (length row + 1) (at + length row + 1) xs else unless_float start (x ∷ xs) (whole (spelled_by 10 row) (length row))) ≡ whole k n → length row ≤ n
    go true e = omega (arith, base_least start (spelled_by 10 row) (length row + 1) (at + length row + 1) xs k n e)
    go false e =
        let plain = (unless_whole start (x ∷ xs) (whole (spelled_by 10 row) (length row)) k n e).1 in
        let same : length row ≡ n = cc in
        omega (arith, same)

behind_stays : (start start' at at' : ℕ) (row c d : List ℕ) (k n : ℕ) → behind_digits start at row (c ++ d) ≡ whole k n → n ≤ length row + length c
    → behind_digits start' at' row (c ++ stop) ≡ whole k n
behind_stays start start' at at' row [] [] k n e l = e
behind_stays start start' at at' row [] (x ∷ d) k n e l = go (x == 35) e
  where
    go : (b : Bool) → (if b then behind_base start (spelled_by 10 row) (length row + 1) (at + length row + 1) d else unless_float start (x ∷ d) (whole (spelled_by 10 row) (length row))) ≡ whole k n
        → whole (spelled_by 10 row) (length row) ≡ whole k n
    go true e = absurd (omega (arith, l, base_least start (spelled_by 10 row) (length row + 1) (at + length row + 1) d k n e))
    go false e = (unless_whole start (x ∷ d) (whole (spelled_by 10 row) (length row)) k n e).1
behind_stays start start' at at' row (x ∷ c) d k n e l = go (x == 35) e
  where
    go : (b : Bool)
        → (if b then behind_base start (spelled_by 10 row) (length row + 1) (at + length row + 1) (c ++ d) else unless_float start (x ∷ (c ++ d)) (whole (spelled_by 10 row) (length row))) ≡ whole k n
        → (if b then behind_base start' (spelled_by 10 row) (length row + 1) (at' + length row + 1) (c ++ stop) else unless_float start' (x ∷ (c ++ stop)) (whole (spelled_by 10 row) (length row))) ≡ whole k n
    go true e = base_stays start start' (spelled_by 10 row) (length row + 1) (at + length row + 1) (at' + length row + 1) c d k n e (omega arith)
    go false e =
        let plain = unless_whole start (x ∷ (c ++ d)) (whole (spelled_by 10 row) (length row)) k n e in
        let calm = float_stays (x ∷ c) d plain.0 in
        rw calm plain.1

digits_stay : (start start' at at' x : ℕ) (c d : List ℕ) (k n : ℕ) → digits_numeral start at (x ∷ (c ++ d)) ≡ whole k n → n ≤ length (x ∷ c)
    → digits_numeral start' at' (x ∷ (c ++ stop)) ≡ whole k n
digits_stay start start' at at' x c d k n e l =
    let row = digit_row 10 (x ∷ (c ++ d)) in
    let least = digits_least start at row (drop (length row) (x ∷ (c ++ d))) k n e in
    let within : length row ≤ length (x ∷ c) = omega (arith, least, l) in
    let same = row_stays 10 refl (x ∷ c) d within in
    let cut = drop_stays (length row) (x ∷ c) d within in
    let room : n ≤ length row + length (drop (length row) (x ∷ c)) = omega (arith, l, length-drop (length row) (x ∷ c)) in
    ap (λ r. behind_digits start' at' r (drop (length r) (x ∷ (c ++ stop)))) same
    ∙ (ap (behind_digits start' at' row) cut.1
    ∙ behind_stays start start' at at' row (drop (length row) (x ∷ c)) d k n (sym (ap (behind_digits start at row) cut.0) ∙ e) room)

no_whole : (at : ℕ) (xs : List ℕ) (k n : ℕ) → ended at xs ≡ whole k n → ⊥
no_whole at [] k n e = cc
no_whole at (x ∷ xs) k n e = go (nat_lt 255 x) e (no_whole (at + 1) xs k n)
  where
    go : (b : Bool) → (if b then faulty_number (BadToken at) else ended (at + 1) xs) ≡ whole k n → (ended (at + 1) xs ≡ whole k n → ⊥) → ⊥
    go true e more = cc
    go false e more = more e

-- the character of a number
number_of : (size at : ℕ) (xs : List ℕ) (r : Character) (k n : ℕ) → character_number size at xs r ≡ whole k n → (m : ℕ) × (r ≡ means k m) × (n ≡ size + m)
number_of size at xs (means c m) k n e = let same : c ≡ k = cc in (m, ap (λ b. means b m) same, cc)
number_of size at xs senseless k n e = absurd cc
number_of size at xs unfinished k n e = absurd (no_whole (at + 1) xs k n e)

character_stays : (at at' : ℕ) (c d : List ℕ) (k n : ℕ) → character_numeral at (c ++ d) ≡ whole k n → n ≤ length c + 1 → character_numeral at' (c ++ stop) ≡ whole k n
character_stays at at' [] d k n e l = absurd (omega (arith, least d e, l))
  where
    least : (d : List ℕ) → character_numeral at d ≡ whole k n → 2 ≤ n
    least [] e = absurd cc
    least (x ∷ d) e = go (nat_lt 255 x) (x == 92) e
      where
        go : (a b : Bool) → (if a then faulty_number (BadToken at) else if b then character_number 2 at d (escape d) else character_number 1 at d (itself x d)) ≡ whole k n → 2 ≤ n
        go true b e = absurd cc
        go false true e = omega (arith, (number_of 2 at d (escape d) k n e).2)
        go false false e =
            let (m, is, size) = number_of 1 at d (itself x d) k n e in
            let holds = subst (CharacterHolds (length d + 1)) is (itself_holds x d) in
            omega (arith, size, holds.0)
character_stays at at' (x ∷ c) d k n e l = go (nat_lt 255 x) (x == 92) e
  where
    go : (a b : Bool) → (if a then faulty_number (BadToken at) else if b then character_number 2 at (c ++ d) (escape (c ++ d)) else character_number 1 at (c ++ d) (itself x (c ++ d))) ≡ whole k n
        → (if a then faulty_number (BadToken at') else if b then character_number 2 at' (c ++ stop) (escape (c ++ stop)) else character_number 1 at' (c ++ stop) (itself x (c ++ stop))) ≡ whole k n
    go true b e = absurd cc
    go false true e =
        let (m, is, size) = number_of 2 at (c ++ d) (escape (c ++ d)) k n e in
        ap (character_number 2 at' (c ++ stop)) (escape_stays c d k m is (omega (arith, size, l))) ∙ ap (whole k) (sym size)
    go false false e =
        let (m, is, size) = number_of 1 at (c ++ d) (itself x (c ++ d)) k n e in
        ap (character_number 1 at' (c ++ stop)) (itself_stays x c d k m is (omega (arith, size, l))) ∙ ap (whole k) (sym size)

pub numeral_stays : (start start' at at' : ℕ) (c d : List ℕ) (k n : ℕ) → numeral start at (c ++ d) ≡ whole k n → n ≤ length c → numeral start' at' (c ++ stop) ≡ whole k n
numeral_stays start start' at at' [] d k n e l = let holds = subst (NumeralHolds (length d)) e (numeral_holds start at d) in absurd (omega (arith, holds.0, l))
numeral_stays start start' at at' (x ∷ c) d k n e l = go (is_digit x 10) (x == 36) e
  where
    go : (a b : Bool) → (if a then digits_numeral start at (x ∷ (c ++ d)) else if b then character_numeral (at + 1) (c ++ d) else faulty_number (BadToken at)) ≡ whole k n
        → (if a then digits_numeral start' at' (x ∷ (c ++ stop)) else if b then character_numeral (at' + 1) (c ++ stop) else faulty_number (BadToken at')) ≡ whole k n
    go true b e = digits_stay start start' at at' x c d k n e l
    go false true e = character_stays (at + 1) (at' + 1) c d k n e (omega arith)
    go false false e = absurd cc

-- Quotes

record Closed (text : List ℕ) (q : Quoted) (s : List ℕ) (m : ℕ) : Type 0 where
  pub rest : List ℕ
  pub size : ℕ
  pub is : q ≡ closed rest size
  pub all : text ++ rest ≡ s
  pub taken : 1 + size ≡ m

closes : (text : List ℕ) (q : Quoted) (s : List ℕ) (m : ℕ) → behind text 1 q ≡ closed s m → Closed text q s m
closes text (closed rest size) s m e = record { rest = rest; size = size; is = refl; all = cc; taken = cc }
closes text (faulty f) s m e = absurd cc

closed_least : (quote from at n : ℕ) (xs s : List ℕ) (m : ℕ) → quoted quote from at n xs ≡ closed s m → n < m
closed_least quote from at n [] s m e = absurd cc
closed_least quote from at (suc n) (x ∷ xs) s m e =
    let r = closes [] (quoted quote from (at + 1) n xs) s m e in
    omega (arith, closed_least quote from (at + 1) n xs r.rest r.size r.is, r.taken)
closed_least quote from at zero (x ∷ xs) s m e = go (x == quote) (nat_lt 255 x) (x == 92) e
  where
    there : (c : Character) → escaped from at xs (λ n. quoted quote from (at + 1) n xs) c ≡ closed s m → 0 < m
    there (means c size) e = omega (arith, (closes (encode_utf8 c) (quoted quote from (at + 1) size xs) s m e).taken)
    there senseless e = absurd cc
    there unfinished e = absurd cc

    go : (a b c : Bool) → (if a then closed [] 1 else if b then faulty (BadToken at) else if c then escaped from at xs (λ n. quoted quote from (at + 1) n xs) (escape xs) else behind (x ∷ []) 1 (quoted quote from (at + 1) 0 xs)) ≡ closed s m
        → 0 < m
    go true b c e = let one : 1 ≡ m = cc in omega (arith, one)
    go false true c e = absurd cc
    go false false true e = there (escape xs) e
    go false false false e = omega (arith, (closes (x ∷ []) (quoted quote from (at + 1) 0 xs) s m e).taken)

abbrev Stays : ℕ → ℕ → ℕ → ℕ → ℕ → List ℕ → List ℕ → Type 0
Stays quote from from' at at' c d = (n : ℕ) (s : List ℕ) (m : ℕ) → quoted quote from at n (c ++ d) ≡ closed s m → m ≤ length c → quoted quote from' at' n (c ++ stop) ≡ closed s m

pub quoted_stays : (quote from from' at at' : ℕ) (c d : List ℕ) → Stays quote from from' at at' c d
quoted_stays quote from from' at at' [] d n s m e l = absurd (omega (arith, closed_least quote from at n d s m e, l))
quoted_stays quote from from' at at' (x ∷ c) d (suc n) s m e l =
    let r = closes [] (quoted quote from (at + 1) n (c ++ d)) s m e in
    ap (behind [] 1) (quoted_stays quote from from' (at + 1) (at' + 1) c d n r.rest r.size r.is (omega (arith, r.taken, l))) ∙ (ap (behind [] 1) (sym r.is) ∙ e)
quoted_stays quote from from' at at' (x ∷ c) d zero s m e l = go (x == quote) (nat_lt 255 x) (x == 92) e (quoted_stays quote from from' (at + 1) (at' + 1) c d)
  where
    there : (r : Character) → escape (c ++ d) ≡ r → escaped from at (c ++ d) (λ n. quoted quote from (at + 1) n (c ++ d)) r ≡ closed s m → Stays quote from from' (at + 1) (at' + 1) c d
        → escaped from' at' (c ++ stop) (λ n. quoted quote from' (at' + 1) n (c ++ stop)) (escape (c ++ stop)) ≡ closed s m
    there (means k size) h e more =
        let r = closes (encode_utf8 k) (quoted quote from (at + 1) size (c ++ d)) s m e in
        let least = closed_least quote from (at + 1) size (c ++ d) r.rest r.size r.is in
        let same = escape_stays c d k size h (omega (arith, least, r.taken, l)) in
        ap (escaped from' at' (c ++ stop) (λ n. quoted quote from' (at' + 1) n (c ++ stop))) same
        ∙ (ap (behind (encode_utf8 k) 1) (more size r.rest r.size r.is (omega (arith, r.taken, l)) ∙ sym r.is) ∙ e)
    there senseless h e more = absurd cc
    there unfinished h e more = absurd cc

    go : (a b f : Bool)
        → (if a then closed [] 1 else if b then faulty (BadToken at) else if f then escaped from at (c ++ d) (λ n. quoted quote from (at + 1) n (c ++ d)) (escape (c ++ d)) else behind (x ∷ []) 1 (quoted quote from (at + 1) 0 (c ++ d))) ≡ closed s m
        → Stays quote from from' (at + 1) (at' + 1) c d
        → (if a then closed [] 1 else if b then faulty (BadToken at') else if f then escaped from' at' (c ++ stop) (λ n. quoted quote from' (at' + 1) n (c ++ stop)) (escape (c ++ stop)) else behind (x ∷ []) 1 (quoted quote from' (at' + 1) 0 (c ++ stop))) ≡ closed s m
    go true b f e more = e
    go false true f e more = absurd cc
    go false false true e more = there (escape (c ++ d)) refl e more
    go false false false e more =
        let r = closes (x ∷ []) (quoted quote from (at + 1) 0 (c ++ d)) s m e in
        ap (behind (x ∷ []) 1) (more 0 r.rest r.size r.is (omega (arith, r.taken, l)) ∙ sym r.is) ∙ e
