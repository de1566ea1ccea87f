-- Bytes in a row that a token goes on with.
use Rattle.std.proofs.Common.{◌≡◌, ℕ, zero, suc, ◌+◌, ◌<◌, ◌≤◌, Bool, true, false, if◌then◌else◌, nat_lt, List, [], ◌∷◌, ◌++◌, length, take, drop, get_or, slice_get, Some, None, refl, sym, ◌∙◌, ap, arith, append-nil, ◌==◌}
use Rattle.std.proofs.lemmas.List.{drop_more}
use Rattle.std.proofs.lemmas.Option.{slice_get_within, get_or_from_slice_get}
use Rattle.std.specs.Str.{IsUtf8}
use Rattle.std.specs.Str.Lossy.{utf8_valid_len}
use Rattle.std.proofs.Math.Seq.{take-length, take-append_seam}
use Rattle.std.proofs.lemmas.Bool.Decides.{nat_tests}
use Rattle.std.proofs.lemmas.Str.{utf8_valid_len_le, utf8_valid_len-IsUtf8}
use Rattle.erl_number.specs.Texts.{sealed}
use Rattle.erl_number.specs.Escapes.{leading}
use Rattle.erl_number.specs.Views.{seal}

pub sealed-nil : (bytes : List ℕ) → length bytes ≡ 0 → [] ≡ sealed bytes
sealed-nil [] e = let none : utf8_valid_len [] ≡ 0 = omega (arith, utf8_valid_len_le []) in rw none refl
sealed-nil (x ∷ xs) e = absurd (cc)

pub sealed-IsUtf8 : (bs : List ℕ) → IsUtf8 bs → sealed bs ≡ bs
sealed-IsUtf8 bs u =
    let whole : (length bs == length bs) ≡ true = grind (arith, nat_tests) in
    rw (utf8_valid_len-IsUtf8 bs u, whole) (append-nil (take (length bs) bs) ∙ take-length bs)

-- what is read of bytes that go on after their first part that is UTF-8
pub sealed_first : (bytes rest valid text more : List ℕ) → rest ≡ bytes → text ≡ valid → rest ≡ valid ++ more → length valid ≡ utf8_valid_len rest
    → text ++ seal (nat_lt (length text) (length bytes)) ≡ sealed bytes
sealed_first bytes rest valid text more same is cut first =
    let all : bytes ≡ text ++ more = sym same ∙ (cut ∙ ap (λ v. v ++ more) (sym is)) in
    let size : length text ≡ utf8_valid_len bytes = ap length is ∙ (first ∙ ap utf8_valid_len same) in
    let part : text ≡ take (utf8_valid_len bytes) bytes =
    sym (take-append_seam text more) ∙ (ap (take (length text)) (sym all) ∙ ap (λ n. take n bytes) size) in
    (λ j. part j ++ ends (utf8_valid_len bytes == length bytes) refl size j)
  where
    ends : (b : Bool) → (utf8_valid_len bytes == length bytes) ≡ b → length text ≡ utf8_valid_len bytes
        → seal (nat_lt (length text) (length bytes)) ≡ (if b then [] else 256 ∷ [])
    ends true e size = let no : nat_lt (length text) (length bytes) ≡ false = grind (arith, nat_tests) in rw no refl
    ends false e size = let yes : nat_lt (length text) (length bytes) ≡ true = grind (arith, nat_tests, utf8_valid_len_le bytes) in rw yes refl

-- what stands from a place on
pub drop_some : (xs : List ℕ) (i b : ℕ) → slice_get xs i ≡ Some b → drop i xs ≡ b ∷ drop (i + 1) xs
drop_some xs i b e = drop_more xs i 0 (slice_get_within xs i b e) ∙ ap (λ x. x ∷ drop (i + 1) xs) (get_or_from_slice_get xs i b 0 e)

pub drop_none : (xs : List ℕ) (i : ℕ) → slice_get xs i ≡ None → drop i xs ≡ []
drop_none [] zero e = refl
drop_none [] (suc i) e = refl
drop_none (x ∷ xs) zero e = absurd (cc)
drop_none (x ∷ xs) (suc i) e = drop_none xs i e

-- how far a run goes, from a place on
pub run_more : (p : ℕ → Bool) (xs : List ℕ) (i b : ℕ) → slice_get xs i ≡ Some b → p b ≡ true
    → length (leading p (drop i xs)) ≡ length (leading p (drop (i + 1) xs)) + 1
run_more p xs i b e h = rw (drop_some xs i b e, h) (omega arith)

pub run_stops : (p : ℕ → Bool) (xs : List ℕ) (i b : ℕ) → slice_get xs i ≡ Some b → p b ≡ false → length (leading p (drop i xs)) ≡ 0
run_stops p xs i b e h = rw (drop_some xs i b e, h) refl

pub run_past : (p : ℕ → Bool) (xs : List ℕ) (i : ℕ) → slice_get xs i ≡ None → length (leading p (drop i xs)) ≡ 0
run_past p xs i e = rw (drop_none xs i e) refl

pub leading-take : (p : ℕ → Bool) (xs : List ℕ) → leading p xs ≡ take (length (leading p xs)) xs
leading-take p [] = refl
leading-take p (x ∷ xs) = go (p x) (leading-take p xs)
  where
    go : (b : Bool) → leading p xs ≡ take (length (leading p xs)) xs → (if b then x ∷ leading p xs else []) ≡ take (length (if b then x ∷ leading p xs else [])) (x ∷ xs)
    go true e = ap (λ ys. x ∷ ys) e
    go false e = refl

pub leading_le : (p : ℕ → Bool) (xs : List ℕ) → length (leading p xs) ≤ length xs
leading_le p [] = omega arith
leading_le p (x ∷ xs) = go (p x) (leading_le p xs)
  where
    go : (b : Bool) → length (leading p xs) ≤ length xs → length (if b then x ∷ leading p xs else []) ≤ length (x ∷ xs)
    go true e = omega arith
    go false e = omega arith

-- each byte of a run passes
pub leading_passes : (p : ℕ → Bool) (xs : List ℕ) (k : ℕ) → k < length (leading p xs) → p (get_or xs k 0) ≡ true
leading_passes p [] k l = absurd (omega arith)
leading_passes p (x ∷ xs) zero l = go (p x) refl l
  where
    go : (b : Bool) → p x ≡ b → 0 < length (if b then x ∷ leading p xs else []) → p x ≡ true
    go true e l = e
    go false e l = absurd (omega arith)
leading_passes p (x ∷ xs) (suc k) l = go (λ h. leading_passes p xs k h) (p x) l
  where
    go : (k < length (leading p xs) → p (get_or xs k 0) ≡ true) → (b : Bool) → suc k < length (if b then x ∷ leading p xs else []) → p (get_or xs k 0) ≡ true
    go more true l = more (omega arith)
    go more false l = absurd (omega arith)
