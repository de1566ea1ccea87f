-- Runs and bytes as parts of the bytes that are UTF-8.
use Rattle.std.proofs.Common.{◌≡◌, ℕ, ◌+◌, ◌-◌, ◌<◌, ◌≤◌, Bool, true, false, if◌then◌else◌, nat_lt, List, [], ◌∷◌, ◌++◌, length, take, drop, get_or, slice_get, refl, sym, ◌∙◌, ap, arith, append-nil}
use Rattle.std.proofs.lemmas.List.{drop-append-le, length-drop, length-append, get_or_append_left, get_or-append_right}
use Rattle.std.proofs.lemmas.Bool.Decides.{nat_tests}
use Rattle.std.specs.Prelude.{slice_range}
use Rattle.erl_number.specs.declared.run.Run.{Run}
use Rattle.erl_number.specs.declared.run.Run.TheVariants.{InName, InQuotes, InComment, InDigits, InBlanks, InText}
use Rattle.erl_number.specs.Escapes.{leading}
use Rattle.erl_number.specs.Views.{seal}
use Rattle.erl_number.specs.Scanned.{goes_on_with, stands_at}
use Rattle.erl_number.specs.declared.text.At.{At}
use Rattle.erl_number.specs.declared.text.At.TheVariants.{Byte, NotUtf8, End}
use Rattle.erl_number.proofs.Runs.{leading-take, leading_le, run_stops, run_past}

-- no run goes on over the end of the bytes that are UTF-8
pub stops_at_seal : (run : Run) → goes_on_with run 256 ≡ false
stops_at_seal InName = refl
stops_at_seal (InQuotes quote) = grind (arith, nat_tests)
stops_at_seal InComment = refl
stops_at_seal InDigits = refl
stops_at_seal InBlanks = refl
stops_at_seal InText = refl

leading-seal : (p : ℕ → Bool) (b : Bool) → p 256 ≡ false → leading p (seal b) ≡ []
leading-seal p true e = rw e refl
leading-seal p false e = refl

leading-append_seal : (p : ℕ → Bool) (xs : List ℕ) (b : Bool) → p 256 ≡ false → leading p (xs ++ seal b) ≡ leading p xs
leading-append_seal p [] b e = leading-seal p b e
leading-append_seal p (x ∷ xs) b e = ap (λ ys. if p x then x ∷ ys else []) (leading-append_seal p xs b e)

-- a run of a text is one of its bytes that are UTF-8
pub run_valid : (run : Run) (valid : List ℕ) (b : Bool) (from : ℕ) → from ≤ length valid
    → leading (goes_on_with run) (drop from (valid ++ seal b)) ≡ leading (goes_on_with run) (drop from valid)
run_valid run valid b from l = rw (drop-append-le from valid (seal b) l) (leading-append_seal (goes_on_with run) (drop from valid) b (stops_at_seal run))

pub run_within : (run : Run) (valid : List ℕ) (from : ℕ) → from ≤ length valid → from + length (leading (goes_on_with run) (drop from valid)) ≤ length valid
run_within run valid from l = omega (arith, leading_le (goes_on_with run) (drop from valid), length-drop from valid)

pub run_part : (run : Run) (valid : List ℕ) (from to : ℕ) → to ≡ from + length (leading (goes_on_with run) (drop from valid))
    → slice_range valid from to ≡ leading (goes_on_with run) (drop from valid)
run_part run valid from to e =
    let long : to - from ≡ length (leading (goes_on_with run) (drop from valid)) = omega arith in
    ap (λ n. take n (drop from valid)) long ∙ sym (leading-take (goes_on_with run) (drop from valid))

-- a byte of the text that is one
pub byte_valid : (valid : List ℕ) (b : Bool) (at : ℕ) → at < length (valid ++ seal b) → get_or (valid ++ seal b) at 0 < 256
    → (at < length valid) × (get_or (valid ++ seal b) at 0 ≡ get_or valid at 0)
byte_valid valid true at l small = go (nat_lt at (length valid)) refl
  where
    go : (t : Bool) → nat_lt at (length valid) ≡ t → (at < length valid) × (get_or (valid ++ seal true) at 0 ≡ get_or valid at 0)
    go true e = let h : at < length valid = grind (arith, nat_tests) in (h, get_or_append_left valid (seal true) 0 at h)
    go false e =
        let last : at ≡ length valid = grind (arith, nat_tests, length-append valid (seal true)) in
        let none : at - length valid ≡ 0 = omega arith in
        let beyond : get_or (valid ++ seal true) at 0 ≡ 256 = get_or-append_right valid (seal true) (length valid) at 0 refl (omega arith) ∙ ap (λ k. get_or (seal true) k 0) none in
        absurd (omega arith)
byte_valid valid false at l small =
    let same : valid ++ [] ≡ valid = append-nil valid in
    ((let h : at < length (valid ++ []) = l in rw same at h), ap (λ xs. get_or xs at 0) same)

-- a run ends where no byte stands
pub run_ends : (run : Run) (xs : List ℕ) (i : ℕ) (there : At) → ((b : ℕ) → there ≡ Byte b → ⊥) → stands_at there ≡ slice_get xs i → length (leading (goes_on_with run) (drop i xs)) ≡ 0
run_ends run xs i (Byte b) differs e = absurd (differs b refl)
run_ends run xs i NotUtf8 differs e = run_stops (goes_on_with run) xs i 256 (sym e) (stops_at_seal run)
run_ends run xs i End differs e = run_past (goes_on_with run) xs i (sym e)
