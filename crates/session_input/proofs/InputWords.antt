-- The input of a call, as the word that spells it.
use Rattle.std.proofs.Common.{◌≡◌, ℕ, ◌<◌, ◌^◌, Bool, true, false, List, length, refl, ap, arith, rules}
use Rattle.std.specs.Prelude.{nat_lt, Some, Result, Ok, Err}
use Rattle.std.specs.Char.{is_ascii_digit}
use Rattle.std.specs.List.{list_all}
use Rattle.std.specs.Result.{OkIff, result_ok}
use Rattle.std.specs.Str.Parse.{digits_value, ParsesUnsigned}
use Rattle.std.proofs.lemmas.Bool.Decides.{nat_tests}
use Rattle.std.proofs.lemmas.Str.Parse.{IsNumeralModel, numerals_by_value, parse_digits}
use Rattle.session_input.specs.Commands.{is_input, input_of}

-- such words spell the numbers that `parse` reads
spells_number : IsNumeralModel (λ word. list_all is_ascii_digit word ≡ true) (digits_value 10)
spells_number = numerals_by_value _ (search rules)

accepted : (word : List ℕ) → list_all is_ascii_digit word ≡ true → 0 < length word → digits_value 10 word < 2 ^ 32 → is_input word ≡ true
accepted word digits some small =
    let nonempty : nat_lt 0 (length word) ≡ true = grind (arith, nat_tests) in
    let fits : nat_lt (digits_value 10 word) (2 ^ 32) ≡ true = grind (arith, nat_tests) in rw (digits, nonempty, fits) refl

refused : (word : List ℕ) → ((0 < length word) × (digits_value 10 word < 2 ^ 32) → ⊥) → is_input word ≡ false
refused word over = go (is_input word) refl
  where
    go : (b : Bool) → is_input word ≡ b → is_input word ≡ false
    go true taken = absurd (over (grind (arith, nat_tests, taken)))
    go false e = e

-- what `parse` reads of digits alone is the input that they are
pub parsed_input : {E : Type 0} (word : List ℕ) (r : Result ℕ E) → list_all is_ascii_digit word ≡ true → ParsesUnsigned 32 10 word r → result_ok r ≡ input_of word
parsed_input {E} word r digits parses = go r (parse_digits spells_number 32 word r parses digits)
  where
    go : (r : Result ℕ E) → OkIff r ((0 < length word) × (digits_value 10 word < 2 ^ 32)) (digits_value 10 word) → result_ok r ≡ input_of word
    go (Ok n) ((some, small), is) = rw (accepted word digits some small) (ap Some is)
    go (Err e) over = rw (refused word over) refl
