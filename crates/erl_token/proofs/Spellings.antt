-- The spelling of a token by the class of its first byte.
use Rattle.std.proofs.Common.{◌≡◌, ◌⊎◌, inl, inr, ℕ, pos, ◌+◌, ◌<◌, true, List, ◌∷◌, length, drop, get_or, refl, sym, ◌∙◌, ap}
use Rattle.std.proofs.lemmas.List.{drop_more}
use Rattle.erl_token.specs.declared.class.Class.{Class}
use Rattle.erl_token.specs.declared.class.Class.TheVariants.{Blank, Percent, Dollar, Letter, Digit, Other}
use Rattle.erl_number.specs.Escapes.{leading}
use Rattle.erl_number.specs.Texts.{is_bare_name_byte}
use Rattle.erl_token.specs.Lexing.{class_of, alone, bare, numbered, spelling}
use Rattle.erl_token.specs.Lexing.Token.{stray}
use Rattle.erl_number.specs.Numbers.{numeral}
use Rattle.erl_token.proofs.Parts.{letter_in_name}

-- what stands from a place on, by its first byte
bytes_from : (bytes : List ℕ) (at x : ℕ) → at < length bytes → x ≡ get_or bytes at 0 → drop at bytes ≡ x ∷ drop (at + 1) bytes
bytes_from bytes at x h e = drop_more bytes at 0 h ∙ ap (λ y. y ∷ drop (at + 1) bytes) (sym e)

pub name_spelled : (bytes : List ℕ) (at x : ℕ) (k : Class) → at < length bytes → x ≡ get_or bytes at 0 → k ≡ class_of x → k ≡ Letter
    → bare at (leading is_bare_name_byte (drop at bytes)) ≡ spelling at k x (drop (at + 1) bytes)
name_spelled bytes at x k h e c l =
    let passes : is_bare_name_byte x ≡ true = (letter_in_name x (sym c ∙ l)).1 in
    rw l (ap (λ xs. bare at (leading is_bare_name_byte xs)) (bytes_from bytes at x h e) ∙ rw passes refl)

pub number_spelled : (bytes : List ℕ) (at x : ℕ) (k : Class) → at < length bytes → x ≡ get_or bytes at 0 → (k ≡ Digit) ⊎ (k ≡ Dollar)
    → numbered at pos 0 (numeral at at (drop at bytes)) ≡ spelling at k x (drop (at + 1) bytes)
number_spelled bytes at x k h e (inl digit) = rw digit (ap (λ xs. numbered at pos 0 (numeral at at xs)) (bytes_from bytes at x h e))
number_spelled bytes at x k h e (inr dollar) = rw dollar (ap (λ xs. numbered at pos 0 (numeral at at xs)) (bytes_from bytes at x h e))

pub stray_spelled : (at x : ℕ) (k : Class) (xs : List ℕ) → (k ≡ Blank) ⊎ ((k ≡ Percent) ⊎ (k ≡ Other)) → alone (stray x) ≡ spelling at k x xs
stray_spelled at x k xs (inl blank) = rw blank refl
stray_spelled at x k xs (inr (inl percent)) = rw percent refl
stray_spelled at x k xs (inr (inr other)) = rw other refl
