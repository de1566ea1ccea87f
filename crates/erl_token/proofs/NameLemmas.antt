-- Names as they are spelled.
use Rattle.std.proofs.Common.{◌≡◌, ℕ, ◌+◌, ◌-◌, ◌<◌, ◌≤◌, true, false, nat_le, nat_lt, List, length, refl, sym, ap, subst, ◌∙◌, arith}
use Rattle.std.proofs.lemmas.Bool.Decides.{nat_tests}
use Rattle.std.proofs.lemmas.Str.{encodes-chars, length-le-encodes}
use Rattle.std.specs.Str.{bytes_eq, chars, IsUtf8}
use Rattle.std.specs.Prelude.{codes}
use Rattle.erl_number.specs.declared.fault.TermFault.TheVariants.{BadToken, Unsupported}
use Rattle.erl_token.specs.Lexing.{name_spelling, bare, some_name}
use Rattle.erl_token.specs.Lexing.Token.{name, broken}
use Rattle.erl_token.proofs.Parts.{item, spelled_item}

-- Few bytes are few characters.
pub few_bytes : (s : List ℕ) (limit : ℕ) → IsUtf8 s → length s ≤ limit → nat_lt limit (length s) ≡ nat_lt limit (length (chars s))
few_bytes s limit utf8 few =
    let fewer : length (chars s) ≤ length s = subst (λ (bs : List ℕ). length (chars s) ≤ length bs) (encodes-chars s utf8) (length-le-encodes (chars s)) in
    grind (arith, nat_tests)

pub named_long : (from to : ℕ) (s : List ℕ) → nat_lt 255 (length (chars s)) ≡ true → item (broken some_name (BadToken from)) from (from + 1) ≡ spelled_item (name_spelling from s (to - from)) from
named_long from to s long = let fits : nat_le (length (chars s)) 255 ≡ false = grind (arith, nat_tests) in rw fits refl

pub named_short : (from to : ℕ) (s : List ℕ) → nat_lt 255 (length (chars s)) ≡ false → from < to → item (name s) from to ≡ spelled_item (name_spelling from s (to - from)) from
named_short from to s short some =
    let fits : nat_le (length (chars s)) 255 ≡ true = grind (arith, nat_tests) in
    let place : to ≡ from + (to - from) = omega arith in
    rw fits (λ j. item (name s) from (place j))

pub bare_fun : (from : ℕ) (part s : List ℕ) → part ≡ s → bytes_eq part (codes "fun") ≡ true → item (broken some_name (Unsupported from)) from (from + 1) ≡ spelled_item (bare from s) from
bare_fun from part s same e = let is : bytes_eq s (codes "fun") ≡ true = ap (λ p. bytes_eq p (codes "fun")) (sym same) ∙ e in rw is refl

pub bare_named : (from size : ℕ) (part s : List ℕ) → part ≡ s → bytes_eq part (codes "fun") ≡ false → size ≡ length s → spelled_item (name_spelling from part size) from ≡ spelled_item (bare from s) from
bare_named from size part s same e long =
    let other : bytes_eq s (codes "fun") ≡ false = ap (λ p. bytes_eq p (codes "fun")) (sym same) ∙ e in
    rw other (λ j. spelled_item (name_spelling from (same j) (long j)) from)
