-- Bytes by what they begin.
use Rattle.std.proofs.Common.{◌≡◌, ℕ, ◌<◌, ◌≤◌, List, length, get_or, slice_get, Some, sym, ◌∙◌, ap, arith}
use Rattle.std.proofs.lemmas.Bool.Decides.{nat_tests}
use Rattle.std.proofs.lemmas.Option.{slice_get-get_or}
use Rattle.erl_token.specs.declared.class.Class.{Class}
use Rattle.erl_token.specs.declared.class.Class.TheVariants.{Quote, Apostrophe, Other}
use Rattle.erl_token.specs.Lexing.{class_of}

pub class_quote : (x : ℕ) → class_of x ≡ Quote → x ≡ 34
class_quote x e = grind (arith, nat_tests)

class_apostrophe : (x : ℕ) → class_of x ≡ Apostrophe → x ≡ 39
class_apostrophe x e = grind (arith, nat_tests)

-- where a byte is a quote
pub quote_stands : (bytes : List ℕ) (at x : ℕ) (k : Class) → at < length bytes → x ≡ get_or bytes at 0 → k ≡ class_of x → k ≡ Quote → slice_get bytes at ≡ Some 34
quote_stands bytes at x k h e c q = slice_get-get_or bytes at 0 h ∙ ap Some (sym e ∙ class_quote x (sym c ∙ q))

-- where it is an apostrophe
pub apostrophe_stands : (bytes : List ℕ) (at x : ℕ) (k : Class) → at < length bytes → x ≡ get_or bytes at 0 → k ≡ class_of x → k ≡ Apostrophe → slice_get bytes at ≡ Some 39
apostrophe_stands bytes at x k h e c q = slice_get-get_or bytes at 0 h ∙ ap Some (sym e ∙ class_apostrophe x (sym c ∙ q))

-- a byte past ASCII begins no token
pub class_large : (x : ℕ) → 128 ≤ x → class_of x ≡ Other
class_large x h = grind (arith, nat_tests)
