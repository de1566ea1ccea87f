-- The test of terms that can be read back says what it means.
use Rattle.std.proofs.Common.{◌≡◌, ◌<◌, ℕ, ◌+◌, ◌-◌, ◌≤◌, Bool, true, false, List, length, Option, Some, None, is_some, refl, arith}
use Rattle.std.specs.Prelude.{◌&&◌, ◌||◌, nat_le, nat_lt, max, if◌then◌else◌}
use Rattle.std.specs.Str.{chars}
use Rattle.std.proofs.Math.Nat.{max-le}
use Rattle.std.proofs.lemmas.Bool.Decides.{nat_tests}
use Rattle.erl_term.specs.Printing.{character_of, characters_of, is_string, put_character}
use Rattle.erl_term.specs.Value.{Value, Values}
use Rattle.erl_term.specs.Value.Value.{int, atom, list, tuple, bin}
use Rattle.erl_term.specs.Value.Values.{no_values, value}
use Rattle.erl_term.specs.Within.{IsWithin, HaveShortNames, brackets, most_brackets}
use Rattle.rel_files.proofs.Options.{both, both_true}
use Rattle.rel_records.specs.Depth.{is_within, are_within}

at_most : (n limit : ℕ) → nat_le n limit ≡ true → n ≤ limit
at_most n limit e = grind (arith, nat_tests)

is_at_most : (n limit : ℕ) → n ≤ limit → nat_le n limit ≡ true
is_at_most n limit few = grind (arith, nat_tests)

some_left : (limit : ℕ) → nat_lt 0 limit ≡ true → 0 < limit
some_left limit e = grind (arith, nat_tests)

is_some_left : (limit : ℕ) → 0 < limit → nat_lt 0 limit ≡ true
is_some_left limit some = grind (arith, nat_tests)

max_left : (n m limit : ℕ) → max n m ≤ limit → n ≤ limit
max_left n m limit few = omega (arith, few)

max_right : (n m limit : ℕ) → max n m ≤ limit → m ≤ limit
max_right n m limit few = omega (arith, few)

-- the characters of a string have no names
string_names : (vs : Values) → is_some (characters_of vs) ≡ true → HaveShortNames vs
string_names no_values e = tt
string_names (value (int n) vs) e = (tt, string_names vs (behind (character_of (int n)) (characters_of vs) e))
  where
    behind : (c : Option ℕ) (cs : Option (List ℕ)) → is_some (put_character c cs) ≡ true → is_some cs ≡ true
    behind (Some c) (Some cs) e = refl
    behind (Some c) None e = cc
    behind None cs e = absurd cc
string_names (value v vs) e = absurd cc

is_text : (cs : Option (List ℕ)) → is_string cs ≡ true → is_some cs ≡ true
is_text (Some cs) e = refl
is_text None e = cc

-- Members within brackets of their own.
enclosed_so : (vs : Values) (limit : ℕ) → (are_within (limit - 1) vs ≡ true → HaveShortNames vs × (most_brackets vs ≤ limit - 1))
    → (nat_lt 0 limit && are_within (limit - 1) vs) ≡ true → HaveShortNames vs × (most_brackets vs + 1 ≤ limit)
enclosed_so vs limit each e =
    let (some, are) = both (nat_lt 0 limit) (are_within (limit - 1) vs) e in
    let (names, few) = each are in
    let left = some_left limit some in
    (names, omega (arith, few, left))

enclosed_back : (vs : Values) (limit : ℕ) → (HaveShortNames vs → most_brackets vs ≤ limit - 1 → are_within (limit - 1) vs ≡ true)
    → HaveShortNames vs → most_brackets vs + 1 ≤ limit → (nat_lt 0 limit && are_within (limit - 1) vs) ≡ true
enclosed_back vs limit each names few =
    both_true (nat_lt 0 limit) (are_within (limit - 1) vs) (is_some_left limit (omega (arith, few))) (each names (omega (arith, few)))

list_so : (vs : Values) (limit : ℕ) (b : Bool) → is_string (characters_of vs) ≡ b
    → ((nat_lt 0 limit && are_within (limit - 1) vs) ≡ true → HaveShortNames vs × (most_brackets vs + 1 ≤ limit))
    → (b || (nat_lt 0 limit && are_within (limit - 1) vs)) ≡ true → HaveShortNames vs × ((if b then 0 else most_brackets vs + 1) ≤ limit)
list_so vs limit true is enclosed e = (string_names vs (is_text (characters_of vs) is), omega arith)
list_so vs limit false is enclosed e = enclosed e

list_back : (vs : Values) (limit : ℕ) (b : Bool) → (HaveShortNames vs → most_brackets vs + 1 ≤ limit → (nat_lt 0 limit && are_within (limit - 1) vs) ≡ true)
    → HaveShortNames vs → (if b then 0 else most_brackets vs + 1) ≤ limit → (b || (nat_lt 0 limit && are_within (limit - 1) vs)) ≡ true
list_back vs limit true enclosed names few = refl
list_back vs limit false enclosed names few = enclosed names few

mutual
  pub within_so : (v : Value) (limit : ℕ) → is_within limit v ≡ true → IsWithin limit v
  within_so (int n) limit e = (tt, omega arith)
  within_so (atom s) limit e = (at_most (length (chars s)) 255 e, omega arith)
  within_so (bin bs) limit e = (tt, let some = some_left limit e in omega (arith, some))
  within_so (tuple vs) limit e = enclosed_so vs limit (each_so vs (limit - 1)) e
  within_so (list vs) limit e = list_so vs limit (is_string (characters_of vs)) refl (enclosed_so vs limit (each_so vs (limit - 1))) e

  each_so : (vs : Values) (limit : ℕ) → are_within limit vs ≡ true → HaveShortNames vs × (most_brackets vs ≤ limit)
  each_so no_values limit e = (tt, omega arith)
  each_so (value v vs) limit e =
      let (is, are) = both (is_within limit v) (are_within limit vs) e in
      let (name, few) = within_so v limit is in
      let (names, rest) = each_so vs limit are in
      ((name, names), max-le few rest)

mutual
  pub within_back : (v : Value) (limit : ℕ) → IsWithin limit v → is_within limit v ≡ true
  within_back (int n) limit within = refl
  within_back (atom s) limit within = is_at_most (length (chars s)) 255 within.0
  within_back (bin bs) limit within = is_some_left limit (let few = within.1 in omega (arith, few))
  within_back (tuple vs) limit within = enclosed_back vs limit (each_back vs (limit - 1)) within.0 within.1
  within_back (list vs) limit within = list_back vs limit (is_string (characters_of vs)) (enclosed_back vs limit (each_back vs (limit - 1))) within.0 within.1

  each_back : (vs : Values) (limit : ℕ) → HaveShortNames vs → most_brackets vs ≤ limit → are_within limit vs ≡ true
  each_back no_values limit names few = refl
  each_back (value v vs) limit names few =
      both_true (is_within limit v) (are_within limit vs) (within_back v limit (names.0, max_left (brackets v) (most_brackets vs) limit few))
      (each_back vs limit names.1 (max_right (brackets v) (most_brackets vs) limit few))
