-- Names as parts of the bytes that are UTF-8, and brackets of two bytes.
use Rattle.std.proofs.Common.{◌≡◌, ◌≢◌, ℕ, suc, ◌+◌, ◌-◌, ◌<◌, ◌≤◌, Bool, true, false, eqb, if◌then◌else◌, List, [], ◌∷◌, ◌++◌, length, drop, get_or, slice_get, Some, None, refl, sym, ◌∙◌, ap, subst, arith}
use Rattle.std.proofs.lemmas.List.{drop_more, get_or-drop}
use Rattle.std.proofs.lemmas.Bool.Decides.{nat_tests}
use Rattle.std.proofs.lemmas.Str.{IsCharBoundary-before_ascii, IsCharBoundary-after_ascii}
use Rattle.std.specs.Str.{IsUtf8, IsCharBoundary}
use Rattle.std.specs.Prelude.{slice_range}
use Rattle.erl_token.specs.declared.class.Class.TheVariants.{Letter}
use Rattle.erl_number.specs.declared.run.Run.{Run}
use Rattle.erl_number.specs.declared.run.Run.TheVariants.{InName}
use Rattle.erl_number.specs.Texts.{is_bare_name_byte}
use Rattle.erl_token.specs.Lexing.{class_of, alone, doubled, Spelling, Token, Item}
use Rattle.erl_token.specs.Lexing.Token.{cut, stray}
use Rattle.erl_number.specs.Escapes.{leading}
use Rattle.erl_number.specs.Views.{seal}
use Rattle.erl_number.specs.Scanned.{goes_on_with}
use Rattle.erl_number.proofs.Runs.{drop_some, drop_none, leading_passes}
use Rattle.erl_number.proofs.Parts.{run_valid, run_within, run_part, byte_valid}

ascii_in_run : (run : Run) → ((x : ℕ) → goes_on_with run x ≡ true → x < 128) → (valid : List ℕ) (from to : ℕ) → IsUtf8 valid → from < to → to ≤ length valid
    → to ≡ from + length (leading (goes_on_with run) (drop from valid)) → IsCharBoundary valid to
ascii_in_run run ascii valid from to utf8 some within e =
    let last : (to - 1) - from < length (leading (goes_on_with run) (drop from valid)) = omega arith in
    let place : from + ((to - 1) - from) ≡ to - 1 = omega arith in
    let passes : goes_on_with run (get_or valid (to - 1) 0) ≡ true =
    ap (λ x. goes_on_with run x) (ap (λ k. get_or valid k 0) (sym place) ∙ sym (get_or-drop from valid ((to - 1) - from) 0))
    ∙ leading_passes (goes_on_with run) (drop from valid) ((to - 1) - from) last in
    let behind : (to - 1) + 1 ≡ to = omega arith in
    subst (λ k. IsCharBoundary valid k) behind (IsCharBoundary-after_ascii valid (to - 1) utf8 (omega arith) (ascii (get_or valid (to - 1) 0) passes))

pub name_ascii : (x : ℕ) → goes_on_with InName x ≡ true → x < 128
name_ascii x e = grind (arith, nat_tests)

pub letter_in_name : (x : ℕ) → class_of x ≡ Letter → (x < 128) × (goes_on_with InName x ≡ true)
letter_in_name x e = ((grind (arith, nat_tests)), (grind (arith, nat_tests)))

-- a run in a text that begins with a byte that it goes on with
pub record IsRun (run : Run) (valid bytes : List ℕ) (from to : ℕ) : Type 0 where
  pub some : from < to
  pub within : to ≤ length valid
  pub end : to ≡ from + length (leading (goes_on_with run) (drop from valid))
  pub same : leading (goes_on_with run) (drop from bytes) ≡ leading (goes_on_with run) (drop from valid)
  pub begins : get_or valid from 0 < 128

is_run : (run : Run) (valid : List ℕ) (b : Bool) (from to : ℕ) → from < length (valid ++ seal b) → get_or (valid ++ seal b) from 0 < 128
    → goes_on_with run (get_or (valid ++ seal b) from 0) ≡ true → to ≡ from + length (leading (goes_on_with run) (drop from (valid ++ seal b)))
    → IsRun run valid (valid ++ seal b) from to
is_run run valid b from to l ascii passes e =
    let (in_valid, byte) = byte_valid valid b from l (omega arith) in
    let same = run_valid run valid b from (omega arith) in
    let end : to ≡ from + length (leading (goes_on_with run) (drop from valid)) = e ∙ ap (λ ys. from + length ys) same in
    let first : leading (goes_on_with run) (drop from valid) ≡ get_or valid from 0 ∷ leading (goes_on_with run) (drop (from + 1) valid) =
    ap (leading (goes_on_with run)) (drop_more valid from 0 in_valid)
    ∙ ap (λ t. if t then get_or valid from 0 ∷ leading (goes_on_with run) (drop (from + 1) valid) else []) (ap (goes_on_with run) (sym byte) ∙ passes) in
    let long : length (leading (goes_on_with run) (drop from valid)) ≡ suc (length (leading (goes_on_with run) (drop (from + 1) valid))) = ap length first in
    record { some = omega arith; within = omega (arith, run_within run valid from (omega arith)); end = end; same = same; begins = omega arith }

pub name_run : (valid : List ℕ) (b : Bool) (from to : ℕ) → from < length (valid ++ seal b) → class_of (get_or (valid ++ seal b) from 0) ≡ Letter
    → to ≡ from + length (leading (goes_on_with InName) (drop from (valid ++ seal b))) → IsRun InName valid (valid ++ seal b) from to
name_run valid b from to l k e = let (ascii, passes) = letter_in_name (get_or (valid ++ seal b) from 0) k in is_run InName valid b from to l ascii passes e

pub name_begins : {valid bytes : List ℕ} {from to : ℕ} → IsRun InName valid bytes from to → IsCharBoundary valid from
name_begins {valid = valid} {from = from} r = IsCharBoundary-before_ascii valid from (omega (arith, r.some, r.within)) r.begins

pub name_ends : {valid bytes : List ℕ} {from to : ℕ} → IsRun InName valid bytes from to → IsUtf8 valid → IsCharBoundary valid to
name_ends {valid = valid} {from = from} {to = to} r utf8 = ascii_in_run InName name_ascii valid from to utf8 r.some r.within r.end

-- a name as it is spelled
abbrev pub item : Token → ℕ → ℕ → Item
item t from to = record { token = t; from = from; to = to }

abbrev pub spelled_item : Spelling → ℕ → Item
spelled_item s at = item s.token at (at + s.size)

-- the name between the places, and how many bytes it takes
pub name_part : {valid bytes : List ℕ} {from to : ℕ} (part : List ℕ) → IsRun InName valid bytes from to → part ≡ slice_range valid from to
    → part ≡ leading is_bare_name_byte (drop from bytes)
name_part {valid = valid} {from = from} {to = to} part r e = e ∙ (run_part InName valid from to r.end ∙ sym r.same)

pub name_size : {valid bytes : List ℕ} {from to : ℕ} → IsRun InName valid bytes from to → to - from ≡ length (leading is_bare_name_byte (drop from bytes))
name_size {valid = valid} {bytes = bytes} {from = from} {to = to} r =
    let short : to - from ≡ length (leading (goes_on_with InName) (drop from valid)) = omega (arith, r.end) in
    short ∙ ap length (sym r.same)

-- two bytes in a row, by the second
pub doubled_cut : (t : Token) (x : ℕ) (bytes : List ℕ) (at : ℕ) → slice_get bytes at ≡ None → doubled t x (drop at bytes) ≡ alone (cut t)
doubled_cut t x bytes at e = ap (doubled t x) (drop_none bytes at e)

pub doubled_same : (t : Token) (x : ℕ) (bytes : List ℕ) (at y : ℕ) → slice_get bytes at ≡ Some y → y ≡ x → doubled t x (drop at bytes) ≡ record { token = t; size = 2 }
doubled_same t x bytes at y e same = let is : eqb y x ≡ true = grind (arith, nat_tests) in ap (doubled t x) (drop_some bytes at y e) ∙ rw is refl

pub doubled_other : (t : Token) (x : ℕ) (bytes : List ℕ) (at y : ℕ) → slice_get bytes at ≡ Some y → y ≢ x → doubled t x (drop at bytes) ≡ alone (stray x)
doubled_other t x bytes at y e other = let is : eqb y x ≡ false = grind (arith, nat_tests) in ap (doubled t x) (drop_some bytes at y e) ∙ rw is refl
