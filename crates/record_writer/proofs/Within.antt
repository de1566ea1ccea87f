-- How deep the records are that bring releases.
use Rattle.std.proofs.Common.{◌≡◌, ℕ, zero, suc, ◌+◌, ◌-◌, ◌*◌, ◌≤◌, Bool, true, false, List, [], ◌∷◌, ◌++◌, length, Option, Some, None, arith, codes, refl, sym, subst}
use Rattle.std.specs.Prelude.{if◌then◌else◌}
use Rattle.std.specs.Option.{ForSome, option_map}
use Rattle.std.specs.Str.{chars, chars_after, continuation_len, lead_bits}
use Rattle.erl_term.specs.Value.{Value}
use Rattle.erl_term.specs.Value.Value.{list}
use Rattle.erl_term.specs.Grammar.{Reads}
use Rattle.erl_term.specs.OneTerm.{HasTerm}
use Rattle.erl_term.specs.Printing.{is_string, characters_of}
use Rattle.erl_term.specs.Within.{IsWithin, HaveShortNames, ReadsAs, brackets, most_brackets}
use Rattle.library.specs.Library.{Library}
use Rattle.rel_records.specs.Record.{library_terms, release_term, relup_or_none}
use Rattle.rel_records.specs.Writing.{CanBeCarried}

-- bytes spell no more characters than they are
length-chars_after : (n c : ℕ) (bs : List ℕ) → length (chars_after n c bs) ≤ length bs + 1
length-chars_after zero c [] = omega arith
length-chars_after zero c (b ∷ bs) = omega (arith, length-chars_after (continuation_len b) (lead_bits b) bs)
length-chars_after (suc n) c [] = omega arith
length-chars_after (suc n) c (b ∷ bs) = omega (arith, length-chars_after n (c * 64 + (b - 128)) bs)

pub length-chars : (bs : List ℕ) → length (chars bs) ≤ length bs
unfolding chars
length-chars [] = omega arith
length-chars (b ∷ bs) = omega (arith, length-chars_after (continuation_len b) (lead_bits b) bs)

-- the terms of libraries keep within limits side by side
terms_within : (ls : List Library) → CanBeCarried ls → HaveShortNames (library_terms ls) × (most_brackets (library_terms ls) ≤ 68)
terms_within [] all = (tt, omega arith)
terms_within (l ∷ ls) ((is, (short, few)), all) = let (names, nested) = terms_within ls all in ((short, names), omega (arith, few, nested))

list_brackets : (is_text : Bool) (n : ℕ) → n ≤ 68 → (if is_text then 0 else n + 1) ≤ 69
list_brackets true n few = omega arith
list_brackets false n few = omega (arith, few)

-- what holds of what is made of the one in an option
pub for-mapped : {A B : Type 0} (P : B → Type 0) (f : A → B) (o : Option A) → ForSome o (λ x. P (f x)) → ForSome (option_map f o) P
for-mapped P f None all y is = absurd cc
for-mapped P f (Some x) all y is = let same : f x ≡ y = cc is in subst P same (all x refl)

-- so does the term that stands for a relup
pub within-relup : (o : Option Value) → ForSome o (IsWithin 65) → IsWithin 65 (relup_or_none o)
within-relup None all = (omega (arith, length-chars (codes "none")), omega arith)
within-relup (Some v) all = all v refl

pub within-release : (word : List ℕ) (v : Value) (ls : List Library) (last : Value) → length word ≤ 255 → IsWithin 65 v → CanBeCarried ls → IsWithin 65 last
    → IsWithin 72 (release_term word v (library_terms ls) last)
within-release word v ls last few (names, nested) all (also, deep) =
    let (libs, depth) = terms_within ls all in
    let listed : brackets (list (library_terms ls)) ≤ 69 = list_brackets (is_string (characters_of (library_terms ls))) (most_brackets (library_terms ls)) depth in
    ((omega (arith, length-chars word, few), (names, (libs, (also, tt)))), omega (arith, nested, listed, deep))

-- what is printed within the limit, with a dot after it, has the term
pub read_back : (limit : ℕ) (out text : List ℕ) (v : Value) → IsWithin limit v → (IsWithin limit v → ReadsAs limit text v) → out ≡ text ++ 46 ∷ [] → HasTerm limit out v
read_back limit out text v within reads is = (
  record { term = v; from = 0; to = length text },
  subst (λ l. Reads limit l (record { term = v; from = 0; to = length text } ∷ [])) (sym is) (reads within [] _),
  refl,
)
