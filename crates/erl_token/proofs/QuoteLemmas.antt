-- What stands between quotes, by runs of bytes that stand for themselves and escapes between them.
use Rattle.std.proofs.Common.{◌≡◌, ◌≢◌, ℕ, zero, suc, ◌+◌, ◌-◌, ◌<◌, ◌≤◌, Bool, true, false, ◌||◌, not, if◌then◌else◌, nat_lt, eqb, List, [], ◌∷◌, ◌++◌, length, drop, get_or, slice_get, Some, None, refl, sym, ◌∙◌, ap, arith, append_assoc, append-nil, inl, inr}
use Rattle.std.proofs.lemmas.Bool.Decides.{nat_tests}
use Rattle.std.proofs.lemmas.List.{drop-drop, drop-append-le, length-drop, get_or-drop}
use Rattle.std.specs.Prelude.{encode_utf8, slice_range, EachIndex}
use Rattle.std.specs.Str.{IsUtf8, IsCharBoundary}
use Rattle.std.proofs.lemmas.Str.{IsCharBoundary-after_ascii}
use Rattle.std.proofs.lemmas.Option.{slice_get_within, get_or_from_slice_get}
use Rattle.erl_number.specs.declared.run.Run.TheVariants.{InQuotes}
use Rattle.erl_number.specs.declared.fault.TermFault.{TermFault}
use Rattle.erl_number.specs.declared.fault.TermFault.TheVariants.{BadToken, Unclosed}
use Rattle.erl_number.specs.Escapes.{Character, leading, escape}
use Rattle.erl_number.specs.Escapes.Character.{means, senseless, unfinished}
use Rattle.erl_token.specs.Quotes.{Quoted, behind, unclosed, escaped, quoted}
use Rattle.erl_token.specs.Quotes.Quoted.{closed, faulty}
use Rattle.erl_token.specs.Contents.{IsQuote}
use Rattle.erl_number.specs.Views.{seal}
use Rattle.erl_number.proofs.Runs.{drop_some, drop_none, run_more}
use Rattle.erl_number.proofs.Parts.{byte_valid, run_valid, run_within, run_part}

-- a byte that stands for itself between such quotes
abbrev pub is_plain : ℕ → ℕ → Bool
is_plain quote x = not (eqb x quote || (eqb x 92 || nat_lt 255 x))

pub behind-nothing : (q : Quoted) → behind [] 0 q ≡ q
behind-nothing (closed s n) = ap (closed s) (omega arith)
behind-nothing (faulty f) = refl

pub behind-behind : (a b : List ℕ) (m n : ℕ) (q : Quoted) → behind a m (behind b n q) ≡ behind (a ++ b) (m + n) q
behind-behind a b m n (closed s k) = let size : m + (n + k) ≡ m + n + k = omega arith in λ j. closed (sym (append_assoc a b s) j) (size j)
behind-behind a b m n (faulty f) = refl

-- the bytes of an escape are passed over
pub quoted-past : (quote from at n : ℕ) (xs : List ℕ) → quoted quote from at n xs ≡ behind [] n (quoted quote from (at + n) 0 (drop n xs))
quoted-past quote from at zero xs =
    let same : at ≡ at + 0 = omega arith in
    ap (λ a. quoted quote from a 0 xs) same ∙ sym (behind-nothing (quoted quote from (at + 0) 0 xs))
quoted-past quote from at (suc n) [] = refl
quoted-past quote from at (suc n) (x ∷ xs) =
    let place : (at + 1) + n ≡ at + suc n = omega arith in
    let size : 1 + n ≡ suc n = omega arith in
    ap (behind [] 1) (quoted-past quote from (at + 1) n xs)
    ∙ (behind-behind [] [] 1 n (quoted quote from ((at + 1) + n) 0 (drop n xs))
    ∙ (λ j. behind [] (size j) (quoted quote from (place j) 0 (drop n xs))))

pub quoted-plain : (quote from at x : ℕ) (xs : List ℕ) → is_plain quote x ≡ true
    → quoted quote from at 0 (x ∷ xs) ≡ behind (x ∷ []) 1 (quoted quote from (at + 1) 0 xs)
quoted-plain quote from at x xs h =
    let no_quote : eqb x quote ≡ false = grind (arith, nat_tests) in
    let byte : nat_lt 255 x ≡ false = grind (arith, nat_tests) in
    let no_escape : eqb x 92 ≡ false = grind (arith, nat_tests) in
    rw (no_quote, byte, no_escape) refl

-- a run of bytes that stand for themselves
pub quoted-run : (quote from at : ℕ) (xs : List ℕ)
    → quoted quote from at 0 xs
    ≡ behind (leading (is_plain quote) xs) (length (leading (is_plain quote) xs)) (quoted quote from (at + length (leading (is_plain quote) xs)) 0 (drop (length (leading (is_plain quote) xs)) xs))
quoted-run quote from at [] = refl
quoted-run quote from at (x ∷ xs) = go (is_plain quote x) refl (quoted-run quote from (at + 1) xs)
  where
    go : (b : Bool) → is_plain quote x ≡ b
        → quoted quote from (at + 1) 0 xs
        ≡ behind (leading (is_plain quote) xs) (length (leading (is_plain quote) xs)) (quoted quote from ((at + 1) + length (leading (is_plain quote) xs)) 0 (drop (length (leading (is_plain quote) xs)) xs))
        → quoted quote from at 0 (x ∷ xs)
        ≡ (let r = if b then x ∷ leading (is_plain quote) xs else [] in behind r (length r) (quoted quote from (at + length r) 0 (drop (length r) (x ∷ xs))))
    go true e more =
        let r = leading (is_plain quote) xs in
        let place : (at + 1) + length r ≡ at + length (x ∷ r) = omega arith in
        let size : 1 + length r ≡ length (x ∷ r) = omega arith in
        quoted-plain quote from at x xs e
        ∙ (ap (behind (x ∷ []) 1) more
        ∙ (behind-behind (x ∷ []) r 1 (length r) (quoted quote from ((at + 1) + length r) 0 (drop (length r) xs))
        ∙ (λ j. behind (x ∷ r) (size j) (quoted quote from (place j) 0 (drop (length r) xs)))))
    go false e more =
        let place : at ≡ at + 0 = omega arith in
        sym (behind-nothing (quoted quote from at 0 (x ∷ xs))) ∙ ap (λ a. behind [] 0 (quoted quote from a 0 (x ∷ xs))) place

-- What stands between the quotes has been read up to this place.
pub record IsRead (quote from : ℕ) (bytes content : List ℕ) (at : ℕ) : Type 0 where
  pub onward : from + 1 ≤ at
  pub so_far : quoted quote from (from + 1) 0 (drop (from + 1) bytes) ≡ behind content (at - (from + 1)) (quoted quote from at 0 (drop at bytes))

pub nothing_read : (quote from : ℕ) (bytes : List ℕ) → IsRead quote from bytes [] (from + 1)
nothing_read quote from bytes =
    let none : 0 ≡ (from + 1) - (from + 1) = omega arith in
    record {
      onward = omega arith;
      so_far = sym (behind-nothing (quoted quote from (from + 1) 0 (drop (from + 1) bytes))) ∙ ap (λ n. behind [] n (quoted quote from (from + 1) 0 (drop (from + 1) bytes))) none;
    }

-- what one more step gives
reads_on : (quote from : ℕ) (bytes content more : List ℕ) (at size end : ℕ) → IsRead quote from bytes content at → end ≡ at + size
    → quoted quote from at 0 (drop at bytes) ≡ behind more size (quoted quote from end 0 (drop end bytes)) → IsRead quote from bytes (content ++ more) end
reads_on quote from bytes content more at size end r is e =
    let length_of : (at - (from + 1)) + size ≡ end - (from + 1) = omega (arith, r.onward) in
    record {
      onward = omega (arith, r.onward);
      so_far = r.so_far ∙ (ap (behind content (at - (from + 1))) e ∙ (behind-behind content more (at - (from + 1)) size (quoted quote from end 0 (drop end bytes))
          ∙ ap (λ n. behind (content ++ more) n (quoted quote from end 0 (drop end bytes))) length_of));
    }

pub reads_run : (quote from : ℕ) (bytes content more : List ℕ) (at end : ℕ) → IsRead quote from bytes content at
    → end ≡ at + length (leading (is_plain quote) (drop at bytes)) → more ≡ leading (is_plain quote) (drop at bytes) → IsRead quote from bytes (content ++ more) end
reads_run quote from bytes content more at end r is same =
    let run = leading (is_plain quote) (drop at bytes) in
    let place : at + length run ≡ end = sym is in
    reads_on quote from bytes content more at (length run) end r is
    (quoted-run quote from at (drop at bytes)
    ∙ (ap (λ xs. behind run (length run) (quoted quote from (at + length run) 0 xs)) (drop-drop (length run) at bytes)
    ∙ (ap (λ p. behind run (length run) (quoted quote from p 0 (drop p bytes))) place
    ∙ ap (λ m. behind m (length run) (quoted quote from end 0 (drop end bytes))) (sym same))))

-- a backslash, which is no quote
at_backslash : (quote from at : ℕ) (xs : List ℕ) → quote ≢ 92
    → quoted quote from at 0 (92 ∷ xs) ≡ escaped from at xs (λ n. quoted quote from (at + 1) n xs) (escape xs)
at_backslash quote from at xs h = let no_quote : eqb 92 quote ≡ false = grind (arith, nat_tests) in rw no_quote refl

at_escape : (quote from at : ℕ) (bytes : List ℕ) (c : Character) → quote ≢ 92 → slice_get bytes at ≡ Some 92 → escape (drop (at + 1) bytes) ≡ c
    → quoted quote from at 0 (drop at bytes) ≡ escaped from at (drop (at + 1) bytes) (λ n. quoted quote from (at + 1) n (drop (at + 1) bytes)) c
at_escape quote from at bytes c h e is =
    ap (quoted quote from at 0) (drop_some bytes at 92 e)
    ∙ (at_backslash quote from at (drop (at + 1) bytes) h
    ∙ ap (escaped from at (drop (at + 1) bytes) (λ n. quoted quote from (at + 1) n (drop (at + 1) bytes))) is)

pub reads_escape : (quote from : ℕ) (bytes content : List ℕ) (at c size end : ℕ) → IsRead quote from bytes content at → quote ≢ 92
    → slice_get bytes at ≡ Some 92 → escape (drop (at + 1) bytes) ≡ means c size → end ≡ at + 1 + size → IsRead quote from bytes (content ++ encode_utf8 c) end
reads_escape quote from bytes content at c size end r h e is place =
    let whole : end ≡ at + (1 + size) = omega arith in
    reads_on quote from bytes content (encode_utf8 c) at (1 + size) end r whole
    (at_escape quote from at bytes (means c size) h e is
    ∙ (ap (behind (encode_utf8 c) 1) (quoted-past quote from (at + 1) size (drop (at + 1) bytes))
    ∙ (behind-behind (encode_utf8 c) [] 1 size (quoted quote from (at + 1 + size) 0 (drop size (drop (at + 1) bytes)))
    ∙ (ap (λ m. behind m (1 + size) (quoted quote from (at + 1 + size) 0 (drop size (drop (at + 1) bytes)))) (append-nil (encode_utf8 c))
    ∙ (ap (λ xs. behind (encode_utf8 c) (1 + size) (quoted quote from (at + 1 + size) 0 xs)) (drop-drop size (at + 1) bytes)
    ∙ ap (λ p. behind (encode_utf8 c) (1 + size) (quoted quote from p 0 (drop p bytes))) (sym place))))))

-- how it ends
reports : (quote from : ℕ) (bytes content : List ℕ) (at : ℕ) (f : TermFault) → IsRead quote from bytes content at
    → quoted quote from at 0 (drop at bytes) ≡ faulty f → quoted quote from (from + 1) 0 (drop (from + 1) bytes) ≡ faulty f
reports quote from bytes content at f r e = r.so_far ∙ ap (behind content (at - (from + 1))) e

pub closes_quote : (quote from : ℕ) (bytes content : List ℕ) (at : ℕ) → IsRead quote from bytes content at → slice_get bytes at ≡ Some quote
    → quoted quote from (from + 1) 0 (drop (from + 1) bytes) ≡ closed content ((at + 1) - (from + 1))
closes_quote quote from bytes content at r e =
    let same : eqb quote quote ≡ true = grind (arith, nat_tests) in
    let here : quoted quote from at 0 (quote ∷ drop (at + 1) bytes) ≡ closed [] 1 = rw same refl in
    let size : (at - (from + 1)) + 1 ≡ (at + 1) - (from + 1) = omega (arith, r.onward) in
    r.so_far
    ∙ (ap (behind content (at - (from + 1))) (ap (quoted quote from at 0) (drop_some bytes at quote e) ∙ here)
    ∙ (λ j. closed (append-nil content j) (size j)))

pub bad_in_quotes : (quote from : ℕ) (bytes content : List ℕ) (at b : ℕ) → IsRead quote from bytes content at → slice_get bytes at ≡ Some b → b ≢ quote → 255 < b
    → quoted quote from (from + 1) 0 (drop (from + 1) bytes) ≡ faulty (BadToken at)
bad_in_quotes quote from bytes content at b r e other large =
    let no_quote : eqb b quote ≡ false = grind (arith, nat_tests) in
    let bad : nat_lt 255 b ≡ true = grind (arith, nat_tests) in
    let here : quoted quote from at 0 (b ∷ drop (at + 1) bytes) ≡ faulty (BadToken at) = rw (no_quote, bad) refl in
    reports quote from bytes content at (BadToken at) r (ap (quoted quote from at 0) (drop_some bytes at b e) ∙ here)

pub open_quote : (quote from : ℕ) (bytes content : List ℕ) (at : ℕ) → IsRead quote from bytes content at → slice_get bytes at ≡ None
    → quoted quote from (from + 1) 0 (drop (from + 1) bytes) ≡ faulty (Unclosed from)
open_quote quote from bytes content at r e = reports quote from bytes content at (Unclosed from) r (ap (quoted quote from at 0) (drop_none bytes at e))

pub senseless_escape : (quote from : ℕ) (bytes content : List ℕ) (at : ℕ) → IsRead quote from bytes content at → quote ≢ 92
    → slice_get bytes at ≡ Some 92 → escape (drop (at + 1) bytes) ≡ senseless → quoted quote from (from + 1) 0 (drop (from + 1) bytes) ≡ faulty (BadToken at)
senseless_escape quote from bytes content at r h e is = reports quote from bytes content at (BadToken at) r (at_escape quote from at bytes senseless h e is)

pub unfinished_escape : (quote from : ℕ) (bytes content : List ℕ) (at : ℕ) → IsRead quote from bytes content at → quote ≢ 92
    → slice_get bytes at ≡ Some 92 → escape (drop (at + 1) bytes) ≡ unfinished
    → quoted quote from (from + 1) 0 (drop (from + 1) bytes) ≡ faulty (unclosed from (at + 1) (drop (at + 1) bytes))
unfinished_escape quote from bytes content at r h e is =
    reports quote from bytes content at (unclosed from (at + 1) (drop (at + 1) bytes)) r (at_escape quote from at bytes unfinished h e is)

-- The fault of a text that ends with a quote open, by where its bytes are no longer UTF-8.
unclosed-bytes : (from at : ℕ) (xs : List ℕ) (b : Bool) → EachIndex xs (λ k. get_or xs k 0 < 256)
    → unclosed from at (xs ++ seal b) ≡ (if b then BadToken (at + length xs) else Unclosed from)
unclosed-bytes from at [] true h = ap BadToken (omega arith)
unclosed-bytes from at [] false h = refl
unclosed-bytes from at (x ∷ xs) b h =
    let first : x < 256 = h 0 (omega arith) in
    let byte : nat_lt 255 x ≡ false = grind (arith, nat_tests) in
    let place : (at + 1) + length xs ≡ at + length (x ∷ xs) = omega arith in
    rw byte (unclosed-bytes from (at + 1) xs b (λ k l. h (suc k) (omega arith)) ∙ ap (λ p. if b then BadToken p else Unclosed from) place)

unclosed_behind : (from at : ℕ) (valid : List ℕ) (b : Bool) → EachIndex valid (λ k. get_or valid k 0 < 256) → at ≤ length valid
    → unclosed from at (drop at (valid ++ seal b)) ≡ (if b then BadToken (length valid) else Unclosed from)
unclosed_behind from at valid b h l =
    let place : at + length (drop at valid) ≡ length valid = omega (arith, length-drop at valid) in
    ap (unclosed from at) (drop-append-le at valid (seal b) l)
    ∙ (unclosed-bytes from at (drop at valid) b (λ k m. let inside : at + k < length valid = omega (arith, length-drop at valid) in rw (get_or-drop at valid k 0) (h (at + k) inside))
    ∙ ap (λ p. if b then BadToken p else Unclosed from) place)

pub unclosed_bad : (from at place : ℕ) (valid : List ℕ) (b : Bool) → EachIndex valid (λ k. get_or valid k 0 < 256) → at ≤ length valid
    → Some place ≡ (if b then Some (length valid) else None) → BadToken place ≡ unclosed from at (drop at (valid ++ seal b))
unclosed_bad from at place valid true h l e = let same : place ≡ length valid = cc in ap BadToken same ∙ sym (unclosed_behind from at valid true h l)
unclosed_bad from at place valid false h l e = absurd cc

pub unclosed_open : (from at : ℕ) (valid : List ℕ) (b : Bool) → EachIndex valid (λ k. get_or valid k 0 < 256) → at ≤ length valid
    → None ≡ (if b then Some (length valid) else None) → Unclosed from ≡ unclosed from at (drop at (valid ++ seal b))
unclosed_open from at valid true h l e = absurd cc
unclosed_open from at valid false h l e = sym (unclosed_behind from at valid false h l)

-- Where a text may be cut.

pub inside : (valid : List ℕ) (b : Bool) (at x : ℕ) → slice_get (valid ++ seal b) at ≡ Some x → x < 128 → (at < length valid) × (get_or valid at 0 ≡ x)
inside valid b at x e small =
    let is : get_or (valid ++ seal b) at 0 ≡ x = get_or_from_slice_get (valid ++ seal b) at x 0 e in
    let (within, same) = byte_valid valid b at (slice_get_within (valid ++ seal b) at x e) (omega arith) in
    (within, sym same ∙ is)

pub cut_behind : (valid : List ℕ) (b : Bool) (at x : ℕ) → IsUtf8 valid → slice_get (valid ++ seal b) at ≡ Some x → x < 128 → IsCharBoundary valid (at + 1)
cut_behind valid b at x utf8 e small = let (within, is) = inside valid b at x e small in IsCharBoundary-after_ascii valid at utf8 within (omega arith)

leading_stops : (p : ℕ → Bool) (xs : List ℕ) → length (leading p xs) < length xs → p (get_or xs (length (leading p xs)) 0) ≡ false
leading_stops p [] l = absurd (omega arith)
leading_stops p (x ∷ xs) l = go (p x) refl l (leading_stops p xs)
  where
    go : (t : Bool) → p x ≡ t → length (if t then x ∷ leading p xs else []) < length (x ∷ xs)
        → (length (leading p xs) < length xs → p (get_or xs (length (leading p xs)) 0) ≡ false)
        → p (get_or (x ∷ xs) (length (if t then x ∷ leading p xs else [])) 0) ≡ false
    go true e l more = more (omega arith)
    go false e l more = e

-- a run between quotes ends where the text may be cut
pub run_cut : (quote : ℕ) (valid : List ℕ) (b : Bool) (at end : ℕ) → quote < 128 → at ≤ length valid
    → end ≡ at + length (leading (is_plain quote) (drop at (valid ++ seal b))) → IsCharBoundary valid end
run_cut quote valid b at end small l e =
    let same : leading (is_plain quote) (drop at (valid ++ seal b)) ≡ leading (is_plain quote) (drop at valid) = run_valid (InQuotes quote) valid b at l in
    let short : end ≡ at + length (leading (is_plain quote) (drop at valid)) = e ∙ ap (λ ys. at + length ys) same in
    let within : end ≤ length valid = omega (arith, run_within (InQuotes quote) valid at l) in (
      within,
      λ inside high.
          let left : length (leading (is_plain quote) (drop at valid)) < length (drop at valid) = omega (arith, length-drop at valid) in
          let stops : is_plain quote (get_or (drop at valid) (length (leading (is_plain quote) (drop at valid))) 0) ≡ false = leading_stops (is_plain quote) (drop at valid) left in
          let place : get_or (drop at valid) (length (leading (is_plain quote) (drop at valid))) 0 ≡ get_or valid end 0 =
          get_or-drop at valid (length (leading (is_plain quote) (drop at valid))) 0 ∙ ap (λ k. get_or valid k 0) (sym short) in
          let here : is_plain quote (get_or valid end 0) ≡ false = ap (is_plain quote) (sym place) ∙ stops in
          not_plain (get_or valid end 0) here high,
    )
  where
    not_plain : (x : ℕ) → is_plain quote x ≡ false → 128 ≤ x → 192 ≤ x
    not_plain x h high = grind (arith, nat_tests)

pub run_between : (quote : ℕ) (valid : List ℕ) (b : Bool) (at end : ℕ) → at ≤ length valid
    → end ≡ at + length (leading (is_plain quote) (drop at (valid ++ seal b))) → slice_range valid at end ≡ leading (is_plain quote) (drop at (valid ++ seal b))
run_between quote valid b at end l e =
    let same : leading (is_plain quote) (drop at (valid ++ seal b)) ≡ leading (is_plain quote) (drop at valid) = run_valid (InQuotes quote) valid b at l in
    run_part (InQuotes quote) valid at end (e ∙ ap (λ ys. at + length ys) same) ∙ sym same

-- a run that begins with a byte that stands for itself goes on
pub run_goes_on : (quote : ℕ) (bytes : List ℕ) (at x end : ℕ) → slice_get bytes at ≡ Some x → x ≢ quote → x ≤ 255 → x ≢ 92
    → end ≡ at + length (leading (is_plain quote) (drop at bytes)) → at < end
run_goes_on quote bytes at x end e other byte no_escape is =
    let plain : is_plain quote x ≡ true = grind (arith, nat_tests) in
    omega (arith, run_more (is_plain quote) bytes at x e plain)

-- a quote is ASCII, and no backslash
pub quote_byte : {quote : ℕ} → IsQuote quote → (quote < 128) × (quote ≢ 92)
quote_byte {quote = quote} (inl e) = ((omega arith), λ f. omega arith)
quote_byte {quote = quote} (inr e) = ((omega arith), λ f. omega arith)
