-- What a whole store is made of: a head that holds its records whatever follows it, and a closed gate.
use Rattle.std.proofs.Common.{◌≡◌, ◌≢◌, inl, inr, ℕ, ◌+◌, ◌<◌, ◌≤◌, Bool, true, false, ◌||◌, not, List, [], ◌∷◌, ◌++◌, length, get_or, take, drop, Ok, Err, refl, sym, ◌∙◌, ap, arith, append_assoc, length-append, take-append-drop}
use Rattle.std.specs.Prelude.{if◌then◌else◌, nat_lt, nat_le, slice_index, bytes_eq}
use Rattle.std.specs.Int.{w64, from_be_bytes}
use Rattle.std.proofs.lemmas.Bool.{cases_eq}
use Rattle.std.proofs.lemmas.Bool.Decides.{nat_tests}
use Rattle.std.proofs.lemmas.List.{drop_at, length-take-le, take-append-le, take-take, drop-take, get_or-take}
use Rattle.rel_store.specs.Layout.{magic, part, has_magic, selected, start_slot, text_of, base_slot, base_of}
use Rattle.rel_store.specs.Records.{record_bytes, records_from, records_of, Stands, space}
use Rattle.rel_store.specs.declared.error.StoreError.TheVariants.{NotAStore, Damaged}
use Rattle.rel_store.proofs.ReadLemmas.{onto_all, onto_all-push, onto_all-none, closed, read-record, length-record, held}

-- an open store whose base is within it
pub record Sound (bytes : List ℕ) : Type 0 where
  pub long : 289 ≤ length bytes
  pub begins : has_magic bytes ≡ true
  pub low : 288 ≤ base_of bytes
  pub high : base_of bytes < length bytes

pub readable : (bytes : List ℕ) → Sound bytes → records_of bytes ≡ records_from (base_of bytes) 0 (drop (base_of bytes) bytes)
readable bytes s = go (length bytes) (has_magic bytes) (base_of bytes) s.long s.begins s.low s.high
  where
    go : (n : ℕ) (b : Bool) (base : ℕ) → 289 ≤ n → b ≡ true → 288 ≤ base → base < n
        → (if nat_lt n 289 || not b then Err NotAStore else (if nat_lt base 288 || nat_le n base then Err (Damaged (base_slot bytes)) else records_from base 0 (drop base bytes)))
        ≡ records_from base 0 (drop base bytes)
    go n b base long begins low high =
        let first : (nat_lt n 289 || not b) ≡ false = grind (arith, nat_tests) in
        let second : (nat_lt base 288 || nat_le n base) ≡ false = grind (arith, nat_tests) in
        ap (λ t. if t then Err NotAStore else (if nat_lt base 288 || nat_le n base then Err (Damaged (base_slot bytes)) else records_from base 0 (drop base bytes))) first
        ∙ ap (λ t. if t then Err (Damaged (base_slot bytes)) else records_from base 0 (drop base bytes)) second

-- an opening that reports records reports that the store is sound
pub sound : (bytes : List ℕ) (bodies : List (List ℕ)) → records_of bytes ≡ Ok bodies → Sound bytes
sound bytes bodies read = go (nat_lt (length bytes) 289 || not (has_magic bytes)) (nat_lt (base_of bytes) 288 || nat_le (length bytes) (base_of bytes)) refl refl
  where
    facts : (n : ℕ) (b : Bool) → (nat_lt n 289 || not b) ≡ false → (289 ≤ n) × (b ≡ true)
    facts n true e = (grind (arith, nat_tests), refl)
    facts n false e = absurd (grind (arith, nat_tests))

    bounds : (n base : ℕ) → (nat_lt base 288 || nat_le n base) ≡ false → (288 ≤ base) × (base < n)
    bounds n base e = (grind (arith, nat_tests), grind (arith, nat_tests))

    go : (a b : Bool) → (nat_lt (length bytes) 289 || not (has_magic bytes)) ≡ a → (nat_lt (base_of bytes) 288 || nat_le (length bytes) (base_of bytes)) ≡ b → Sound bytes
    go true b e f = absurd (cc (read, ap (λ t. if t then Err NotAStore else (if nat_lt (base_of bytes) 288 || nat_le (length bytes) (base_of bytes) then Err (Damaged (base_slot bytes)) else records_from (base_of bytes) 0 (drop (base_of bytes) bytes))) e))
    go false true e f = absurd (cc (read, ap (λ t. if t then Err NotAStore else (if nat_lt (base_of bytes) 288 || nat_le (length bytes) (base_of bytes) then Err (Damaged (base_slot bytes)) else records_from (base_of bytes) 0 (drop (base_of bytes) bytes))) e, ap (λ t. if t then Err (Damaged (base_slot bytes)) else records_from (base_of bytes) 0 (drop (base_of bytes) bytes)) f))
    go false false e f = let a = facts (length bytes) (has_magic bytes) e in let b = bounds (length bytes) (base_of bytes) f in record { long = a.0; begins = a.1; low = b.0; high = b.1 }

-- Bytes that agree up to a place agree in each part before it.
pub part-same : (at n m : ℕ) (a b : List ℕ) → at + n ≤ m → take m a ≡ take m b → part at n a ≡ part at n b
part-same at n m a b le same =
    sym (drop-take at n a) ∙ ap (λ l. drop at l) (sym (take-take (at + n) m a le) ∙ ap (λ l. take (at + n) l) same ∙ take-take (at + n) m b le) ∙ drop-take at n b

pub index-same : (i m : ℕ) (a b : List ℕ) → i < m → take m a ≡ take m b → slice_index a i ≡ slice_index b i
index-same i m a b lt same = sym (get_or-take m a i 0 lt) ∙ ap (λ l. get_or l i 0) same ∙ get_or-take m b i 0 lt

pub selected-le : (s first second m : ℕ) → first ≤ m → second ≤ m → selected s first second ≤ m
selected-le s first second m p q = elim (cases_eq s 1) [ inl is ↦ grind (arith, nat_tests) | inr is_not ↦ grind (arith, nat_tests) ]

pub selected-ge : (s first second m : ℕ) → m ≤ first → m ≤ second → m ≤ selected s first second
selected-ge s first second m p q = elim (cases_eq s 1) [ inl is ↦ grind (arith, nat_tests) | inr is_not ↦ grind (arith, nat_tests) ]

pub magic-same : (a b : List ℕ) → take 288 a ≡ take 288 b → has_magic a ≡ has_magic b
magic-same a b same = ap (λ l. bytes_eq l (1 ∷ magic)) (part-same 0 9 288 a b (omega arith) same)

pub base-same : (a b : List ℕ) → take 288 a ≡ take 288 b → base_of a ≡ base_of b
base-same a b same =
    ap (λ s. from_be_bytes w64 (part (selected s 272 280) 8 a)) (index-same 10 288 a b (omega arith) same)
    ∙ ap (from_be_bytes w64) (part-same (base_slot b) 8 288 a b (omega (arith, selected-le (slice_index b 10) 272 280 280 (omega arith) (omega arith))) same)

pub text-same : (a b : List ℕ) → take 288 a ≡ take 288 b → text_of a ≡ text_of b
text-same a b same =
    ap (λ s. part (selected s 16 144) 128 a) (index-same 9 288 a b (omega arith) same)
    ∙ part-same (start_slot b) 128 288 a b (omega (arith, selected-le (slice_index b 9) 16 144 144 (omega arith) (omega arith))) same

-- A head holds these records and this start slot, whatever follows it.
pub record Head (bodies : List (List ℕ)) (text : List ℕ) (head : List ℕ) : Type 0 where
  pub long : 288 ≤ length head
  pub records : (tail : List ℕ) → 0 < length tail → records_of (head ++ tail) ≡ onto_all bodies (records_from (length head) 0 tail)
  pub start : (tail : List ℕ) → text_of (head ++ tail) ≡ text
  pub end : (tail : List ℕ) → length head ≡ base_of (head ++ tail) + space bodies

-- A store that stands is its head and a closed gate, and anything after it.
pub record Split (bodies : List (List ℕ)) (text : List ℕ) (bytes : List ℕ) : Type 0 where
  pub head : List ℕ
  pub gate : ℕ
  pub rest : List ℕ
  pub is : bytes ≡ head ++ gate ∷ rest
  pub shut : gate ≢ 1
  pub holds : Head bodies text head

pub split : (bodies : List (List ℕ)) (text bytes : List ℕ) → Stands bodies text bytes → Split bodies text bytes
split bodies text bytes stands =
    let base = base_of bytes in
    let s = sound bytes bodies stands.records in
    let h = held base bodies (drop base bytes) (sym (readable bytes s) ∙ stands.records) in
    let front = take base bytes in
    let front_long : length front ≡ base = length-take-le base bytes (omega (arith, s.high)) in
    let head_long : length (front ++ h.front) ≡ base + length h.front = omega (arith, length-append front h.front) in
    let same : (tail : List ℕ) → take 288 ((front ++ h.front) ++ tail) ≡ take 288 bytes = λ tail.
    ap (λ l. take 288 l) (append_assoc front h.front tail) ∙ take-append-le 288 front (h.front ++ tail) (omega (arith, s.low, front_long)) ∙ take-take 288 base bytes s.low in
    let rest : (tail : List ℕ) → drop base ((front ++ h.front) ++ tail) ≡ h.front ++ tail = λ tail.
    ap (λ l. drop base l) (append_assoc front h.front tail) ∙ drop_at front (h.front ++ tail) base front_long in
    let at : (tail : List ℕ) → 0 < length tail → Sound ((front ++ h.front) ++ tail) = λ tail some.
    let long = length-append (front ++ h.front) tail in
    let b = base-same ((front ++ h.front) ++ tail) bytes (same tail) in
    record {
      long = omega (arith, long, head_long, s.low, some);
      begins = magic-same ((front ++ h.front) ++ tail) bytes (same tail) ∙ s.begins;
      low = omega (arith, b, s.low);
      high = omega (arith, b, long, head_long, some);
    } in
    record {
      head = front ++ h.front;
      gate = h.gate;
      rest = h.rest;
      is = sym (take-append-drop base bytes) ∙ ap (λ (l : List ℕ). front ++ l) h.split ∙ sym (append_assoc front h.front (h.gate ∷ h.rest));
      shut = h.shut;
      holds = record {
        long = omega (arith, head_long, s.low);
        records = λ tail some.
            readable ((front ++ h.front) ++ tail) (at tail some)
            ∙ ap (λ p. records_from p 0 (drop p ((front ++ h.front) ++ tail))) (base-same ((front ++ h.front) ++ tail) bytes (same tail))
            ∙ ap (λ l. records_from base 0 l) (rest tail)
            ∙ h.holds tail some
            ∙ ap (λ p. onto_all bodies (records_from p 0 tail)) (sym head_long);
        start = λ tail. text-same ((front ++ h.front) ++ tail) bytes (same tail) ∙ stands.start;
        end = λ tail. omega (arith, head_long, h.long, base-same ((front ++ h.front) ++ tail) bytes (same tail));
      };
    }

-- a head and a closed gate are a store that stands
pub stands : (bodies : List (List ℕ)) (text head : List ℕ) (gate : ℕ) (rest : List ℕ) → Head bodies text head → gate ≢ 1 → Stands bodies text (head ++ gate ∷ rest)
stands bodies text head gate rest h shut = record {
  records = h.records (gate ∷ rest) (omega arith) ∙ ap (onto_all bodies) (closed (length head) gate rest shut) ∙ onto_all-none bodies;
  start = h.start (gate ∷ rest);
}

-- a head with one record more, after its open gate
pub grown : (bodies : List (List ℕ)) (text head body : List ℕ) → Head bodies text head → length body ≤ 16777216 → Head (bodies ++ body ∷ []) text (head ++ 1 ∷ record_bytes body)
grown bodies text head body h short =
    let size : length (1 ∷ record_bytes body) ≡ 5 + length body = omega (arith, length-record body) in
    let long : length (head ++ 1 ∷ record_bytes body) ≡ length head + (5 + length body) = omega (arith, length-append head (1 ∷ record_bytes body), size) in
    let together : (tail : List ℕ) → (head ++ 1 ∷ record_bytes body) ++ tail ≡ head ++ 1 ∷ (record_bytes body ++ tail) = λ tail. append_assoc head (1 ∷ record_bytes body) tail in
    record {
      long = omega (arith, long, h.long);
      records = λ tail some.
          ap records_of (together tail)
          ∙ h.records (1 ∷ (record_bytes body ++ tail)) (omega arith)
          ∙ ap (onto_all bodies) (read-record (length head) body tail short some)
          ∙ sym (onto_all-push bodies body (records_from (length head + (5 + length body)) 0 tail))
          ∙ ap (λ p. onto_all (bodies ++ body ∷ []) (records_from p 0 tail)) (sym long);
      start = λ tail. ap text_of (together tail) ∙ h.start (1 ∷ (record_bytes body ++ tail));
      end = λ tail. omega (arith, long, h.end (1 ∷ (record_bytes body ++ tail)), ap base_of (together tail), space-push bodies body);
    }
  where
    space-push : (bodies : List (List ℕ)) (body : List ℕ) → space (bodies ++ body ∷ []) ≡ space bodies + (5 + length body)
    space-push [] body = omega arith
    space-push (b ∷ bodies) body = omega (arith, space-push bodies body)
