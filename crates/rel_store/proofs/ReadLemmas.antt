-- What records spell, read again.
use Rattle.std.proofs.Common.{◌≡◌, ◌≢◌, inl, inr, ℕ, zero, suc, ◌+◌, ◌<◌, ◌≤◌, Bool, true, false, ◌&&◌, List, [], ◌∷◌, ◌++◌, length, take, drop, Result, Ok, Err, refl, sym, ◌∙◌, ap, arith, append_assoc, length-append, length-drop, take-append-drop}
use Rattle.std.specs.Prelude.{if◌then◌else◌, nat_lt, nat_le}
use Rattle.std.specs.Int.{w32, from_be_bytes, to_be_bytes}
use Rattle.std.proofs.lemmas.Bool.{cases_eq}
use Rattle.std.proofs.lemmas.Bool.Decides.{nat_tests}
use Rattle.std.proofs.lemmas.List.{take_at, drop_at, length-take-le, take-append-le, take-take, drop-append-le, drop-take}
use Rattle.std.proofs.lemmas.Nat.{from_be_bytes-to_be_bytes_4}
use Rattle.rel_store.specs.Records.{record_bytes, spelled_length, spelled_body, is_whole, onto, records_from, space}
use Rattle.rel_store.specs.declared.error.StoreError.{StoreError}
use Rattle.rel_store.specs.declared.error.StoreError.TheVariants.{Damaged}

-- bodies before those of the rest
abbrev pub onto_all : List (List ℕ) → Result (List (List ℕ)) StoreError → Result (List (List ℕ)) StoreError
onto_all [] rest = rest
onto_all (body ∷ bodies) rest = onto body (onto_all bodies rest)

pub onto_all-push : (bodies : List (List ℕ)) (body : List ℕ) (rest : Result (List (List ℕ)) StoreError) → onto_all (bodies ++ body ∷ []) rest ≡ onto_all bodies (onto body rest)
onto_all-push [] body rest = refl
onto_all-push (b ∷ bodies) body rest = ap (onto b) (onto_all-push bodies body rest)

pub onto_all-none : (bodies : List (List ℕ)) → onto_all bodies (Ok []) ≡ Ok bodies
onto_all-none [] = refl
onto_all-none (b ∷ bodies) = ap (onto b) (onto_all-none bodies)

-- the bytes of the record before are passed over
pub passed : (place inside : ℕ) (bytes : List ℕ) → inside ≤ length bytes → records_from place inside bytes ≡ records_from (place + inside) 0 (drop inside bytes)
passed place zero bytes le = let same : place ≡ place + 0 = omega arith in ap (λ p. records_from p 0 bytes) same
passed place (suc inside) [] le = absurd (omega arith)
passed place (suc inside) (b ∷ bytes) le =
    let same : place + 1 + inside ≡ place + suc inside = omega arith in
    passed (place + 1) inside bytes (omega arith) ∙ ap (λ p. records_from p 0 (drop inside bytes)) same

pub closed : (place gate : ℕ) (bytes : List ℕ) → gate ≢ 1 → records_from place 0 (gate ∷ bytes) ≡ Ok []
closed place gate bytes shut = grind (arith, nat_tests)

-- an open gate before a whole record
pub more : (place : ℕ) (bytes : List ℕ) → spelled_length bytes ≤ 16777216 → 4 + spelled_length bytes < length bytes
    → records_from place 0 (1 ∷ bytes) ≡ onto (spelled_body bytes) (records_from (place + (5 + spelled_length bytes)) 0 (drop (4 + spelled_length bytes) bytes))
more place bytes = more_of place bytes (spelled_length bytes) (spelled_body bytes)
  where
    more_of : (place : ℕ) (bytes : List ℕ) (n : ℕ) (body : List ℕ) → n ≤ 16777216 → 4 + n < length bytes
        → (if nat_le n 16777216 && nat_lt (4 + n) (length bytes) then onto body (records_from (place + 1) (4 + n) bytes) else Err (Damaged place))
        ≡ onto body (records_from (place + (5 + n)) 0 (drop (4 + n) bytes))
    more_of place bytes n body short whole =
        let same : place + 1 + (4 + n) ≡ place + (5 + n) = omega arith in
        let fits : (nat_le n 16777216 && nat_lt (4 + n) (length bytes)) ≡ true = grind (arith, nat_tests) in
        ap (λ t. if t then onto body (records_from (place + 1) (4 + n) bytes) else Err (Damaged place)) fits
        ∙ ap (onto body) (passed (place + 1) (4 + n) bytes (omega arith) ∙ ap (λ p. records_from p 0 (drop (4 + n) bytes)) same)

-- what a record says of itself
pub spelled_length-record : (body rest : List ℕ) → length body ≤ 16777216 → spelled_length (record_bytes body ++ rest) ≡ length body
spelled_length-record body rest short = from_be_bytes-to_be_bytes_4 (length body) (omega arith)

pub length-record : (body : List ℕ) → length (record_bytes body) ≡ 4 + length body
length-record body = omega (arith, length-append (to_be_bytes w32 (length body)) body)

-- a record that is spelled is read
pub read-record : (place : ℕ) (body rest : List ℕ) → length body ≤ 16777216 → 0 < length rest
    → records_from place 0 (1 ∷ (record_bytes body ++ rest)) ≡ onto body (records_from (place + (5 + length body)) 0 rest)
read-record place body rest short more_bytes =
    let bytes = record_bytes body ++ rest in
    let reported = spelled_length-record body rest short in
    let long = length-append (record_bytes body) rest in
    let size = length-record body in
    let behind : drop (4 + spelled_length bytes) bytes ≡ rest =
    ap (λ n. drop (4 + n) bytes) reported ∙ drop_at (record_bytes body) rest (4 + length body) size in
    let body_is : spelled_body bytes ≡ body = ap (λ n. take n (drop 4 bytes)) reported ∙ take_at body rest (length body) refl in
    more place bytes (omega (arith, reported)) (omega (arith, reported, long, size))
    ∙ ap (λ b. onto b (records_from (place + (5 + spelled_length bytes)) 0 (drop (4 + spelled_length bytes) bytes))) body_is
    ∙ ap (λ n. onto body (records_from (place + (5 + n)) 0 (drop (4 + spelled_length bytes) bytes))) reported
    ∙ ap (λ r. onto body (records_from (place + (5 + length body)) 0 r)) behind

-- Bytes from a gate on that hold these records: a front that holds them whatever follows it, and the closed gate.
pub record Held (place : ℕ) (bodies : List (List ℕ)) (bytes : List ℕ) : Type 0 where
  pub front : List ℕ
  pub gate : ℕ
  pub rest : List ℕ
  pub split : bytes ≡ front ++ gate ∷ rest
  pub shut : gate ≢ 1
  pub long : length front ≡ space bodies
  pub holds : (tail : List ℕ) → 0 < length tail → records_from place 0 (front ++ tail) ≡ onto_all bodies (records_from (place + length front) 0 tail)

onto-ok : (body : List ℕ) (r : Result (List (List ℕ)) StoreError) (bodies : List (List ℕ)) → onto body r ≡ Ok bodies → (rest : List (List ℕ)) × (r ≡ Ok rest) × (bodies ≡ body ∷ rest)
onto-ok body (Ok rest) bodies e = (rest, refl, cc)
onto-ok body (Err f) bodies e = absurd cc

-- an open gate that is read: the record after it is whole, and the rest is read on
pub record Opened (place : ℕ) (bytes : List ℕ) (bodies : List (List ℕ)) : Type 0 where
  pub short : spelled_length bytes ≤ 16777216
  pub whole : 4 + spelled_length bytes < length bytes
  pub others : List (List ℕ)
  pub read : records_from (place + (5 + spelled_length bytes)) 0 (drop (4 + spelled_length bytes) bytes) ≡ Ok others
  pub is : bodies ≡ spelled_body bytes ∷ others

pub opened : (place : ℕ) (bytes : List ℕ) (bodies : List (List ℕ)) → records_from place 0 (1 ∷ bytes) ≡ Ok bodies → Opened place bytes bodies
opened place bytes bodies read = go (is_whole bytes) refl
  where
    whole_from : (n long : ℕ) → (nat_le n 16777216 && nat_lt (4 + n) long) ≡ true → (n ≤ 16777216) × (4 + n < long)
    whole_from n long e = (grind (arith, nat_tests), grind (arith, nat_tests))

    go : (b : Bool) → is_whole bytes ≡ b → Opened place bytes bodies
    go true e =
        let fits = whole_from (spelled_length bytes) (length bytes) e in
        let found = onto-ok (spelled_body bytes) _ bodies (sym (more place bytes fits.0 fits.1) ∙ read) in
        record { short = fits.0; whole = fits.1; others = found.0; read = found.1; is = found.2 }
    go false e =
        let refused : records_from place 0 (1 ∷ bytes) ≡ Err (Damaged place) = ap (λ t. if t then onto (spelled_body bytes) (records_from (place + 1) (4 + spelled_length bytes) bytes) else Err (Damaged place)) e in
        absurd (cc (refused, read))

-- the front of a whole record is read as it was, whatever stands after it
refronted : (place : ℕ) (bytes behind : List ℕ) → spelled_length bytes ≤ 16777216 → 4 + spelled_length bytes < length bytes → 0 < length behind
    → records_from place 0 (1 ∷ (take (4 + spelled_length bytes) bytes ++ behind)) ≡ onto (spelled_body bytes) (records_from (place + (5 + spelled_length bytes)) 0 behind)
refronted place bytes behind short whole some =
    let n = spelled_length bytes in
    let front = take (4 + n) bytes in
    let long : length front ≡ 4 + n = length-take-le (4 + n) bytes (omega arith) in
    let size : length (front ++ behind) ≡ 4 + n + length behind = omega (arith, length-append front behind) in
    let first : take 4 (front ++ behind) ≡ take 4 bytes = take-append-le 4 front behind (omega arith) ∙ take-take 4 (4 + n) bytes (omega arith) in
    let reported : spelled_length (front ++ behind) ≡ n = ap (λ l. from_be_bytes w32 l) first in
    let rest : drop 4 (front ++ behind) ≡ take n (drop 4 bytes) ++ behind = drop-append-le 4 front behind (omega arith) ∙ ap (λ l. l ++ behind) (drop-take 4 n bytes) in
    let body_long : length (take n (drop 4 bytes)) ≡ n = length-take-le n (drop 4 bytes) (omega (arith, length-drop 4 bytes)) in
    let body : spelled_body (front ++ behind) ≡ spelled_body bytes = ap (λ k. take k (drop 4 (front ++ behind))) reported ∙ ap (λ l. take n l) rest ∙ take_at (take n (drop 4 bytes)) behind n body_long in
    let tail : drop (4 + spelled_length (front ++ behind)) (front ++ behind) ≡ behind = ap (λ k. drop (4 + k) (front ++ behind)) reported ∙ drop_at front behind (4 + n) long in
    more place (front ++ behind) (omega (arith, reported)) (omega (arith, reported, size))
    ∙ ap (λ b. onto b (records_from (place + (5 + spelled_length (front ++ behind))) 0 (drop (4 + spelled_length (front ++ behind)) (front ++ behind)))) body
    ∙ ap (λ k. onto (spelled_body bytes) (records_from (place + (5 + k)) 0 (drop (4 + spelled_length (front ++ behind)) (front ++ behind)))) reported
    ∙ ap (λ r. onto (spelled_body bytes) (records_from (place + (5 + n)) 0 r)) tail

pub held : (place : ℕ) (bodies : List (List ℕ)) (bytes : List ℕ) → records_from place 0 bytes ≡ Ok bodies → Held place bodies bytes
held place bodies [] read = absurd cc
held place [] (gate ∷ bytes) read = elim (cases_eq gate 1) [
  | inl is_open ↦ let found = opened place bytes [] (ap (λ g. records_from place 0 (g ∷ bytes)) (sym is_open) ∙ read) in absurd (cc found.is)
  | inr shut ↦ record {
    front = [];
    gate = gate;
    rest = bytes;
    split = refl;
    shut = shut;
    long = refl;
    holds = λ tail some. let same : place ≡ place + 0 = omega arith in ap (λ p. records_from p 0 tail) same;
  }
]
held place (body ∷ bodies) (gate ∷ bytes) read = elim (cases_eq gate 1) [
  | inl is_open ↦
      let found = opened place bytes (body ∷ bodies) (ap (λ g. records_from place 0 (g ∷ bytes)) (sym is_open) ∙ read) in
      let n = spelled_length bytes in
      let same_others : found.others ≡ bodies = cc found.is in
      let same_body : spelled_body bytes ≡ body = cc found.is in
      let others = held (place + (5 + n)) bodies (drop (4 + n) bytes) (found.read ∙ ap (λ o. Ok o) same_others) in
      let front_long : length (take (4 + n) bytes) ≡ 4 + n = length-take-le (4 + n) bytes (omega (arith, found.whole)) in
      let body_long : length body ≡ n = ap length (sym same_body) ∙ length-take-le n (drop 4 bytes) (omega (arith, length-drop 4 bytes, found.whole)) in
      let long : length (1 ∷ (take (4 + n) bytes ++ others.front)) ≡ 5 + length body + space bodies = omega (arith, length-append (take (4 + n) bytes) others.front, others.long) in
      record {
        front = 1 ∷ (take (4 + n) bytes ++ others.front);
        gate = others.gate;
        rest = others.rest;
        split = (λ i. is_open i ∷ sym (take-append-drop (4 + n) bytes) i)
            ∙ ap (λ (l : List ℕ). 1 ∷ (take (4 + n) bytes ++ l)) others.split
            ∙ ap (λ (l : List ℕ). 1 ∷ l) (sym (append_assoc (take (4 + n) bytes) others.front (others.gate ∷ others.rest)));
        shut = others.shut;
        long = long;
        holds = λ tail some.
            let at : place + (5 + n) + length others.front ≡ place + length (1 ∷ (take (4 + n) bytes ++ others.front)) = omega (arith, length-append (take (4 + n) bytes) others.front) in
            ap (λ (l : List ℕ). records_from place 0 (1 ∷ l)) (append_assoc (take (4 + n) bytes) others.front tail)
            ∙ refronted place bytes (others.front ++ tail) found.short found.whole (omega (arith, length-append others.front tail))
            ∙ ap (λ b. onto b (records_from (place + (5 + n)) 0 (others.front ++ tail))) same_body
            ∙ ap (onto body) (others.holds tail some ∙ ap (λ p. onto_all bodies (records_from p 0 tail)) at);
      }
  | inr shut ↦ absurd (cc (closed place gate bytes shut, read))
]
