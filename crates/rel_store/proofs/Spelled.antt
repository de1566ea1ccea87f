-- Bytes that spell a store, and what is read of them.
use Rattle.std.proofs.Common.{◌≡◌, ◌≢◌, inl, inr, ℕ, ◌+◌, ◌-◌, ◌<◌, suc, List, [], ◌∷◌, ◌++◌, length, take, drop, Ok, refl, sym, ◌∙◌, ap, subst, arith, append_assoc, length-append, length-take, length-drop, take-append-drop}
use Rattle.std.specs.Int.{w32, to_be_bytes}
use Rattle.std.proofs.lemmas.Bool.{cases_eq, cases_lt}
use Rattle.std.proofs.lemmas.List.{length-take-le, drop-drop, get_or-take, get_or-drop, get_or_past}
use Rattle.std.proofs.lemmas.Nat.{be_bytes_4}
use Rattle.std.proofs.lemmas.Slice.Eq.{bytes_eq-Decides}
use Rattle.rel_store.specs.Layout.{magic, base_of}
use Rattle.rel_store.specs.Records.{record_bytes, records_bytes, onto, spelled_length, spelled_body, records_from, records_of}
use Rattle.rel_store.specs.Spelled.{AreShort, IsSpelled, AreBytes}
use Rattle.rel_store.proofs.ReadLemmas.{closed, read-record, opened}
use Rattle.rel_store.proofs.Whole.{readable, sound}

-- records that are spelled are read
read : (place : ℕ) (bodies : List (List ℕ)) (gate : ℕ) (rest : List ℕ) → AreShort bodies → gate ≢ 1 → records_from place 0 (records_bytes bodies ++ gate ∷ rest) ≡ Ok bodies
read place [] gate rest short shut = closed place gate rest shut
read place (body ∷ bodies) gate rest short shut =
    ap (λ (l : List ℕ). records_from place 0 (1 ∷ l)) (append_assoc (record_bytes body) (records_bytes bodies) (gate ∷ rest))
    ∙ read-record place body (records_bytes bodies ++ gate ∷ rest) short.0 (omega (arith, length-append (records_bytes bodies) (gate ∷ rest)))
    ∙ ap (onto body) (read (place + (5 + length body)) bodies gate rest short.1 shut)

pub spelled_is_read : (bytes : List ℕ) (bodies : List (List ℕ)) → IsSpelled bodies bytes → records_of bytes ≡ Ok bodies
spelled_is_read bytes bodies s =
    let behind : length bytes - base_of bytes ≡ length (records_bytes bodies) + length (s.gate ∷ s.rest) = sym (length-drop (base_of bytes) bytes) ∙ ap length s.records ∙ length-append (records_bytes bodies) (s.gate ∷ s.rest) in
    readable bytes (record { long = omega (arith, behind, s.low); begins = (bytes_eq-Decides (take 9 bytes) (1 ∷ magic)).1 s.begins; low = s.low; high = omega (arith, behind) })
    ∙ ap (λ l. records_from (base_of bytes) 0 l) s.records
    ∙ read (base_of bytes) bodies s.gate s.rest s.short s.shut

-- records that are read are spelled, and a closed gate after them
record Spells (bodies : List (List ℕ)) (bytes : List ℕ) : Type 0 where
  short : AreShort bodies
  gate : ℕ
  shut : gate ≢ 1
  rest : List ℕ
  is : bytes ≡ records_bytes bodies ++ gate ∷ rest

drop-bytes : (n : ℕ) (bytes : List ℕ) → AreBytes bytes → AreBytes (drop n bytes)
drop-bytes n bytes small i = subst (λ b. b < 256) (sym (get_or-drop n bytes i 0)) (small (n + i))

take-bytes : (n : ℕ) (bytes : List ℕ) → AreBytes bytes → AreBytes (take n bytes)
take-bytes n bytes small i = elim (cases_lt i n) [
  | inl within ↦ subst (λ b. b < 256) (sym (get_or-take n bytes i 0 within)) (small i)
  | inr past ↦ subst (λ b. b < 256) (sym (get_or_past (take n bytes) i 0 (omega (arith, length-take n bytes)))) (omega arith)
]

one_spelled : (bytes body : List ℕ) → AreBytes bytes → 4 + spelled_length bytes < length bytes → spelled_body bytes ≡ body → (length body ≡ spelled_length bytes) × (bytes ≡ record_bytes body ++ drop (4 + spelled_length bytes) bytes)
one_spelled bytes body small whole same =
    let n = spelled_length bytes in
    let long : length body ≡ n = ap length (sym same) ∙ length-take-le n (drop 4 bytes) (omega (arith, length-drop 4 bytes)) in
    let reported : to_be_bytes w32 n ≡ take 4 bytes = be_bytes_4 (take 4 bytes) n (length-take-le 4 bytes (omega arith)) (take-bytes 4 bytes small) refl in (
      long,
      sym (take-append-drop 4 bytes)
          ∙ ap (λ (l : List ℕ). take 4 bytes ++ l) (sym (take-append-drop n (drop 4 bytes)))
          ∙ ap (λ (l : List ℕ). l ++ (take n (drop 4 bytes) ++ drop n (drop 4 bytes))) (sym reported)
          ∙ ap (λ (l : List ℕ). to_be_bytes w32 n ++ (l ++ drop n (drop 4 bytes))) same
          ∙ ap (λ (l : List ℕ). to_be_bytes w32 n ++ (body ++ l)) (drop-drop n 4 bytes)
          ∙ sym (append_assoc (to_be_bytes w32 n) body (drop (4 + n) bytes))
          ∙ ap (λ k. (to_be_bytes w32 k ++ body) ++ drop (4 + n) bytes) (sym long),
    )

spells : (place : ℕ) (bodies : List (List ℕ)) (bytes : List ℕ) → AreBytes bytes → records_from place 0 bytes ≡ Ok bodies → Spells bodies bytes
spells place bodies [] small reported = absurd cc
spells place [] (gate ∷ bytes) small reported = elim (cases_eq gate 1) [
  | inl is_open ↦ let found = opened place bytes [] (ap (λ g. records_from place 0 (g ∷ bytes)) (sym is_open) ∙ reported) in absurd (cc found.is)
  | inr shut ↦ record { short = tt; gate = gate; shut = shut; rest = bytes; is = refl }
]
spells place (body ∷ bodies) (gate ∷ bytes) small reported = elim (cases_eq gate 1) [
  | inl is_open ↦
      let found = opened place bytes (body ∷ bodies) (ap (λ g. records_from place 0 (g ∷ bytes)) (sym is_open) ∙ reported) in
      let n = spelled_length bytes in
      let same_others : found.others ≡ bodies = cc found.is in
      let same_body : spelled_body bytes ≡ body = cc found.is in
      let one = one_spelled bytes body (λ i. small (suc i)) found.whole same_body in
      let others = spells (place + (5 + n)) bodies (drop (4 + n) bytes) (drop-bytes (4 + n) bytes (λ i. small (suc i))) (found.read ∙ ap (λ o. Ok o) same_others) in
      record {
        short = (omega (arith, one.0, found.short), others.short);
        gate = others.gate;
        shut = others.shut;
        rest = others.rest;
        is = (λ i. is_open i ∷ one.1 i)
            ∙ ap (λ (l : List ℕ). 1 ∷ (record_bytes body ++ l)) others.is
            ∙ ap (λ (l : List ℕ). 1 ∷ l) (sym (append_assoc (record_bytes body) (records_bytes bodies) (others.gate ∷ others.rest)));
      }
  | inr shut ↦ absurd (cc (closed place gate bytes shut, reported))
]

pub read_is_spelled : (bytes : List ℕ) (bodies : List (List ℕ)) → AreBytes bytes → records_of bytes ≡ Ok bodies → IsSpelled bodies bytes
read_is_spelled bytes bodies small reported =
    let s = sound bytes bodies reported in
    let found = spells (base_of bytes) bodies (drop (base_of bytes) bytes) (drop-bytes (base_of bytes) bytes small) (sym (readable bytes s) ∙ reported) in
    record {
      begins = (bytes_eq-Decides (take 9 bytes) (1 ∷ magic)).0 s.begins;
      low = s.low;
      short = found.short;
      gate = found.gate;
      shut = found.shut;
      rest = found.rest;
      records = found.is;
    }
