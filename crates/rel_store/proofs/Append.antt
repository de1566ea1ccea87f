-- What a crash may leave, and what stands, after each of the two writes of an append.
use Rattle.std.proofs.Common.{◌≡◌, ◌≢◌, inl, inr, ℕ, ◌+◌, ◌<◌, ◌≤◌, List, [], ◌∷◌, ◌++◌, length, take, drop, refl, sym, ◌∙◌, ap, subst, arith, append_assoc, length-append}
use Rattle.std.proofs.lemmas.Bool.{cases_eq}
use Rattle.std.proofs.lemmas.List.{take_at, drop_at, length_push, drop-drop, get_or_append_left}
use Rattle.std.specs.Prelude.{slice_index}
use Rattle.rel_disk.specs.Damage.{overwritten, Torn, Only}
use Rattle.rel_store.specs.Layout.{base_of}
use Rattle.rel_store.specs.Moments.{IsTornFrom}
use Rattle.rel_store.specs.Records.{record_bytes, Stands, StandsEither, space}
use Rattle.rel_store.proofs.ReadLemmas.{length-record}
use Rattle.rel_store.proofs.Whole.{Head, Split, split, stands, grown}

-- one byte, any
pub one : (l : List ℕ) → length l ≡ 1 → (b : ℕ) × (l ≡ b ∷ [])
one [] e = absurd (omega arith)
one (b ∷ []) e = (b, refl)
one (b ∷ d ∷ l) e = absurd (omega arith)

module _ (bodies : List (List ℕ)) (text head : List ℕ) (holds : Head bodies text head) where
  -- the closed gate stands in front of whatever is written after it
  up_to_gate : (gate : ℕ) (rest : List ℕ) → take (length head + 1) (head ++ gate ∷ rest) ≡ head ++ gate ∷ []
  up_to_gate gate rest = ap (λ l. take (length head + 1) l) (sym (append_assoc head (gate ∷ []) rest)) ∙ take_at (head ++ gate ∷ []) rest (length head + 1) (length_push head gate)

  after_gate : (gate : ℕ) (rest : List ℕ) → drop (length head + 1) (head ++ gate ∷ rest) ≡ rest
  after_gate gate rest = ap (λ l. drop (length head + 1) l) (sym (append_assoc head (gate ∷ []) rest)) ∙ drop_at (head ++ gate ∷ []) rest (length head + 1) (length_push head gate)

  behind_gate : (gate : ℕ) (rest : List ℕ) (n : ℕ) → drop (length head + 1 + n) (head ++ gate ∷ rest) ≡ drop n rest
  behind_gate gate rest n = sym (drop-drop n (length head + 1) (head ++ gate ∷ rest)) ∙ ap (λ l. drop n l) (after_gate gate rest)

  pub torn_behind : (gate : ℕ) (rest : List ℕ) (n : ℕ) (c : List ℕ) → gate ≢ 1 → Torn (length head + 1) n (head ++ gate ∷ rest) c → Stands bodies text c
  torn_behind gate rest n c shut torn =
      let others = torn.middle ++ (drop (length head + 1 + n) (head ++ gate ∷ rest) ++ torn.tail) in
      let is : c ≡ head ++ gate ∷ others = torn.is ∙ ap (λ (l : List ℕ). l ++ others) (up_to_gate gate rest) ∙ append_assoc head (gate ∷ []) others in
      subst (Stands bodies text) (sym is) (stands bodies text head gate others holds shut)

  pub written_behind : (gate : ℕ) (rest bytes : List ℕ) → overwritten (length head + 1) bytes (head ++ gate ∷ rest) ≡ head ++ gate ∷ (bytes ++ drop (length bytes) rest)
  written_behind gate rest bytes =
      ap (λ (l : List ℕ). l ++ (bytes ++ drop (length head + 1 + length bytes) (head ++ gate ∷ rest))) (up_to_gate gate rest)
      ∙ append_assoc head (gate ∷ []) (bytes ++ drop (length head + 1 + length bytes) (head ++ gate ∷ rest))
      ∙ ap (λ (l : List ℕ). head ++ gate ∷ (bytes ++ l)) (behind_gate gate rest (length bytes))

  whole : (body rest : List ℕ) (b : ℕ) → length body ≤ 16777216 → StandsEither bodies body text (head ++ b ∷ (record_bytes body ++ 0 ∷ rest))
  whole body rest b short = elim (cases_eq b 1) [
    | inl is_open ↦ inr (subst (Stands (bodies ++ body ∷ []) text) (together is_open) (stands (bodies ++ body ∷ []) text (head ++ 1 ∷ record_bytes body) 0 rest (grown bodies text head body holds short) (omega arith)))
    | inr shut ↦ inl (stands bodies text head b (record_bytes body ++ 0 ∷ rest) holds shut)
  ]
    where
      together : b ≡ 1 → (head ++ 1 ∷ record_bytes body) ++ 0 ∷ rest ≡ head ++ b ∷ (record_bytes body ++ 0 ∷ rest)
      together is_open = append_assoc head (1 ∷ record_bytes body) (0 ∷ rest) ∙ ap (λ g. head ++ g ∷ (record_bytes body ++ 0 ∷ rest)) (sym is_open)

  pub torn_gate : (gate : ℕ) (body rest c : List ℕ) → length body ≤ 16777216 → Torn (length head) 1 (head ++ gate ∷ (record_bytes body ++ 0 ∷ rest)) c → StandsEither bodies body text c
  torn_gate gate body rest c short torn =
      let old = head ++ gate ∷ (record_bytes body ++ 0 ∷ rest) in
      let size : length old ≡ length head + length (gate ∷ (record_bytes body ++ 0 ∷ rest)) = length-append head (gate ∷ (record_bytes body ++ 0 ∷ rest)) in
      let byte = one torn.middle (omega (arith, torn.long, size)) in
      let front : take (length head) old ≡ head = take_at head (gate ∷ (record_bytes body ++ 0 ∷ rest)) (length head) refl in
      let back : drop (length head + 1) old ≡ record_bytes body ++ 0 ∷ rest = after_gate gate (record_bytes body ++ 0 ∷ rest) in
      let is : c ≡ head ++ byte.0 ∷ (record_bytes body ++ 0 ∷ (rest ++ torn.tail)) =
      torn.is
      ∙ ap (λ (l : List ℕ). l ++ (torn.middle ++ (drop (length head + 1) old ++ torn.tail))) front
      ∙ ap (λ (l : List ℕ). head ++ (l ++ (drop (length head + 1) old ++ torn.tail))) byte.1
      ∙ ap (λ (l : List ℕ). head ++ byte.0 ∷ (l ++ torn.tail)) back
      ∙ ap (λ (l : List ℕ). head ++ byte.0 ∷ l) (append_assoc (record_bytes body) (0 ∷ rest) torn.tail) in
      subst (StandsEither bodies body text) (sym is) (whole body (rest ++ torn.tail) byte.0 short)

  pub written_gate : (gate : ℕ) (body rest : List ℕ) → overwritten (length head) (1 ∷ []) (head ++ gate ∷ (record_bytes body ++ 0 ∷ rest)) ≡ (head ++ 1 ∷ record_bytes body) ++ 0 ∷ rest
  written_gate gate body rest =
      ap (λ (l : List ℕ). l ++ 1 ∷ drop (length head + 1) (head ++ gate ∷ (record_bytes body ++ 0 ∷ rest))) (take_at head (gate ∷ (record_bytes body ++ 0 ∷ rest)) (length head) refl)
      ∙ ap (λ (l : List ℕ). head ++ 1 ∷ l) (after_gate gate (record_bytes body ++ 0 ∷ rest))
      ∙ sym (append_assoc head (1 ∷ record_bytes body) (0 ∷ rest))

-- where the closed gate of a store that stands is
pub gate_at : (bodies : List (List ℕ)) (text old : List ℕ) (gate : ℕ) (s : Split bodies text old) → gate ≡ base_of old + space bodies → length s.head ≡ gate
gate_at bodies text old gate s at = s.holds.end (s.gate ∷ s.rest) ∙ ap (λ l. base_of l + space bodies) (sym s.is) ∙ sym at

pub gate_within : (bodies : List (List ℕ)) (text old : List ℕ) (gate : ℕ) → Stands bodies text old → gate ≡ base_of old + space bodies → gate + 1 ≤ length old
gate_within bodies text old gate here at =
    let s = split bodies text old here in
    omega (arith, gate_at bodies text old gate s at, ap length s.is, length-append s.head (s.gate ∷ s.rest))

pub gate_low : (bodies : List (List ℕ)) (text old : List ℕ) (gate : ℕ) → Stands bodies text old → gate ≡ base_of old + space bodies → 288 ≤ gate
gate_low bodies text old gate here at =
    let s = split bodies text old here in
    omega (arith, gate_at bodies text old gate s at, s.holds.long)

-- at each moment of the first write the records are those from before
pub first_leaves : (bodies : List (List ℕ)) (text body old : List ℕ) (gate n : ℕ) (images : List ℕ → Type 0) → Stands bodies text old → gate ≡ base_of old + space bodies → Only old images
    → (c : List ℕ) → IsTornFrom images (gate + 1) n c → StandsEither bodies body text c
first_leaves bodies text body old gate n images here at only c (inl now) = inl (subst (Stands bodies text) (sym (only c now)) here)
first_leaves bodies text body old gate n images here at only c (inr torn) =
    let s = split bodies text old here in
    let from = subst (λ d. Torn (gate + 1) n d c) (only torn.0 torn.1 ∙ s.is) torn.2 in
    inl (torn_behind bodies text s.head s.holds s.gate s.rest n c s.shut (subst (λ p. Torn (p + 1) n (s.head ++ s.gate ∷ s.rest) c) (sym (gate_at bodies text old gate s at)) from))

-- The record is written after its gate, which is closed.
pub record Staged (bodies : List (List ℕ)) (text body : List ℕ) (gate : ℕ) (old mid : List ℕ) : Type 0 where
  pub head : List ℕ
  pub shut : ℕ
  pub closed : shut ≢ 1
  pub before : List ℕ
  pub rest : List ℕ
  pub holds : Head bodies text head
  pub long : length head ≡ gate
  pub was : old ≡ head ++ before
  pub is : mid ≡ head ++ shut ∷ (record_bytes body ++ 0 ∷ rest)

pub staged : (bodies : List (List ℕ)) (text body old mid bytes : List ℕ) (gate : ℕ) → Stands bodies text old → gate ≡ base_of old + space bodies → bytes ≡ record_bytes body ++ 0 ∷ []
    → mid ≡ overwritten (gate + 1) bytes old → Staged bodies text body gate old mid
staged bodies text body old mid bytes gate here at spelled written =
    let s = split bodies text old here in
    let long = gate_at bodies text old gate s at in
    record {
      head = s.head;
      shut = s.gate;
      closed = s.shut;
      before = s.gate ∷ s.rest;
      rest = drop (length bytes) s.rest;
      holds = s.holds;
      long = long;
      was = s.is;
      is = written
          ∙ ap (λ p. overwritten (p + 1) bytes old) (sym long)
          ∙ ap (overwritten (length s.head + 1) bytes) s.is
          ∙ written_behind bodies text s.head s.holds s.gate s.rest bytes
          ∙ ap (λ (l : List ℕ). s.head ++ s.gate ∷ (l ++ drop (length bytes) s.rest)) spelled
          ∙ ap (λ (l : List ℕ). s.head ++ s.gate ∷ l) (append_assoc (record_bytes body) (0 ∷ []) (drop (length bytes) s.rest));
    }

-- at each moment of the second they are those, or the new one too
pub second_leaves : (bodies : List (List ℕ)) (text body old mid : List ℕ) (gate : ℕ) (images : List ℕ → Type 0) → length body ≤ 16777216 → Staged bodies text body gate old mid → Only mid images
    → (c : List ℕ) → IsTornFrom images gate 1 c → StandsEither bodies body text c
second_leaves bodies text body old mid gate images short s only c (inl now) =
    subst (StandsEither bodies body text) (sym (only c now ∙ s.is)) (inl (stands bodies text s.head s.shut (record_bytes body ++ 0 ∷ s.rest) s.holds s.closed))
second_leaves bodies text body old mid gate images short s only c (inr torn) =
    let from = subst (λ d. Torn gate 1 d c) (only torn.0 torn.1 ∙ s.is) torn.2 in
    torn_gate bodies text s.head s.holds s.shut body s.rest c short (subst (λ p. Torn p 1 (s.head ++ s.shut ∷ (record_bytes body ++ 0 ∷ s.rest)) c) (sym s.long) from)

-- and after it the new one stands
pub record Appended (bodies : List (List ℕ)) (text body : List ℕ) (gate : ℕ) (old new : List ℕ) : Type 0 where
  pub here : Stands (bodies ++ body ∷ []) text new
  pub end : gate + (5 + length body) ≡ base_of new + space (bodies ++ body ∷ [])
  pub selector : slice_index new 9 ≡ slice_index old 9
  pub base : base_of new ≡ base_of old
  pub choice : slice_index new 10 ≡ slice_index old 10
  pub kind : slice_index new 11 ≡ slice_index old 11

pub appended : (bodies : List (List ℕ)) (text body old mid new : List ℕ) (gate : ℕ) → length body ≤ 16777216 → Staged bodies text body gate old mid → new ≡ overwritten gate (1 ∷ []) mid → Appended bodies text body gate old new
appended bodies text body old mid new gate short s written =
    let is : new ≡ (s.head ++ 1 ∷ record_bytes body) ++ 0 ∷ s.rest =
    written ∙ ap (λ p. overwritten p (1 ∷ []) mid) (sym s.long) ∙ ap (overwritten (length s.head) (1 ∷ [])) s.is ∙ written_gate bodies text s.head s.holds s.shut body s.rest in
    let grows = grown bodies text s.head body s.holds short in
    let size : length (s.head ++ 1 ∷ record_bytes body) ≡ length s.head + length (1 ∷ record_bytes body) = length-append s.head (1 ∷ record_bytes body) in
    let behind = 1 ∷ (record_bytes body ++ 0 ∷ s.rest) in
    let from_head : new ≡ s.head ++ behind = is ∙ append_assoc s.head (1 ∷ record_bytes body) (0 ∷ s.rest) in
    let same_index : (i : ℕ) → i < 288 → slice_index new i ≡ slice_index old i = λ i low.
    ap (λ l. slice_index l i) from_head ∙ get_or_append_left s.head behind 0 i (omega (arith, low, s.holds.long)) ∙ sym (get_or_append_left s.head s.before 0 i (omega (arith, low, s.holds.long))) ∙ ap (λ l. slice_index l i) (sym s.was) in
    record {
      here = subst (Stands (bodies ++ body ∷ []) text) (sym is) (stands (bodies ++ body ∷ []) text (s.head ++ 1 ∷ record_bytes body) 0 s.rest grows (omega arith));
      end = omega (arith, s.long, size, length-record body, grows.end (0 ∷ s.rest), ap base_of is);
      selector = same_index 9 (omega arith);
      base = omega (arith, s.holds.end behind, s.holds.end s.before, ap base_of from_head, ap base_of s.was);
      choice = same_index 10 (omega arith);
      kind = same_index 11 (omega arith);
    }
