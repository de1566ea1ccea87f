-- What a settled store leaves at each moment of a call.
use Rattle.std.proofs.Common.{◌≡◌, ◌⊎◌, inl, inr, ⊎_elim, ℕ, ◌+◌, ◌<◌, ◌≤◌, take, drop, get_or, Bool, true, false, not, ◌-◌, List, [], ◌∷◌, ◌++◌, length, length-append, replicate, refl, sym, ◌∙◌, ap, subst, arith}
use Rattle.std.specs.Int.{w64, from_be_bytes}
use Rattle.std.proofs.lemmas.List.{length-replicate, length-take-le, length-drop, get_or-take, get_or-drop}
use Rattle.rel_disk.specs.Damage.{overwritten, Within}
use Rattle.rel_disk.specs.Moments.{Elapses, LeavesOnly}
use Rattle.rel_disk.proofs.Moments.{started, goes_on, joined, weakened}
use Rattle.std.proofs.lemmas.Grind.{same_number_lists}
use Rattle.rel_store.specs.Changed.{LeavesOthers, KeepsOthers, IsFormat, IsInCompaction, IsInRecord, IsInOtherSlot}
use Rattle.rel_store.specs.Compaction.{image_place}
use Rattle.rel_store.specs.Layout.{part, selected, slot_with, base_slot, base_of, format_of}
use Rattle.rel_store.proofs.Layouts.{format_same}
use Rattle.rel_store.proofs.Whole.{base-same, selected-le, selected-ge}
use Rattle.rel_store.specs.Moments.{IsTornFrom, IsTornInSteps}
use Rattle.rel_store.specs.Records.{record_bytes, Stands, StandsEither, StandsWithEither}
use Rattle.rel_store.specs.State.{records_in, text_in, IsSettled}
use Rattle.rel_store.specs.declared.store.Store.{Store}
use Rattle.rel_store.proofs.Append.{gate_low, gate_within, first_leaves, second_leaves, Staged, staged, Appended, appended}
use Rattle.rel_store.proofs.Slots.{slot_place, slot_leaves, Slotted, slotted, selector_leaves, Selected, selected_now}
use Rattle.std.specs.Prelude.{◌==◌, if◌then◌else◌, nat_le, slice_index}

module _ {D : Type 0} (moment : D → ℕ) (left_since : D → ℕ → List ℕ → Type 0) (seen : D → List ℕ) (may_leave : D → List ℕ → Type 0) (store : Store D) (s : IsSettled seen may_leave store) where
  pub stands_now : Stands (records_in store) (text_in seen store) (seen store.disk)
  stands_now = record { records = s.records; start = refl }

  -- bytes in which an append may have changed its own alone have their first record where it was
  pub base_kept : (n : ℕ) (c : List ℕ) → LeavesOthers (IsInRecord store.gate n) (seen store.disk) c → base_of c ≡ base_of (seen store.disk)
  base_kept n c leaves = base-same c (seen store.disk) (same_number_lists (take 288 c) (take 288 (seen store.disk)) (long_new ∙ sym long_old) each)
    where
      low : 288 ≤ store.gate
      low = gate_low (records_in store) (text_in seen store) (seen store.disk) store.gate stands_now s.end

      within : store.gate + 1 ≤ length (seen store.disk)
      within = gate_within (records_in store) (text_in seen store) (seen store.disk) store.gate stands_now s.end

      long_old : length (take 288 (seen store.disk)) ≡ 288
      long_old = length-take-le 288 (seen store.disk) (omega (arith, low, within))

      long_new : length (take 288 c) ≡ 288
      long_new = length-take-le 288 c (omega (arith, leaves.long, low, within))

      each : (k : ℕ) → k < length (take 288 c) → get_or (take 288 c) k 0 ≡ get_or (take 288 (seen store.disk)) k 0
      each k lt =
          let few : k < 288 = omega (arith, lt, long_new) in
          get_or-take 288 c k 0 few ∙ leaves.kept k (omega (arith, few, low, within)) (λ own. absurd (omega (arith, own.0, few, low))) ∙ sym (get_or-take 288 (seen store.disk) k 0 few)

  -- and so have bytes in which a call may have changed its own below the base slots, but not their selector
  base_kept_above : (is_own : ℕ → Type 0) → ((i : ℕ) → is_own i → (i ≡ 10) ⊎ (272 ≤ i) → ⊥) → (c : List ℕ) → LeavesOthers is_own (seen store.disk) c → base_of c ≡ base_of (seen store.disk)
  base_kept_above is_own own_below c leaves =
      ap (λ s. from_be_bytes w64 (part (selected s 272 280) 8 c)) (kept_at 10 (omega arith) (λ own. own_below 10 own (inl refl)))
      ∙ ap (from_be_bytes w64) (same_number_lists (part base 8 c) (part base 8 old) (long_part c (omega (arith, leaves.long, long_old)) ∙ sym (long_part old long_old)) each)
    where
      old : List ℕ
      old = seen store.disk

      base : ℕ
      base = base_slot old

      long_old : 288 < length old
      long_old =
          let low = gate_low (records_in store) (text_in seen store) old store.gate stands_now s.end in
          let within = gate_within (records_in store) (text_in seen store) old store.gate stands_now s.end in
          omega (arith, low, within)

      kept_at : (i : ℕ) → i < 288 → (is_own i → ⊥) → slice_index c i ≡ slice_index old i
      kept_at i low free = leaves.kept i (omega (arith, low, long_old)) free

      high : 272 ≤ base
      high = selected-ge (slice_index old 10) 272 280 272 (omega arith) (omega arith)

      low : base ≤ 280
      low = selected-le (slice_index old 10) 272 280 280 (omega arith) (omega arith)

      long_part : (bytes : List ℕ) → 288 < length bytes → length (part base 8 bytes) ≡ 8
      long_part bytes long = length-take-le 8 (drop base bytes) (omega (arith, length-drop base bytes, long, low))

      each : (k : ℕ) → k < length (part base 8 c) → get_or (part base 8 c) k 0 ≡ get_or (part base 8 old) k 0
      each k lt =
          let few : k < 8 = omega (arith, lt, long_part c (omega (arith, leaves.long, long_old))) in
          get_or-take 8 (drop base c) k 0 few ∙ get_or-drop base c k 0
          ∙ kept_at (base + k) (omega (arith, low, few)) (λ own. own_below (base + k) own (inr (omega (arith, high))))
          ∙ sym (get_or-take 8 (drop base old) k 0 few ∙ get_or-drop base old k 0)

  -- as a new start text does
  pub base_kept_by_start : (c : List ℕ) → LeavesOthers (IsInOtherSlot (seen store.disk)) (seen store.disk) c → base_of c ≡ base_of (seen store.disk)
  base_kept_by_start = base_kept_above (IsInOtherSlot (seen store.disk)) own_below
    where
      own_below : (i : ℕ) → IsInOtherSlot (seen store.disk) i → (i ≡ 10) ⊎ (272 ≤ i) → ⊥
      own_below i (inl nine) (inl ten) = omega arith
      own_below i (inl nine) (inr high) = omega arith
      own_below i (inr (from, to)) (inl ten) = omega (arith, from, to, selected-ge (slice_index (seen store.disk) 9) 144 16 16 (omega arith) (omega arith))
      own_below i (inr (from, to)) (inr high) = omega (arith, from, to, selected-le (slice_index (seen store.disk) 9) 144 16 144 (omega arith) (omega arith))

  -- and a change of format
  pub base_kept_by_format : (c : List ℕ) → LeavesOthers (IsFormat store.format) (seen store.disk) c → base_of c ≡ base_of (seen store.disk)
  base_kept_by_format = base_kept_above (IsFormat store.format) own_below
    where
      own_below : (i : ℕ) → IsFormat store.format i → (i ≡ 10) ⊎ (272 ≤ i) → ⊥
      own_below i own (inl ten) = omega (arith, own.1, ten)
      own_below i own (inr high) = omega (arith, own.1, high)

  -- a store is one of format 1 or of format 2
  abbrev reported_format : Bool → ℕ
  reported_format b = if b then 1 else 2

  one_or_two : (b : Bool) → (reported_format b ≡ 1) ⊎ (reported_format b ≡ 2)
  one_or_two true = inl refl
  one_or_two false = inr refl

  formats : (store.format ≡ 1) ⊎ (store.format ≡ 2)
  formats = ⊎_elim (λ one. inl (s.format ∙ one)) (λ two. inr (s.format ∙ two)) (one_or_two (slice_index (seen store.disk) 11 == 0))

  pub format_1 : (store.format ≡ 2 → ⊥) → store.format ≡ 1
  format_1 other = ⊎_elim (λ one. one) (λ two. absurd (other two)) formats

  -- Bytes in which the byte that gives the format is as it was have the format that they had.
  format_kept : (c : List ℕ) → (11 < length (seen store.disk) → slice_index c 11 ≡ slice_index (seen store.disk) 11) → format_of c ≡ store.format
  format_kept c same =
      let low = gate_low (records_in store) (text_in seen store) (seen store.disk) store.gate stands_now s.end in
      let within = gate_within (records_in store) (text_in seen store) (seen store.disk) store.gate stands_now s.end in
      format_same c (seen store.disk) (same (omega (arith, low, within))) ∙ sym s.format

  -- An append, a new start text and a compaction keep the format of the store.
  pub format_kept_by_record : (n : ℕ) (c : List ℕ) → LeavesOthers (IsInRecord store.gate n) (seen store.disk) c → format_of c ≡ store.format
  format_kept_by_record n c leaves =
      let low = gate_low (records_in store) (text_in seen store) (seen store.disk) store.gate stands_now s.end in
      format_kept c (λ long. leaves.kept 11 long (λ own. omega (arith, low, own.0)))

  pub format_kept_by_start : (c : List ℕ) → LeavesOthers (IsInOtherSlot (seen store.disk)) (seen store.disk) c → format_of c ≡ store.format
  format_kept_by_start c leaves = format_kept c (λ long. leaves.kept 11 long apart)
    where
      apart : IsInOtherSlot (seen store.disk) 11 → ⊥
      apart (inl nine) = omega (arith, nine)
      apart (inr (from, to)) = omega (arith, from, selected-ge (slice_index (seen store.disk) 9) 144 16 16 (omega arith) (omega arith))

  pub format_kept_in_compaction : (n : ℕ) (c : List ℕ) → KeepsOthers (IsInCompaction (seen store.disk) (image_place store.base (store.gate + 1) n) n) (seen store.disk) c → format_of c ≡ store.format
  format_kept_in_compaction n c keeps = format_kept c (λ long. (keeps.there 11 long apart).1)
    where
      past : 288 ≤ store.gate
      past = gate_low (records_in store) (text_in seen store) (seen store.disk) store.gate stands_now s.end

      low : (b : Bool) → 288 ≤ (if b then 288 else store.gate + 1)
      low true = omega arith
      low false = omega (arith, past)

      apart : IsInCompaction (seen store.disk) (image_place store.base (store.gate + 1) n) n 11 → ⊥
      apart (inl (inl ten)) = omega (arith, ten)
      apart (inl (inr (from, to))) = omega (arith, from, selected-ge (slice_index (seen store.disk) 10) 280 272 272 (omega arith) (omega arith))
      apart (inr (from, to)) = omega (arith, from, low (nat_le (288 + (6 + n)) store.base))

  -- A change of format leaves the format that they had, or format 2.
  pub format_kept_or_2 : (c : List ℕ) → LeavesOthers (IsFormat store.format) (seen store.disk) c → (format_of c ≡ store.format) ⊎ (format_of c ≡ 2)
  format_kept_or_2 c leaves = ⊎_elim from_1 from_2 formats
    where
      from_1 : store.format ≡ 1 → (format_of c ≡ store.format) ⊎ (format_of c ≡ 2)
      from_1 is = ⊎_elim (λ one. inl (one ∙ sym is)) (λ two. inr two) (one_or_two (slice_index c 11 == 0))

      from_2 : store.format ≡ 2 → (format_of c ≡ store.format) ⊎ (format_of c ≡ 2)
      from_2 is = inl (format_kept c (λ long. leaves.kept 11 long (λ own. omega (arith, own.0, is))))

  -- each image of its disk now is a store that stands
  pub each_now : (c : List ℕ) → may_leave store.disk c → Stands (records_in store) (text_in seen store) c
  each_now c now = subst (Stands (records_in store) (text_in seen store)) (sym (s.durable c now)) stands_now

  -- before the first call on its disk
  pub resting : (P : List ℕ → Type 0) → ((c : List ℕ) → Stands (records_in store) (text_in seen store) c → P c) → ((c : List ℕ) → left_since store.disk (moment store.disk) c → may_leave store.disk c)
      → LeavesOnly moment left_since store.disk store.disk P
  resting P implies only_now = started moment left_since store.disk P (λ c left. implies c (each_now c (only_now c left)))

  module _ (body bytes : List ℕ) (short : length body ≤ 16777216) (spelled : bytes ≡ record_bytes body ++ 0 ∷ []) where
    abbrev Either : List ℕ → Type 0
    Either = StandsEither (records_in store) body (text_in seen store)

    -- the record's bytes are written after the closed gate
    abbrev with_body : List ℕ
    with_body = overwritten (store.gate + 1) bytes (seen store.disk)

    staged_now : Staged (records_in store) (text_in seen store) body store.gate (seen store.disk) with_body
    staged_now = staged (records_in store) (text_in seen store) body (seen store.disk) with_body bytes store.gate stands_now s.end spelled refl

    -- then the gate is opened
    pub after_append : (new : D) → LeavesOnly moment left_since store.disk new (IsTornInSteps (may_leave store.disk) (store.gate + 1) bytes store.gate (seen store.disk)) → LeavesOnly moment left_since store.disk new Either
    after_append new leaves = weakened moment left_since store.disk new _ Either each leaves
      where
        each : (c : List ℕ) → IsTornInSteps (may_leave store.disk) (store.gate + 1) bytes store.gate (seen store.disk) c → Either c
        each c (inl first) = first_leaves (records_in store) (text_in seen store) body (seen store.disk) store.gate (length bytes) (may_leave store.disk) stands_now s.end s.durable c first
        each c (inr second) = second_leaves (records_in store) (text_in seen store) body (seen store.disk) with_body store.gate (λ d. d ≡ with_body) short staged_now (λ d is. is) c second

    pub appended_now : (new : D) → seen new ≡ overwritten store.gate (1 ∷ []) with_body → Appended (records_in store) (text_in seen store) body store.gate (seen store.disk) (seen new)
    appended_now new opened = appended (records_in store) (text_in seen store) body (seen store.disk) with_body (seen new) store.gate short staged_now opened

  -- a call that writes nothing
  pub after_reading : (new : D) → ((c : List ℕ) → left_since store.disk (moment store.disk) c → may_leave store.disk c) → Elapses (moment store.disk) (moment new) (left_since store.disk) (left_since new) (may_leave new) → Within (may_leave store.disk) (may_leave new)
      → LeavesOnly moment left_since store.disk new (Stands (records_in store) (text_in seen store))
  after_reading new only_now time within =
      goes_on moment left_since store.disk store.disk new (Stands (records_in store) (text_in seen store)) (may_leave new) (resting (Stands (records_in store) (text_in seen store)) (λ c here. here) only_now) time (λ c now. each_now c (within c now))

  -- the slot that the store will choose
  abbrev second : Bool
  second = not store.second_start

  module _ (slot text : List ℕ) (few : length text ≤ 127) (spelled : slot ≡ slot_with text) (place : ℕ) (at : place ≡ slot_place second) where
    abbrev WithEither : List ℕ → Type 0
    WithEither = StandsWithEither (records_in store) (text_in seen store) (slot_with text)

    long : length (slot_with text) ≡ 128
    long = omega (arith, length-append text (replicate (127 - length text) 0), length-replicate {A = ℕ} (127 - length text) 0)

    counted_slot : (slice_index (seen store.disk) 9 == 1) ≡ not second
    counted_slot = sym s.start ∙ twice store.second_start
      where
        twice : (b : Bool) → b ≡ not (not b)
        twice true = refl
        twice false = refl

    -- the slot that doesn't count is written
    abbrev with_slot : List ℕ
    with_slot = overwritten place slot (seen store.disk)

    slotted_now : Slotted second (records_in store) (text_in seen store) (slot_with text) (seen store.disk) with_slot
    slotted_now = slotted second (slot_with text) (seen store.disk) with_slot (records_in store) (text_in seen store) long stands_now counted_slot (λ i. overwritten (at i) (spelled i) (seen store.disk))

    -- then the selector
    pub after_start : (new : D) → LeavesOnly moment left_since store.disk new (IsTornInSteps (may_leave store.disk) place slot 9 (seen store.disk)) → LeavesOnly moment left_since store.disk new WithEither
    after_start new leaves = weakened moment left_since store.disk new _ WithEither each leaves
      where
        size : length slot ≡ 128
        size = ap length spelled ∙ long

        each : (c : List ℕ) → IsTornInSteps (may_leave store.disk) place slot 9 (seen store.disk) c → WithEither c
        each c (inl first) =
            slot_leaves second (records_in store) (text_in seen store) (slot_with text) (seen store.disk) (may_leave store.disk) stands_now counted_slot s.durable c
            (subst (λ n. IsTornFrom (may_leave store.disk) (slot_place second) n c) size (subst (λ q. IsTornFrom (may_leave store.disk) q (length slot) c) at first))
        each c (inr next) = selector_leaves second (records_in store) (text_in seen store) (slot_with text) (seen store.disk) with_slot (λ d. d ≡ with_slot) slotted_now (λ d is. is) c next

    pub selected_slot : (new : D) (byte : ℕ) → byte ≡ (if second then 1 else 0) → seen new ≡ overwritten 9 (byte ∷ []) with_slot → Selected second (records_in store) (slot_with text) (seen store.disk) (seen new)
    selected_slot new byte is next = selected_now second (records_in store) (text_in seen store) (slot_with text) (seen store.disk) with_slot (seen new) byte (ap (λ b. b == 1) is ∙ chooses second) slotted_now next
      where
        chooses : (b : Bool) → ((if b then 1 else 0) == 1) ≡ b
        chooses true = refl
        chooses false = refl

-- A creation has touched nothing but the gate of the store.
pub touched : {D : Type 0} (moment : D → ℕ) (left_since : D → ℕ → List ℕ → Type 0) (may_leave : D → List ℕ → Type 0) (old mid new : D) → LeavesOnly moment left_since old mid (may_leave old) → Within (may_leave old) (may_leave mid)
    → LeavesOnly moment left_since mid new (IsTornFrom (may_leave mid) 0 1) → LeavesOnly moment left_since old new (IsTornFrom (may_leave old) 0 1)
touched moment left_since may_leave old mid new first within second =
    joined moment left_since old mid new _ (weakened moment left_since old mid _ _ (λ c now. inl now) first) (weakened moment left_since mid new _ _ from_old second)
  where
    from_old : (c : List ℕ) → IsTornFrom (may_leave mid) 0 1 c → IsTornFrom (may_leave old) 0 1 c
    from_old c (inl now) = inl (within c now)
    from_old c (inr torn) = inr (torn.0, within torn.0 torn.1, torn.2)
