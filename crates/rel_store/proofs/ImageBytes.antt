-- What a compaction leaves of the bytes that are not its own.
use Rattle.std.proofs.Common.{◌≡◌, ◌⊎◌, inl, inr, ℕ, ◌+◌, ◌<◌, ◌≤◌, Bool, true, false, not, List, [], ◌∷◌, length, length-append, refl, sym, ◌∙◌, ap, subst, arith}
use Rattle.std.specs.Prelude.{if◌then◌else◌, slice_index}
use Rattle.std.specs.Int.{w64, to_be_bytes}
use Rattle.std.proofs.lemmas.Bool.{cases_lt}
use Rattle.rel_disk.specs.Damage.{overwritten, Torn, Cut, Only}
use Rattle.rel_disk.specs.Moments.{LeavesOnly}
use Rattle.rel_disk.proofs.Moments.{started, weakened}
use Rattle.rel_disk.proofs.PlaceLemmas.{cut_keeps}
use Rattle.rel_store.specs.Changed.{LeavesOthers, KeepsOthers, IsInCompaction}
use Rattle.rel_store.specs.Compaction.{image_bytes, base_place, base_choice, with_base_in, IsTornInCompaction}
use Rattle.rel_store.specs.Layout.{other_base_slot}
use Rattle.rel_store.specs.Records.{record_bytes}
use Rattle.rel_store.specs.State.{IsSettled}
use Rattle.rel_store.specs.declared.store.Store.{Store}
use Rattle.rel_store.proofs.Ownership.{Owns, untouched, both, torn_leaves, written_leaves}
use Rattle.rel_store.proofs.ReadLemmas.{length-record}

no_shorter : (is_own : ℕ → Type 0) (old c : List ℕ) → LeavesOthers is_own old c → KeepsOthers is_own old c
no_shorter is_own old c leaves = record { there = λ i lt others. (omega (arith, lt, leaves.long), leaves.kept i lt others) }

module _ (is_own : ℕ → Type 0) (second : Bool) (place : ℕ) (bytes old : List ℕ) (own_image : Owns is_own place (length bytes)) (own_slot : Owns is_own (base_place second) 8) (own_selector : Owns is_own 10 1)
    (own_rest : place ≡ 288 → (i : ℕ) → 288 ≤ i → is_own i) where
  abbrev imaged : List ℕ
  imaged = overwritten place bytes old

  abbrev with_place : List ℕ
  with_place = overwritten (base_place second) (to_be_bytes w64 place) imaged

  abbrev chosen : List ℕ
  chosen = with_base_in second place imaged

  with_image_leaves : LeavesOthers is_own old imaged
  with_image_leaves = written_leaves is_own place bytes old imaged own_image refl

  with_place_leaves : LeavesOthers is_own old with_place
  with_place_leaves = both is_own old imaged with_place with_image_leaves (written_leaves is_own (base_place second) (to_be_bytes w64 place) imaged with_place own_slot refl)

  chosen_leaves : LeavesOthers is_own old chosen
  chosen_leaves = both is_own old with_place chosen with_place_leaves (written_leaves is_own 10 (base_choice second ∷ []) with_place chosen own_selector refl)

  -- what is cut off is the call's own
  cut_leaves : (c : List ℕ) (n : ℕ) → place ≡ 288 → Cut (288 + n) chosen c → KeepsOthers is_own old c
  cut_leaves c n first cut = record { there = λ i lt others. side i lt others (cases_lt i 288) }
    where
      side : (i : ℕ) → i < length old → (is_own i → ⊥) → (i < 288) ⊎ (288 ≤ i) → (i < length c) × (slice_index c i ≡ slice_index old i)
      side i lt others (inl below) =
          let keeps = cut_keeps (288 + n) chosen c cut in
          let within : i < length chosen = omega (arith, lt, chosen_leaves.long) in
          (omega (arith, below, within, keeps.long), keeps.kept i (omega (arith, below)) within ∙ chosen_leaves.kept i lt others)
      side i lt others (inr behind) = absurd (others (own_rest first i behind))

  pub each_leaves : (images : List ℕ → Type 0) → Only old images → (c : List ℕ) → IsTornInCompaction images second place bytes old c → KeepsOthers is_own old c
  each_leaves images only c (inl (inl now)) = no_shorter is_own old c (subst (LeavesOthers is_own old) (sym (only c now)) (untouched is_own old))
  each_leaves images only c (inl (inr torn)) = no_shorter is_own old c (torn_leaves is_own place (length bytes) old c own_image (subst (λ d. Torn place (length bytes) d c) (only torn.0 torn.1) torn.2))
  each_leaves images only c (inr (inl (inl (inl now)))) = no_shorter is_own old c (subst (LeavesOthers is_own old) (sym now) with_image_leaves)
  each_leaves images only c (inr (inl (inl (inr torn)))) =
      no_shorter is_own old c (both is_own old imaged c with_image_leaves (torn_leaves is_own (base_place second) 8 imaged c own_slot (subst (λ d. Torn (base_place second) 8 d c) torn.1 torn.2)))
  each_leaves images only c (inr (inl (inr (inl now)))) = no_shorter is_own old c (subst (LeavesOthers is_own old) (sym now) with_place_leaves)
  each_leaves images only c (inr (inl (inr (inr torn)))) =
      no_shorter is_own old c (both is_own old with_place c with_place_leaves (torn_leaves is_own 10 1 with_place c own_selector (subst (λ d. Torn 10 1 d c) torn.1 torn.2)))
  each_leaves images only c (inr (inr (first, inl now))) = no_shorter is_own old c (subst (LeavesOthers is_own old) (sym now) chosen_leaves)
  each_leaves images only c (inr (inr (first, inr cut))) = cut_leaves c (length bytes) first (subst (λ d. Cut (288 + length bytes) d c) cut.1 cut.2)

-- the disk of a settled store at the moments of a compaction, and before its first write
module _ {D : Type 0} (moment : D → ℕ) (left_since : D → ℕ → List ℕ → Type 0) (seen : D → List ℕ) (may_leave : D → List ℕ → Type 0) (store : Store D) (s : IsSettled seen may_leave store) where
  abbrev now : List ℕ
  now = seen store.disk

  pub others_now : (is_own : ℕ → Type 0) → ((c : List ℕ) → left_since store.disk (moment store.disk) c → may_leave store.disk c) → LeavesOnly moment left_since store.disk store.disk (KeepsOthers is_own now)
  others_now is_own only_now = started moment left_since store.disk (KeepsOthers is_own now) (λ c left. no_shorter is_own now c (subst (LeavesOthers is_own now) (sym (s.durable c (only_now c left))) (untouched is_own now)))

  pub others_leave : (image : List ℕ) (place : ℕ) (new : D) (spelled : List ℕ) → spelled ≡ image_bytes image → LeavesOnly moment left_since store.disk new (IsTornInCompaction (may_leave store.disk) (not store.second_base) place spelled now)
      → LeavesOnly moment left_since store.disk new (KeepsOthers (IsInCompaction now place (length image)) now)
  others_leave image place new spelled is leaves = weakened moment left_since store.disk new _ _ (each_leaves own (not store.second_base) place spelled now own_image own_slot own_selector own_rest (may_leave store.disk) s.durable) leaves
    where
      own : ℕ → Type 0
      own = IsInCompaction now place (length image)

      own_image : Owns own place (length spelled)
      own_image = λ i from within. inr (from, inr (omega (arith, within, ap length is, length-append (record_bytes image) (0 ∷ []), length-record image)))

      slot_is : base_place (not store.second_base) ≡ other_base_slot now
      slot_is = turned store.second_base ∙ ap (λ (b : Bool). if b then 272 else 280) s.chooses
        where
          turned : (b : Bool) → base_place (not b) ≡ (if b then 272 else 280)
          turned true = refl
          turned false = refl

      own_slot : Owns own (base_place (not store.second_base)) 8
      own_slot = λ i from within. inl (inr (omega (arith, from, slot_is), omega (arith, within, slot_is)))

      own_selector : Owns own 10 1
      own_selector = λ i from within. inl (inl (omega (arith, from, within)))

      own_rest : place ≡ 288 → (i : ℕ) → 288 ≤ i → own i
      own_rest first i low = inr (omega (arith, first, low), inl first)
