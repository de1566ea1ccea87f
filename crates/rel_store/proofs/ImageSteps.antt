-- The steps of a compaction: what a crash may leave of each, and what stands after them.
use Rattle.std.proofs.Common.{◌≡◌, ◌≢◌, inl, inr, ℕ, ◌+◌, ◌^◌, ◌<◌, ◌≤◌, Bool, true, false, not, List, [], ◌∷◌, length, length-append, take, Ok, refl, sym, ◌∙◌, ap, subst, arith}
use Rattle.std.specs.Prelude.{if◌then◌else◌, ◌==◌, nat_le, nat_eq, slice_index}
use Rattle.std.specs.Int.{w64, to_be_bytes}
use Rattle.std.proofs.lemmas.Bool.{cases_eq}
use Rattle.std.proofs.lemmas.Bool.Decides.{nat_tests}
use Rattle.std.proofs.lemmas.List.{append-nil}
use Rattle.rel_disk.specs.Damage.{overwritten, Torn, Cut, Only}
use Rattle.rel_disk.specs.ImageLaws.{overwritten_is_torn}
use Rattle.rel_disk.specs.Moments.{LeavesOnly}
use Rattle.rel_disk.proofs.Moments.{started, joined, weakened}
use Rattle.rel_store.specs.Compaction.{image_place, image_end, FitsImage, StandsOrImage, EndsEither, image_bytes, with_base, cut_behind, compacted, base_place, base_choice, with_base_in, IsCutFrom, IsTornInCompaction}
use Rattle.rel_store.specs.Layout.{selected, base_of}
use Rattle.rel_store.specs.Moments.{IsTornFrom, IsTornInSteps}
use Rattle.rel_store.specs.Records.{record_bytes, records_or_none, end_of, Stands, space}
use Rattle.rel_store.specs.State.{records_in, text_in, has_failed, IsSettled}
use Rattle.rel_store.specs.declared.store.Store.{Store}
use Rattle.rel_store.proofs.Append.{one, gate_low, gate_within}
use Rattle.rel_store.proofs.Bases.{IsFree, torn_free, image_written, layout_kept, Keeps, Waits, base_slot_kept, Offered, offered, Moved, moved_stands, format_index_kept, start_index_kept, choice_now, moved, either, cut_layout, cut_moved}
use Rattle.rel_store.proofs.Layouts.{format_same}
use Rattle.rel_store.proofs.Moments.{stands_now}
use Rattle.rel_store.proofs.ReadLemmas.{length-record}
use Rattle.rel_store.proofs.Slots.{Patched, patched_torn, patched_written, index-before}
use Rattle.rel_store.proofs.Whole.{sound, index-same}

-- images that are among others, with the same damage
steps_among : (images others : List ℕ → Type 0) (at : ℕ) (bytes : List ℕ) (mark : ℕ) (old : List ℕ) → ((d : List ℕ) → images d → others d) → (c : List ℕ) → IsTornInSteps images at bytes mark old c → IsTornInSteps others at bytes mark old c
steps_among images others at bytes mark old among c (inl (inl now)) = inl (inl (among c now))
steps_among images others at bytes mark old among c (inl (inr torn)) = inl (inr (torn.0, among torn.0 torn.1, torn.2))
steps_among images others at bytes mark old among c (inr next) = inr next

-- A record is written and synced, then the base, and a disk on which the record stands at 288 is cut.
module _ {D : Type 0} (moment : D → ℕ) (left_since : D → ℕ → List ℕ → Type 0) (seen : D → List ℕ) (may_leave : D → List ℕ → Type 0) (second : Bool) (place : ℕ) (bytes : List ℕ) (old mid : D)
    (first : LeavesOnly moment left_since old mid (IsTornFrom (may_leave old) place (length bytes))) (written : seen mid ≡ overwritten place bytes (seen old)) (durable : Only (seen mid) (may_leave mid)) where
  abbrev Leaves : List ℕ → Type 0
  Leaves = IsTornInCompaction (may_leave old) second place bytes (seen old)

  abbrev with_record : List ℕ
  with_record = overwritten place bytes (seen old)

  pub after_base : (new : D) (slot : ℕ) (spelled : List ℕ) → slot ≡ base_place second → spelled ≡ to_be_bytes w64 place → LeavesOnly moment left_since mid new (IsTornInSteps (may_leave mid) slot spelled 10 (seen mid)) → LeavesOnly moment left_since old new Leaves
  after_base new slot spelled at is leaves = joined moment left_since old mid new Leaves (weakened moment left_since old mid _ Leaves (λ c torn. inl torn) first) (weakened moment left_since mid new _ Leaves each leaves)
    where
      each : (c : List ℕ) → IsTornInSteps (may_leave mid) slot spelled 10 (seen mid) c → Leaves c
      each c torn =
          let there = subst (λ q. IsTornInSteps (may_leave mid) q spelled 10 (seen mid) c) at torn in
          let reported = subst (λ l. IsTornInSteps (may_leave mid) (base_place second) l 10 (seen mid) c) is there in
          let from = subst (λ l. IsTornInSteps (may_leave mid) (base_place second) (to_be_bytes w64 place) 10 l c) written reported in
          inr (inl (steps_among (may_leave mid) (λ d. d ≡ with_record) (base_place second) (to_be_bytes w64 place) 10 with_record (λ d now. durable d now ∙ written) c from))

  pub base_written : (slot : ℕ) (spelled : List ℕ) (byte : ℕ) (new : List ℕ) → slot ≡ base_place second → spelled ≡ to_be_bytes w64 place → byte ≡ base_choice second → new ≡ overwritten 10 (byte ∷ []) (overwritten slot spelled (seen mid)) → new ≡ with_base_in second place with_record
  base_written slot spelled byte new at is chooses next =
      next
      ∙ ap (λ b. overwritten 10 (b ∷ []) (overwritten slot spelled (seen mid))) chooses
      ∙ ap (λ q. overwritten 10 (base_choice second ∷ []) (overwritten q spelled (seen mid))) at
      ∙ ap (λ l. overwritten 10 (base_choice second ∷ []) (overwritten (base_place second) l (seen mid))) is
      ∙ ap (λ l. with_base_in second place l) written

  pub after_cut : (next new : D) → place ≡ 288 → LeavesOnly moment left_since old next Leaves → seen next ≡ with_base_in second place with_record → Only (seen next) (may_leave next) → LeavesOnly moment left_since next new (IsCutFrom (may_leave next) (288 + length bytes))
      → LeavesOnly moment left_since old new Leaves
  after_cut next new low so_far is only leaves = joined moment left_since old next new Leaves so_far (weakened moment left_since next new _ Leaves each leaves)
    where
      each : (c : List ℕ) → IsCutFrom (may_leave next) (288 + length bytes) c → Leaves c
      each c (inl now) = inr (inr (low, inl (only c now ∙ is)))
      each c (inr cut) = inr (inr (low, inr (cut.0, only cut.0 cut.1 ∙ is, cut.2)))

-- After all steps the image is the only record, and nothing of the layout has changed but the bases and their selector.
pub record Replaced (second : Bool) (place : ℕ) (image text old new : List ℕ) : Type 0 where
  pub moved : Moved place image text new
  pub start : slice_index new 9 ≡ slice_index old 9
  pub choice : (slice_index new 10 == 1) ≡ second
  pub kind : slice_index new 11 ≡ slice_index old 11
  pub is : new ≡ compacted place image old

-- the steps on the bytes of a store that stands
module _ (second : Bool) (bodies : List (List ℕ)) (text : List ℕ) (gate place : ℕ) (image old : List ℕ) (here : Stands bodies text old) (at : gate ≡ base_of old + space bodies) (free : IsFree (base_of old) gate (length (image_bytes image)) place)
    (counts : (slice_index old 10 == 1) ≡ not second) (short : length image ≤ 16777216) (low : 288 ≤ place) (few : place < 2 ^ 64) (within : place ≤ length old) where
  abbrev bytes : List ℕ
  bytes = image_bytes image

  abbrev imaged : List ℕ
  imaged = overwritten place bytes old

  same_index : (i : ℕ) → i < 288 → slice_index imaged i ≡ slice_index old i
  same_index i lt = index-same i 288 imaged old lt (layout_kept place image old low within)

  imaged_kept : Keeps bodies text old imaged
  imaged_kept = torn_free bodies text old imaged gate (length bytes) place here at free (overwritten_is_torn place bytes old)

  waits_now : Waits second bodies text place image imaged
  waits_now = record {
    here = imaged_kept.here;
    counts = ap (λ b. b == 1) (same_index 10 (omega arith)) ∙ counts;
    placed = image_written place image old low within;
  }

  long : 289 ≤ length imaged
  long = (sound imaged bodies waits_now.here.records).long

  abbrev with_place : List ℕ
  with_place = overwritten (base_place second) (to_be_bytes w64 place) imaged

  offered_now : Offered second bodies text place image imaged with_place
  offered_now = offered second bodies text place image imaged with_place waits_now refl

  offered_long : 289 ≤ length with_place
  offered_long = (sound with_place bodies offered_now.waits.here.records).long

  abbrev chosen : List ℕ
  chosen = with_base_in second place imaged

  patched_now : Patched 10 1 (base_choice second ∷ []) with_place chosen
  patched_now = patched_written 10 (base_choice second ∷ []) with_place chosen (omega (arith, offered_long)) refl

  chooses : (b : Bool) → (base_choice b == 1) ≡ b
  chooses true = refl
  chooses false = refl

  moved_now : Moved place image text chosen
  moved_now = moved second bodies text place image imaged with_place chosen (base_choice second) offered_now patched_now few (chooses second)

  -- where the one store ends, and the other
  abbrev Either : List ℕ → Type 0
  Either = EndsEither bodies (gate + 1) image (place + (6 + length image)) text

  the_old : (c : List ℕ) → Stands bodies text c → base_of c ≡ base_of old → Either c
  the_old c stands base = inl (stands, ap (λ r. (base_of c + space (records_or_none r)) + 1) stands.records ∙ ap (λ b. (b + space bodies) + 1) base ∙ ap (λ e. e + 1) (sym at))

  the_image : (c : List ℕ) → Moved place image text c → Either c
  the_image c m =
      let stands = moved_stands place image text c short m in
      let end : (place + space (image ∷ [])) + 1 ≡ place + (6 + length image) = omega arith in
      inr (stands, ap (λ r. (base_of c + space (records_or_none r)) + 1) stands.records ∙ ap (λ b. (b + space (image ∷ [])) + 1) m.base ∙ end)

  pub each_step : (images : List ℕ → Type 0) → Only old images → (c : List ℕ) → IsTornInCompaction images second place bytes old c → Either c
  each_step images only c (inl (inl now)) = subst Either (sym (only c now)) (the_old old here refl)
  each_step images only c (inl (inr torn)) =
      let k = torn_free bodies text old c gate (length bytes) place here at free (subst (λ d. Torn place (length bytes) d c) (only torn.0 torn.1) torn.2) in
      the_old c k.here k.base
  each_step images only c (inr (inl (inl (inl now)))) = subst Either (sym now) (the_old imaged waits_now.here imaged_kept.base)
  each_step images only c (inr (inl (inl (inr torn)))) =
      let from = subst (λ d. Torn (base_place second) 8 d c) torn.1 torn.2 in
      let k = base_slot_kept second from.middle imaged c bodies text waits_now.here waits_now.counts (patched_torn (base_place second) 8 imaged c (room second) from) in
      the_old c k.here (k.base ∙ imaged_kept.base)
    where
      room : (b : Bool) → base_place b + 8 ≤ length imaged
      room true = omega (arith, long)
      room false = omega (arith, long)
  each_step images only c (inr (inl (inr (inl now)))) = subst Either (sym now) (the_old with_place offered_now.waits.here (offered_now.base ∙ imaged_kept.base))
  each_step images only c (inr (inl (inr (inr torn)))) =
      let from = subst (λ d. Torn 10 1 d c) torn.1 torn.2 in
      let byte = one from.middle (omega (arith, from.long, offered_long)) in
      let p : Patched 10 1 (byte.0 ∷ []) with_place c = subst (λ l. Patched 10 1 l with_place c) byte.1 (patched_torn 10 1 with_place c (omega (arith, offered_long)) from) in
      elim (either second bodies text place image imaged with_place c byte.0 offered_now p few) [ inl k ↦ the_old c k.here (k.base ∙ offered_now.base ∙ imaged_kept.base) | inr m ↦ the_image c m ]
  each_step images only c (inr (inr (first, inl now))) = subst Either (sym now) (the_image chosen moved_now)
  each_step images only c (inr (inr (first, inr cut))) =
      let from = subst (λ d. Cut (288 + length bytes) d c) cut.1 cut.2 in
      let m = subst (λ q. Moved q image text chosen) first moved_now in
      the_image c (subst (λ q. Moved q image text c) (sym first) (cut_moved image text chosen c m from))

  same_base : chosen ≡ with_base place imaged
  same_base =
      ap (λ q. overwritten 10 (base_choice second ∷ []) (overwritten q (to_be_bytes w64 place) imaged)) (other_place second waits_now.counts)
      ∙ ap (λ b. overwritten 10 (b ∷ []) (overwritten (selected (slice_index imaged 10) 280 272) (to_be_bytes w64 place) imaged)) (other_choice second waits_now.counts)
    where
      other_place : (b : Bool) → (slice_index imaged 10 == 1) ≡ not b → base_place b ≡ selected (slice_index imaged 10) 280 272
      other_place true is = sym (ap (λ t. if t then 272 else 280) is)
      other_place false is = sym (ap (λ t. if t then 272 else 280) is)

      other_choice : (b : Bool) → (slice_index imaged 10 == 1) ≡ not b → base_choice b ≡ selected (slice_index imaged 10) 1 0
      other_choice true is = sym (ap (λ t. if t then 0 else 1) is)
      other_choice false is = sym (ap (λ t. if t then 0 else 1) is)

  -- the place is written after the selectors and the format
  before_slot : (i : ℕ) → i ≤ 11 → slice_index with_place i ≡ slice_index old i
  before_slot i low = index-before (base_place second) 8 (to_be_bytes w64 place) imaged with_place slot_now i (omega (arith, low, high second)) ∙ same_index i (omega (arith, low))
    where
      high : (b : Bool) → 272 ≤ base_place b
      high true = omega arith
      high false = omega arith

      low_place : (b : Bool) → base_place b ≤ 280
      low_place true = omega arith
      low_place false = omega arith

      slot_now : Patched (base_place second) 8 (to_be_bytes w64 place) imaged with_place
      slot_now = patched_written (base_place second) (to_be_bytes w64 place) imaged with_place (omega (arith, low_place second, long)) refl

  start_now : slice_index chosen 9 ≡ slice_index old 9
  start_now = start_index_kept second bodies text place image imaged with_place chosen (base_choice second) offered_now patched_now ∙ before_slot 9 (omega arith)

  kind_now : slice_index chosen 11 ≡ slice_index old 11
  kind_now = format_index_kept second bodies text place image imaged with_place chosen (base_choice second) offered_now patched_now ∙ before_slot 11 (omega arith)

  choice_chosen : (slice_index chosen 10 == 1) ≡ second
  choice_chosen = ap (λ b. b == 1) (choice_now second bodies text place image imaged with_place chosen (base_choice second) offered_now patched_now) ∙ chooses second

  pub replaced : (new : List ℕ) → new ≡ cut_behind place (length bytes) chosen → Replaced second place image text old new
  replaced new is = elim (cases_eq place 288) [ inl first ↦ cut first | inr past ↦ whole past ]
    where
      whole : place ≢ 288 → Replaced second place image text old new
      whole past =
          let all : new ≡ chosen = is ∙ ap (λ b. if b then take (288 + length bytes) chosen else chosen) (unequal past) in
          record {
            moved = subst (Moved place image text) (sym all) moved_now;
            start = ap (λ l. slice_index l 9) all ∙ start_now;
            choice = ap (λ l. slice_index l 10 == 1) all ∙ choice_chosen;
            kind = ap (λ l. slice_index l 11) all ∙ kind_now;
            is = is ∙ ap (cut_behind place (length bytes)) same_base;
          }
        where
          unequal : place ≢ 288 → nat_eq place 288 ≡ false
          unequal past = grind (arith, nat_tests)

      cut : place ≡ 288 → Replaced second place image text old new
      cut first =
          let kept = take (288 + length bytes) chosen in
          let equal : nat_eq place 288 ≡ true = grind (arith, nat_tests) in
          let all : new ≡ kept = is ∙ ap (λ b. if b then kept else chosen) equal in
          let m = subst (λ q. Moved q image text chosen) first moved_now in
          let c : Cut (288 + length bytes) chosen new = record { tail = []; is = all ∙ sym (append-nil kept) } in
          let same = cut_layout image text chosen new m c in
          record {
            moved = subst (λ q. Moved q image text new) (sym first) (cut_moved image text chosen new m c);
            start = index-same 9 288 new chosen (omega arith) same ∙ start_now;
            choice = ap (λ b. b == 1) (index-same 10 288 new chosen (omega arith) same) ∙ choice_chosen;
            kind = index-same 11 288 new chosen (omega arith) same ∙ kind_now;
            is = is ∙ ap (cut_behind place (length bytes)) same_base;
          }

-- A settled store whose image fits, and the place where it is put.
module _ {D : Type 0} (moment : D → ℕ) (left_since : D → ℕ → List ℕ → Type 0) (seen : D → List ℕ) (may_leave : D → List ℕ → Type 0) (store : Store D) (s : IsSettled seen may_leave store) (image : List ℕ) (place : ℕ)
    (at : place ≡ image_place store.base (store.gate + 1) (length image)) (fits : FitsImage store.base (store.gate + 1) (length image)) where
  abbrev now : List ℕ
  now = seen store.disk

  abbrev second : Bool
  second = not store.second_base

  here_now : Stands (records_in store) (text_in seen store) now
  here_now = stands_now moment left_since seen may_leave store s

  size : length (image_bytes image) ≡ 6 + length image
  size = omega (arith, length-append (record_bytes image) (0 ∷ []), length-record image)

  free_now : IsFree (base_of now) store.gate (length (image_bytes image)) place
  free_now = go (nat_le (288 + (6 + length image)) store.base) refl at
    where
      ends_below : (n base : ℕ) → nat_le n base ≡ true → n ≤ base
      ends_below n base e = grind (arith, nat_tests)

      go : (b : Bool) → nat_le (288 + (6 + length image)) store.base ≡ b → place ≡ (if b then 288 else store.gate + 1) → IsFree (base_of now) store.gate (length (image_bytes image)) place
      go true below is = inl (is, omega (arith, size, s.base, ends_below (288 + (6 + length image)) store.base below))
      go false past is = inr is

  gate_is_low : 288 ≤ store.gate
  gate_is_low = gate_low (records_in store) (text_in seen store) now store.gate here_now s.end

  gate_is_within : store.gate + 1 ≤ length now
  gate_is_within = gate_within (records_in store) (text_in seen store) now store.gate here_now s.end

  low_now : 288 ≤ place
  low_now = elim free_now [ inl first ↦ omega (arith, first.0) | inr past ↦ omega (arith, past, gate_is_low) ]

  pub within_now : place ≤ length now
  within_now = elim free_now [ inl first ↦ omega (arith, first.0, gate_is_low, gate_is_within) | inr past ↦ omega (arith, past, gate_is_within) ]

  few_now : place < 2 ^ 64
  few_now = omega (arith, at, fits.1)

  counts_now : (slice_index now 10 == 1) ≡ not second
  counts_now = sym s.chooses ∙ twice store.second_base
    where
      twice : (b : Bool) → b ≡ not (not b)
      twice true = refl
      twice false = refl

  -- at each moment one of the two stores stands, and ends where it does
  pub ends_leave : (new : D) (spelled : List ℕ) → spelled ≡ image_bytes image → LeavesOnly moment left_since store.disk new (IsTornInCompaction (may_leave store.disk) second place spelled now)
      → LeavesOnly moment left_since store.disk new (EndsEither (records_in store) (store.gate + 1) image (image_end store.base (store.gate + 1) (length image)) (text_in seen store))
  ends_leave new spelled is leaves = weakened moment left_since store.disk new _ _ each leaves
    where
      each : (c : List ℕ) → IsTornInCompaction (may_leave store.disk) second place spelled now c → EndsEither (records_in store) (store.gate + 1) image (image_end store.base (store.gate + 1) (length image)) (text_in seen store) c
      each c torn =
          subst (λ q. EndsEither (records_in store) (store.gate + 1) image (q + (6 + length image)) (text_in seen store) c) at
          (each_step second (records_in store) (text_in seen store) store.gate place image now here_now s.end free_now counts_now fits.0 low_now few_now within_now (may_leave store.disk) s.durable c
          (subst (λ l. IsTornInCompaction (may_leave store.disk) second place l now c) is torn))

  pub after_compaction : (new : D) (spelled : List ℕ) → spelled ≡ image_bytes image → LeavesOnly moment left_since store.disk new (IsTornInCompaction (may_leave store.disk) second place spelled now) → LeavesOnly moment left_since store.disk new (StandsOrImage (records_in store) image (text_in seen store))
  after_compaction new spelled is leaves = weakened moment left_since store.disk new _ _ (λ c ends. elim ends [ inl old ↦ inl old.0 | inr image ↦ inr image.0 ]) (ends_leave new spelled is leaves)

  pub replaced_now : (new : D) (spelled : List ℕ) → spelled ≡ image_bytes image → seen new ≡ cut_behind place (length spelled) (with_base_in second place (overwritten place spelled now)) → Replaced second place image (text_in seen store) now (seen new)
  replaced_now new spelled is written =
      replaced second (records_in store) (text_in seen store) store.gate place image now here_now s.end free_now counts_now fits.0 low_now few_now within_now (seen new)
      (written ∙ ap (λ l. cut_behind place (length l) (with_base_in second place (overwritten place l now))) is)

  -- what the store is then
  pub settled_now : (new : Store D) → has_failed new ≡ false → Replaced second place image (text_in seen store) now (seen new.disk) → Only (seen new.disk) (may_leave new.disk) → records_in new ≡ image ∷ [] → new.gate ≡ place + (5 + length image) → new.second_start ≡ store.second_start → new.base ≡ place → new.second_base ≡ second → new.format ≡ store.format
      → IsSettled seen may_leave new
  settled_now new works r durable records gate start base choice format =
      let stands = moved_stands place image (text_in seen store) (seen new.disk) fits.0 r.moved in
      let end : place + (5 + length image) ≡ base_of (seen new.disk) + space (image ∷ []) = omega (arith, r.moved.base) in
      record {
        works = works;
        records = stands.records ∙ ap (λ bodies. Ok bodies) (sym records);
        durable = durable;
        end = gate ∙ end ∙ ap (λ bodies. base_of (seen new.disk) + space bodies) (sym records);
        start = start ∙ s.start ∙ ap (λ selector. selector == 1) (sym r.start);
        base = base ∙ sym r.moved.base;
        chooses = choice ∙ sym r.choice;
        format = format ∙ s.format ∙ sym (format_same (seen new.disk) now r.kind);
      }

-- a settled store stands and ends as it did before the first write
pub ends_now : {D : Type 0} (moment : D → ℕ) (left_since : D → ℕ → List ℕ → Type 0) (seen : D → List ℕ) (may_leave : D → List ℕ → Type 0) (store : Store D) (s : IsSettled seen may_leave store) (image : List ℕ) (ends : ℕ) → ((c : List ℕ) → left_since store.disk (moment store.disk) c → may_leave store.disk c)
    → LeavesOnly moment left_since store.disk store.disk (EndsEither (records_in store) (store.gate + 1) image ends (text_in seen store))
ends_now moment left_since seen may_leave store s image ends only_now = started moment left_since store.disk _ each
  where
    here : Stands (records_in store) (text_in seen store) (seen store.disk)
    here = stands_now moment left_since seen may_leave store s

    end : end_of (seen store.disk) ≡ store.gate + 1
    end = ap (λ r. (base_of (seen store.disk) + space (records_or_none r)) + 1) here.records ∙ ap (λ e. e + 1) (sym s.end)

    each : (c : List ℕ) → left_since store.disk (moment store.disk) c → EndsEither (records_in store) (store.gate + 1) image ends (text_in seen store) c
    each c left = subst (EndsEither (records_in store) (store.gate + 1) image ends (text_in seen store)) (sym (s.durable c (only_now c left))) (inl (here, end))
