-- What stands while an image is written, while its place is made the base, and while the disk is cut after it.
use Rattle.std.proofs.Common.{◌≡◌, ◌⊎◌, inl, inr, ℕ, ◌+◌, ◌^◌, ◌<◌, ◌≤◌, Bool, true, false, not, List, [], ◌∷◌, ◌++◌, length, get_or, take, drop, Ok, refl, sym, ◌∙◌, ap, subst, arith, append_assoc, length-append, length-drop}
use Rattle.std.specs.Prelude.{if◌then◌else◌, ◌==◌, slice_index, bytes_eq}
use Rattle.std.specs.Int.{w64, from_be_bytes, to_be_bytes}
use Rattle.std.proofs.lemmas.List.{take_at, drop_at, length-take-le, take-append-le, take-take, drop-append-le, drop-take, get_or-drop, get_or-take, get_or_append_left, append-nil}
use Rattle.std.proofs.lemmas.Nat.{from_be_bytes-to_be_bytes_8}
use Rattle.rel_disk.specs.Damage.{overwritten, Torn, Cut}
use Rattle.rel_store.specs.Compaction.{image_bytes, base_place}
use Rattle.rel_store.specs.Layout.{magic, part, has_magic, selected, start_slot, text_of, base_slot, base_of}
use Rattle.rel_store.specs.Records.{record_bytes, onto, records_from, records_of, Stands, space}
use Rattle.rel_store.proofs.Append.{gate_at, torn_behind}
use Rattle.rel_store.proofs.ReadLemmas.{onto_all, onto_all-none, closed, read-record, length-record, held}
use Rattle.rel_store.proofs.Slots.{Patched, patched_torn, patched_written, front, inside, before, index-before, beyond, behind}
use Rattle.rel_store.proofs.Whole.{readable, sound, split, selected-le, selected-ge, magic-same, base-same, text-same}

-- Where the layout gives a place from which these records are read, they are the store's, whatever follows them.
found : (place : ℕ) (bodies : List (List ℕ)) (from tail c : List ℕ) → records_from place 0 from ≡ Ok bodies → 288 ≤ place → has_magic c ≡ true → base_of c ≡ place → drop place c ≡ from ++ tail → records_of c ≡ Ok bodies
found place bodies from tail c read low begins base there =
    let h = held place bodies from read in
    let split : drop place c ≡ h.front ++ h.gate ∷ (h.rest ++ tail) = there ∙ ap (λ (l : List ℕ). l ++ tail) h.split ∙ append_assoc h.front (h.gate ∷ h.rest) tail in
    let high : place < length c = omega (arith, ap length split, length-append h.front (h.gate ∷ (h.rest ++ tail)), length-drop place c) in
    readable c (record { long = omega (arith, high, low); begins = begins; low = omega (arith, base, low); high = omega (arith, base, high) })
    ∙ ap (λ q. records_from q 0 (drop q c)) base
    ∙ ap (λ l. records_from place 0 l) split
    ∙ h.holds (h.gate ∷ (h.rest ++ tail)) (omega arith)
    ∙ ap (onto_all bodies) (closed (place + length h.front) h.gate (h.rest ++ tail) h.shut)
    ∙ onto_all-none bodies

-- The new bytes are the same store as the old ones: with these records, from the same base on, and with this start text.
pub record Keeps (bodies : List (List ℕ)) (text old new : List ℕ) : Type 0 where
  pub here : Stands bodies text new
  pub base : base_of new ≡ base_of old

-- so are bytes that say the same of their layout, and have what stood from the base on
still : (bodies : List (List ℕ)) (text old c tail : List ℕ) → Stands bodies text old → has_magic c ≡ has_magic old → base_of c ≡ base_of old → text_of c ≡ text_of old → drop (base_of old) c ≡ drop (base_of old) old ++ tail → Keeps bodies text old c
still bodies text old c tail here begins base start rest =
    let s = sound old bodies here.records in
    record {
      here = record {
        records = found (base_of old) bodies (drop (base_of old) old) tail c (sym (readable old s) ∙ here.records) s.low (begins ∙ s.begins) base rest;
        start = start ∙ here.start;
      };
      base = base;
    }

-- a write of n bytes at this place is of no record: it ends below the base, or begins after the closed gate
abbrev pub IsFree : ℕ → ℕ → ℕ → ℕ → Type 0
IsFree base gate n place = ((place ≡ 288) × (288 + n ≤ base)) ⊎ (place ≡ gate + 1)

-- while it is written, the store stands as it was
pub torn_free : (bodies : List (List ℕ)) (text old c : List ℕ) (gate n place : ℕ) → Stands bodies text old → gate ≡ base_of old + space bodies → IsFree (base_of old) gate n place → Torn place n old c → Keeps bodies text old c
torn_free bodies text old c gate n place here at (inl (first, below)) torn =
    let s = sound old bodies here.records in
    let there = subst (λ p. Torn p n old c) first torn in
    let p = patched_torn 288 n old c (omega (arith, below, s.high)) there in
    let same = front 288 n there.middle old c p in
    still bodies text old c p.tail here (magic-same c old same) (base-same c old same) (text-same c old same) (beyond 288 n there.middle old c p (base_of old) below (omega (arith, s.high)))
torn_free bodies text old c gate n place here at (inr past) torn =
    let s = split bodies text old here in
    let from = subst (λ d. Torn place n d c) s.is torn in
    let long : place ≡ length s.head + 1 = omega (arith, past, gate_at bodies text old gate s at) in
    let low : 288 ≤ place = omega (arith, long, s.holds.long) in
    let within : place ≤ length old = omega (arith, long, ap length s.is, length-append s.head (s.gate ∷ s.rest)) in
    let front : take 288 (take place old) ≡ take 288 old = take-take 288 place old low in
    let same : take 288 c ≡ take 288 old = ap (λ l. take 288 l) torn.is ∙ take-append-le 288 (take place old) (torn.middle ++ (drop (place + n) old ++ torn.tail)) (omega (arith, low, length-take-le place old within)) ∙ front in
    record {
      here = torn_behind bodies text s.head s.holds s.gate s.rest n c s.shut (subst (λ p. Torn p n (s.head ++ s.gate ∷ s.rest) c) long from);
      base = base-same c old same;
    }

-- An image stands at a place after the layout.
pub record HasImage (place : ℕ) (image bytes : List ℕ) : Type 0 where
  pub low : 288 ≤ place
  pub rest : List ℕ
  pub there : drop place bytes ≡ 1 ∷ (record_bytes image ++ 0 ∷ rest)

image_within : (place : ℕ) (image bytes : List ℕ) (h : HasImage place image bytes) → place + (6 + length image) ≤ length bytes
image_within place image bytes h = omega (arith, ap length h.there, length-drop place bytes, length-append (record_bytes image) (0 ∷ h.rest), length-record image)

image_kept : (place : ℕ) (image old c tail : List ℕ) → HasImage place image old → drop place c ≡ drop place old ++ tail → HasImage place image c
image_kept place image old c tail h same = record {
  low = h.low;
  rest = h.rest ++ tail;
  there = same ∙ ap (λ (l : List ℕ). l ++ tail) h.there ∙ ap (λ (l : List ℕ). 1 ∷ l) (append_assoc (record_bytes image) (0 ∷ h.rest) tail);
}

module _ (place : ℕ) (image old : List ℕ) (low : 288 ≤ place) (within : place ≤ length old) where
  -- these bytes with the image at the place
  abbrev imaged : List ℕ
  imaged = overwritten place (image_bytes image) old

  front_long : length (take place old) ≡ place
  front_long = length-take-le place old within

  pub image_written : HasImage place image imaged
  image_written =
      let rest = drop (place + length (image_bytes image)) old in
      record {
        low = low;
        rest = rest;
        there = drop_at (take place old) (image_bytes image ++ rest) place front_long ∙ ap (λ (l : List ℕ). 1 ∷ l) (append_assoc (record_bytes image) (0 ∷ []) rest);
      }

  pub layout_kept : take 288 imaged ≡ take 288 old
  layout_kept = take-append-le 288 (take place old) (image_bytes image ++ drop (place + length (image_bytes image)) old) (omega (arith, front_long, low)) ∙ take-take 288 place old low

-- The image stands beside the store, whose base slot of this rank doesn't count.
pub record Waits (second : Bool) (bodies : List (List ℕ)) (text : List ℕ) (place : ℕ) (image bytes : List ℕ) : Type 0 where
  pub here : Stands bodies text bytes
  pub counts : (slice_index bytes 10 == 1) ≡ not second
  pub placed : HasImage place image bytes

-- while the base slot that doesn't count is written, the store stands as it was
pub base_slot_kept : (second : Bool) (middle old new : List ℕ) (bodies : List (List ℕ)) (text : List ℕ) → Stands bodies text old → (slice_index old 10 == 1) ≡ not second → Patched (base_place second) 8 middle old new → Keeps bodies text old new
base_slot_kept second middle old new bodies text here counts p =
    let s = sound old bodies here.records in
    let begins = ap (λ l. bytes_eq l (1 ∷ magic)) (before q 8 middle old new p 0 9 (omega (arith, high))) in
    let start =
    ap (λ b. part (selected b 16 144) 128 new) (index-before q 8 middle old new p 9 (omega (arith, high)))
    ∙ before q 8 middle old new p (start_slot old) 128 (omega (arith, high, selected-le (slice_index old 9) 16 144 144 (omega arith) (omega arith))) in
    let base = ap (λ b. from_be_bytes w64 (part (selected b 272 280) 8 new)) (index-before q 8 middle old new p 10 (omega (arith, high))) ∙ ap (from_be_bytes w64) (slot_same second (omega (arith, s.long)) counts p) in
    still bodies text old new p.tail here begins base start (beyond q 8 middle old new p (base_of old) (omega (arith, low, s.low)) (omega (arith, s.high)))
  where
    q : ℕ
    q = base_place second

    place_high : (b : Bool) → 272 ≤ base_place b
    place_high true = omega arith
    place_high false = omega arith

    place_low : (b : Bool) → base_place b ≤ 280
    place_low true = omega arith
    place_low false = omega arith

    high : 272 ≤ q
    high = place_high second

    low : q ≤ 280
    low = place_low second

    -- the slot that counts is the other one
    slot_same : (b : Bool) → 288 ≤ length old → (slice_index old 10 == 1) ≡ not b → Patched (base_place b) 8 middle old new → part (base_slot old) 8 new ≡ part (base_slot old) 8 old
    slot_same true long is p =
        let there : base_slot old ≡ 272 = ap (λ t. if t then 280 else 272) is in
        ap (λ at. part at 8 new) there ∙ before 280 8 middle old new p 272 8 (omega arith) ∙ ap (λ at. part at 8 old) (sym there)
    slot_same false long is p =
        let there : base_slot old ≡ 280 = ap (λ t. if t then 280 else 272) is in
        ap (λ at. part at 8 new) there ∙ behind 272 8 middle old new p 280 8 (omega arith) (omega (arith, long)) ∙ ap (λ at. part at 8 old) (sym there)

-- The image's place stands in that slot, too.
pub record Offered (second : Bool) (bodies : List (List ℕ)) (text : List ℕ) (place : ℕ) (image was bytes : List ℕ) : Type 0 where
  pub base : base_of bytes ≡ base_of was
  pub waits : Waits second bodies text place image bytes
  pub other : part (base_place second) 8 bytes ≡ to_be_bytes w64 place

pub offered : (second : Bool) (bodies : List (List ℕ)) (text : List ℕ) (place : ℕ) (image old new : List ℕ) → Waits second bodies text place image old → new ≡ overwritten (base_place second) (to_be_bytes w64 place) old → Offered second bodies text place image old new
offered second bodies text place image old new w written =
    let s = sound old bodies w.here.records in
    let p : Patched q 8 (to_be_bytes w64 place) old new = patched_written q (to_be_bytes w64 place) old new (omega (arith, low second, s.long)) written in
    let kept = base_slot_kept second (to_be_bytes w64 place) old new bodies text w.here w.counts p in
    record {
      base = kept.base;
      waits = record {
        here = kept.here;
        counts = ap (λ b. b == 1) (index-before q 8 (to_be_bytes w64 place) old new p 10 (omega (arith, high second))) ∙ w.counts;
        placed = image_kept place image old new p.tail w.placed (beyond q 8 (to_be_bytes w64 place) old new p place (omega (arith, low second, w.placed.low)) (omega (arith, image_within place image old w.placed)));
      };
      other = inside q 8 (to_be_bytes w64 place) old new p;
    }
  where
    q : ℕ
    q = base_place second

    high : (b : Bool) → 272 ≤ base_place b
    high true = omega arith
    high false = omega arith

    low : (b : Bool) → base_place b ≤ 280
    low true = omega arith
    low false = omega arith

-- The image is the only record.
pub record Moved (place : ℕ) (image text bytes : List ℕ) : Type 0 where
  pub begins : has_magic bytes ≡ true
  pub base : base_of bytes ≡ place
  pub start : text_of bytes ≡ text
  pub placed : HasImage place image bytes

pub moved_stands : (place : ℕ) (image text bytes : List ℕ) → length image ≤ 16777216 → Moved place image text bytes → Stands (image ∷ []) text bytes
moved_stands place image text bytes short m = record {
  records = found place (image ∷ []) (1 ∷ (record_bytes image ++ 0 ∷ m.placed.rest)) [] bytes read m.placed.low m.begins m.base (m.placed.there ∙ sym (append-nil (1 ∷ (record_bytes image ++ 0 ∷ m.placed.rest))));
  start = m.start;
}
  where
    read : records_from place 0 (1 ∷ (record_bytes image ++ 0 ∷ m.placed.rest)) ≡ Ok (image ∷ [])
    read = read-record place image (0 ∷ m.placed.rest) short (omega arith) ∙ ap (onto image) (closed (place + (5 + length image)) 0 m.placed.rest (omega arith))

-- the selector of the bases, torn or written
module _ (second : Bool) (bodies : List (List ℕ)) (text : List ℕ) (place : ℕ) (image was old new : List ℕ) (byte : ℕ) (o : Offered second bodies text place image was old) (p : Patched 10 1 (byte ∷ []) old new) where
  long : 289 ≤ length old
  long = (sound old bodies o.waits.here.records).long

  magic_kept : has_magic new ≡ has_magic old
  magic_kept = ap (λ l. bytes_eq l (1 ∷ magic)) (before 10 1 (byte ∷ []) old new p 0 9 (omega arith))

  pub start_index_kept : slice_index new 9 ≡ slice_index old 9
  start_index_kept = index-before 10 1 (byte ∷ []) old new p 9 (omega arith)

  pub format_index_kept : slice_index new 11 ≡ slice_index old 11
  format_index_kept =
      sym (get_or-drop 11 new 0 0)
      ∙ ap (λ l. get_or l 0 0) (beyond 10 1 (byte ∷ []) old new p 11 (omega arith) (omega (arith, long)))
      ∙ get_or_append_left (drop 11 old) p.tail 0 0 (omega (arith, long, length-drop 11 old))
      ∙ get_or-drop 11 old 0 0

  text_kept : text_of new ≡ text_of old
  text_kept =
      ap (λ b. part (selected b 16 144) 128 new) start_index_kept
      ∙ behind 10 1 (byte ∷ []) old new p (start_slot old) 128 (omega (arith, selected-ge (slice_index old 9) 16 144 16 (omega arith) (omega arith))) (omega (arith, long, selected-le (slice_index old 9) 16 144 144 (omega arith) (omega arith)))

  pub choice_now : slice_index new 10 ≡ byte
  choice_now = sym (get_or-drop 10 new 0 0) ∙ sym (get_or-take 1 (drop 10 new) 0 0 (omega arith)) ∙ ap (λ l. get_or l 0 0) (inside 10 1 (byte ∷ []) old new p)

  slot_kept_at : (q : ℕ) → 272 ≤ q → q ≤ 280 → part q 8 new ≡ part q 8 old
  slot_kept_at q high low = behind 10 1 (byte ∷ []) old new p q 8 (omega (arith, high)) (omega (arith, low, long))

  -- the base that is chosen so
  base_chosen : (b : Bool) → (byte == 1) ≡ b → base_of new ≡ from_be_bytes w64 (part (base_place b) 8 old)
  base_chosen b is = ap (λ c. from_be_bytes w64 (part (selected c 272 280) 8 new)) choice_now ∙ ap (λ t. from_be_bytes w64 (part (base_place t) 8 new)) is ∙ ap (from_be_bytes w64) (kept b)
    where
      kept : (t : Bool) → part (base_place t) 8 new ≡ part (base_place t) 8 old
      kept true = slot_kept_at 280 (omega arith) (omega arith)
      kept false = slot_kept_at 272 (omega arith) (omega arith)

  rest_kept : (q : ℕ) → 288 ≤ q → q ≤ length old → drop q new ≡ drop q old ++ p.tail
  rest_kept q low within = beyond 10 1 (byte ∷ []) old new p q (omega (arith, low)) within

  -- the old base still
  pub stays : (byte == 1) ≡ not second → Keeps bodies text old new
  stays is =
      let s = sound old bodies o.waits.here.records in
      let base : base_of new ≡ base_of old = base_chosen (not second) is ∙ sym (ap (λ b. from_be_bytes w64 (part (base_place b) 8 old)) o.waits.counts) in
      still bodies text old new p.tail o.waits.here magic_kept base text_kept (rest_kept (base_of old) s.low (omega (arith, s.high)))

  -- or the image's place
  pub moved : place < 2 ^ 64 → (byte == 1) ≡ second → Moved place image text new
  moved few is = record {
    begins = magic_kept ∙ (sound old bodies o.waits.here.records).begins;
    base = base_chosen second is ∙ ap (from_be_bytes w64) o.other ∙ from_be_bytes-to_be_bytes_8 place few;
    start = text_kept ∙ o.waits.here.start;
    placed = image_kept place image old new p.tail o.waits.placed (rest_kept place o.waits.placed.low (omega (arith, image_within place image old o.waits.placed)));
  }

  -- in each case one of the two stores stands
  pub either : place < 2 ^ 64 → Keeps bodies text old new ⊎ Moved place image text new
  either few = which second (byte == 1) refl stays (moved few)
    where
      which : (rank chosen : Bool) → (byte == 1) ≡ chosen → ((byte == 1) ≡ not rank → Keeps bodies text old new) → ((byte == 1) ≡ rank → Moved place image text new) → Keeps bodies text old new ⊎ Moved place image text new
      which true true is old_one new_one = inr (new_one is)
      which false false is old_one new_one = inr (new_one is)
      which true false is old_one new_one = inl (old_one is)
      which false true is old_one new_one = inl (old_one is)

-- the disk is cut after an image at 288
module _ (image text old c : List ℕ) (m : Moved 288 image text old) (cut : Cut (288 + length (image_bytes image)) old c) where
  abbrev n : ℕ
  n = length (image_bytes image)

  abbrev kept : List ℕ
  kept = take (288 + n) old

  kept_long : length kept ≡ 288 + n
  kept_long = length-take-le (288 + n) old (omega (arith, image_within 288 image old m.placed, length-append (record_bytes image) (0 ∷ []), length-record image))

  pub cut_layout : take 288 c ≡ take 288 old
  cut_layout = ap (λ l. take 288 l) cut.is ∙ take-append-le 288 kept cut.tail (omega (arith, kept_long)) ∙ take-take 288 (288 + n) old (omega arith)

  -- the image is all that is left of what stood after the layout
  image_left : drop 288 kept ≡ image_bytes image
  image_left =
      drop-take 288 n old
      ∙ ap (λ l. take n l) (m.placed.there ∙ sym (ap (λ (l : List ℕ). 1 ∷ l) (append_assoc (record_bytes image) (0 ∷ []) m.placed.rest)))
      ∙ take_at (image_bytes image) m.placed.rest n refl

  pub cut_moved : Moved 288 image text c
  cut_moved = record {
    begins = magic-same c old cut_layout ∙ m.begins;
    base = base-same c old cut_layout ∙ m.base;
    start = text-same c old cut_layout ∙ m.start;
    placed = record {
      low = omega arith;
      rest = cut.tail;
      there =
          ap (λ l. drop 288 l) cut.is
          ∙ drop-append-le 288 kept cut.tail (omega (arith, kept_long))
          ∙ ap (λ (l : List ℕ). l ++ cut.tail) image_left
          ∙ ap (λ (l : List ℕ). 1 ∷ l) (append_assoc (record_bytes image) (0 ∷ []) cut.tail);
    };
  }
