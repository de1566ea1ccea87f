-- What stands after a write within the first 288 bytes, and what a crash may leave of it.
use Rattle.std.proofs.Common.{◌≡◌, inl, inr, ℕ, ◌+◌, ◌-◌, ◌<◌, ◌≤◌, Bool, true, false, not, List, [], ◌∷◌, ◌++◌, length, get_or, take, drop, Ok, refl, sym, ◌∙◌, ap, subst, arith, append_assoc, length-append, length-drop}
use Rattle.std.specs.Prelude.{if◌then◌else◌, ◌==◌, slice_index, bytes_eq}
use Rattle.std.specs.Int.{w64, from_be_bytes}
use Rattle.std.proofs.lemmas.List.{take_at, drop_at, length-take-le, take-append-le, drop-append-le, drop-drop, get_or-drop, get_or-take, get_or_append_left, append-nil}
use Rattle.rel_disk.specs.Damage.{overwritten, Torn, Only}
use Rattle.rel_store.specs.Layout.{magic, part, selected, start_slot, base_slot, base_of}
use Rattle.rel_store.specs.Moments.{IsTornFrom}
use Rattle.rel_store.specs.Records.{records_from, records_of, Stands, StandsWithEither}
use Rattle.rel_store.proofs.Append.{one}
use Rattle.rel_store.proofs.ReadLemmas.{onto_all-none, onto_all, closed, held}
use Rattle.rel_store.proofs.Whole.{readable, sound, part-same, index-same, selected-le, selected-ge}

-- The new bytes are the old ones with n of them written over at this place, and with a tail.
pub record Patched (at n : ℕ) (middle old new : List ℕ) : Type 0 where
  pub within : at + n ≤ length old
  pub long : length middle ≡ n
  pub tail : List ℕ
  pub is : new ≡ take at old ++ (middle ++ (drop (at + n) old ++ tail))

pub patched_torn : (at n : ℕ) (old c : List ℕ) → at + n ≤ length old → (t : Torn at n old c) → Patched at n t.middle old c
patched_torn at n old c within t = record { within = within; long = omega (arith, t.long); tail = t.tail; is = t.is }

pub patched_written : (at : ℕ) (bytes old new : List ℕ) → at + length bytes ≤ length old → new ≡ overwritten at bytes old → Patched at (length bytes) bytes old new
patched_written at bytes old new within written = record {
  within = within;
  long = refl;
  tail = [];
  is = written ∙ ap (λ (l : List ℕ). take at old ++ (bytes ++ l)) (sym (append-nil (drop (at + length bytes) old)));
}

module _ (at n : ℕ) (middle old new : List ℕ) (p : Patched at n middle old new) where
  front-long : length (take at old) ≡ at
  front-long = length-take-le at old (omega (arith, p.within))

  pub front : take at new ≡ take at old
  front = ap (λ l. take at l) p.is ∙ take_at (take at old) (middle ++ (drop (at + n) old ++ p.tail)) at front-long

  -- what is written is read there
  pub inside : part at n new ≡ middle
  inside =
      ap (λ l. take n (drop at l)) p.is
      ∙ ap (λ l. take n l) (drop_at (take at old) (middle ++ (drop (at + n) old ++ p.tail)) at front-long)
      ∙ take_at middle (drop (at + n) old ++ p.tail) n p.long

  back : drop (at + n) new ≡ drop (at + n) old ++ p.tail
  back =
      ap (λ l. drop (at + n) l) (p.is ∙ sym (append_assoc (take at old) middle (drop (at + n) old ++ p.tail)))
      ∙ drop_at (take at old ++ middle) (drop (at + n) old ++ p.tail) (at + n) (omega (arith, length-append (take at old) middle, front-long, p.long))

  -- what stands before it stays
  pub before : (q m : ℕ) → q + m ≤ at → part q m new ≡ part q m old
  before q m le = part-same q m at new old le front

  pub index-before : (i : ℕ) → i < at → slice_index new i ≡ slice_index old i
  index-before i lt = index-same i at new old lt front

  -- and so does what stands after it
  pub beyond : (q : ℕ) → at + n ≤ q → q ≤ length old → drop q new ≡ drop q old ++ p.tail
  beyond q past le =
      let k = q - (at + n) in
      let there : at + n + k ≡ q = omega arith in
      ap (λ r. drop r new) (sym there)
      ∙ sym (drop-drop k (at + n) new)
      ∙ ap (λ l. drop k l) back
      ∙ drop-append-le k (drop (at + n) old) p.tail (omega (arith, length-drop (at + n) old))
      ∙ ap (λ (l : List ℕ). l ++ p.tail) (drop-drop k (at + n) old ∙ ap (λ r. drop r old) there)

  pub behind : (q m : ℕ) → at + n ≤ q → q + m ≤ length old → part q m new ≡ part q m old
  behind q m past le = ap (λ l. take m l) (beyond q past (omega arith)) ∙ take-append-le m (drop q old) p.tail (omega (arith, length-drop q old))

  pub no-shorter : length old ≤ length new
  no-shorter = omega (arith, p.within, ap length p.is, length-append (take at old) (middle ++ (drop (at + n) old ++ p.tail)), length-append middle (drop (at + n) old ++ p.tail), length-append (drop (at + n) old) p.tail, front-long, p.long, length-drop (at + n) old)

  -- a write between the magic and the base slots keeps the base
  pub base-kept : (bodies : List (List ℕ)) → at + n ≤ 272 → slice_index new 10 ≡ slice_index old 10 → records_of old ≡ Ok bodies → base_of new ≡ base_of old
  base-kept bodies high selector read =
      let s = sound old bodies read in
      let slot : base_slot old + 8 ≤ 288 = omega (arith, selected-le (slice_index old 10) 272 280 280 (omega arith) (omega arith)) in
      ap (λ b. from_be_bytes w64 (part (selected b 272 280) 8 new)) selector
      ∙ ap (from_be_bytes w64) (behind (base_slot old) 8 (omega (arith, high, selected-ge (slice_index old 10) 272 280 272 (omega arith) (omega arith))) (omega (arith, slot, s.long)))

  -- and the records
  pub records-kept : (bodies : List (List ℕ)) → 9 ≤ at → at + n ≤ 272 → slice_index new 10 ≡ slice_index old 10 → records_of old ≡ Ok bodies → records_of new ≡ Ok bodies
  records-kept bodies low high selector read =
      let s = sound old bodies read in
      let base = base_of old in
      let same = base-kept bodies high selector read in
      let begins = ap (λ l. bytes_eq l (1 ∷ magic)) (before 0 9 low) ∙ s.begins in
      let h = held base bodies (drop base old) (sym (readable old s) ∙ read) in
      let rest : drop base new ≡ h.front ++ h.gate ∷ (h.rest ++ p.tail) = beyond base (omega (arith, high, s.low)) (omega (arith, s.high)) ∙ ap (λ (l : List ℕ). l ++ p.tail) h.split ∙ append_assoc h.front (h.gate ∷ h.rest) p.tail in
      readable new (record { long = omega (arith, s.long, no-shorter); begins = begins; low = omega (arith, same, s.low); high = omega (arith, same, s.high, no-shorter) })
      ∙ ap (λ q. records_from q 0 (drop q new)) same
      ∙ ap (λ l. records_from base 0 l) rest
      ∙ h.holds (h.gate ∷ (h.rest ++ p.tail)) (omega arith)
      ∙ ap (onto_all bodies) (closed (base + length h.front) h.gate (h.rest ++ p.tail) h.shut)
      ∙ onto_all-none bodies

-- the place of the second start slot, or of the first
abbrev pub slot_place : Bool → ℕ
slot_place second = if second then 144 else 16

-- it stands before the records
pub place_low : (second : Bool) (place : ℕ) → place ≡ slot_place second → place ≤ 144
place_low true place is = omega arith
place_low false place is = omega arith

-- while the slot that doesn't count is written, the store stands as it was
pub slot_kept : (second : Bool) (middle old new : List ℕ) (bodies : List (List ℕ)) (text : List ℕ) → Stands bodies text old → (slice_index old 9 == 1) ≡ not second → Patched (slot_place second) 128 middle old new
    → Stands bodies text new
slot_kept true middle old new bodies text here counts p =
    let place : start_slot old ≡ 16 = ap (λ b. if b then 144 else 16) counts in
    record {
      records = records-kept 144 128 middle old new p bodies (omega arith) (omega arith) (index-before 144 128 middle old new p 10 (omega arith)) here.records;
      start =
          ap (λ b. part (selected b 16 144) 128 new) (index-before 144 128 middle old new p 9 (omega arith))
          ∙ ap (λ q. part q 128 new) place
          ∙ before 144 128 middle old new p 16 128 (omega arith)
          ∙ ap (λ q. part q 128 old) (sym place)
          ∙ here.start;
    }
slot_kept false middle old new bodies text here counts p =
    let place : start_slot old ≡ 144 = ap (λ b. if b then 144 else 16) counts in
    let s = sound old bodies here.records in
    record {
      records = records-kept 16 128 middle old new p bodies (omega arith) (omega arith) (index-before 16 128 middle old new p 10 (omega arith)) here.records;
      start =
          ap (λ b. part (selected b 16 144) 128 new) (index-before 16 128 middle old new p 9 (omega arith))
          ∙ ap (λ q. part q 128 new) place
          ∙ behind 16 128 middle old new p 144 128 (omega arith) (omega (arith, s.long))
          ∙ ap (λ q. part q 128 old) (sym place)
          ∙ here.start;
    }

-- The slot is written, and doesn't count yet.
pub record Slotted (second : Bool) (bodies : List (List ℕ)) (text slot was bytes : List ℕ) : Type 0 where
  pub here : Stands bodies text bytes
  pub counts : (slice_index bytes 9 == 1) ≡ not second
  pub other : part (slot_place second) 128 bytes ≡ slot
  pub base : base_of bytes ≡ base_of was
  pub choice : slice_index bytes 10 ≡ slice_index was 10
  pub kind : slice_index bytes 11 ≡ slice_index was 11

pub slotted : (second : Bool) (slot old new : List ℕ) (bodies : List (List ℕ)) (text : List ℕ) → length slot ≡ 128 → Stands bodies text old → (slice_index old 9 == 1) ≡ not second → new ≡ overwritten (slot_place second) slot old
    → Slotted second bodies text slot old new
slotted second slot old new bodies text long here counts written =
    let s = sound old bodies here.records in
    let p : Patched (slot_place second) 128 slot old new = subst (λ n. Patched (slot_place second) n slot old new) long (patched_written (slot_place second) slot old new (omega (arith, long, s.long, low-place second)) written) in
    record {
      here = slot_kept second slot old new bodies text here counts p;
      counts = ap (λ b. b == 1) (index-before (slot_place second) 128 slot old new p 9 (omega (arith, high-place second))) ∙ counts;
      other = inside (slot_place second) 128 slot old new p;
      base = base-kept (slot_place second) 128 slot old new p bodies (omega (arith, low-place second)) (index-before (slot_place second) 128 slot old new p 10 (omega (arith, high-place second))) here.records;
      choice = index-before (slot_place second) 128 slot old new p 10 (omega (arith, high-place second));
      kind = index-before (slot_place second) 128 slot old new p 11 (omega (arith, high-place second));
    }
  where
    low-place : (b : Bool) → slot_place b ≤ 144
    low-place true = omega arith
    low-place false = omega arith

    high-place : (b : Bool) → 16 ≤ slot_place b
    high-place true = omega arith
    high-place false = omega arith

-- a selector of this value chooses this slot
module _ (old new : List ℕ) (byte : ℕ) (p : Patched 9 1 (byte ∷ []) old new) (long : 289 ≤ length old) where
  selector-behind : (i : ℕ) → 10 ≤ i → i ≤ 288 → slice_index new i ≡ slice_index old i
  selector-behind i from within =
      let here : i + 0 ≡ i = omega arith in
      ap (λ k. get_or new k 0) (sym here)
      ∙ sym (get_or-drop i new 0 0)
      ∙ ap (λ l. get_or l 0 0) (beyond 9 1 (byte ∷ []) old new p i (omega (arith, from)) (omega (arith, long, within)))
      ∙ get_or_append_left (drop i old) p.tail 0 0 (omega (arith, long, within, length-drop i old))
      ∙ get_or-drop i old 0 0
      ∙ ap (λ k. get_or old k 0) here

  selector-base : slice_index new 10 ≡ slice_index old 10
  selector-base = selector-behind 10 (omega arith) (omega arith)

  selector-start : slice_index new 9 ≡ byte
  selector-start = sym (get_or-drop 9 new 0 0) ∙ sym (get_or-take 1 (drop 9 new) 0 0 (omega arith)) ∙ ap (λ l. get_or l 0 0) (inside 9 1 (byte ∷ []) old new p)

chosen : (second chooses : Bool) (bodies : List (List ℕ)) (text slot was old new : List ℕ) (byte : ℕ) → Slotted second bodies text slot was old → Patched 9 1 (byte ∷ []) old new → (byte == 1) ≡ chooses
    → Stands bodies (if chooses then part 144 128 old else part 16 128 old) new
chosen second chooses bodies text slot was old new byte s p is =
    let whole = sound old bodies s.here.records in
    let at10 = selector-base old new byte p whole.long in
    let at9 = selector-start old new byte p whole.long in
    record {
      records = records-kept 9 1 (byte ∷ []) old new p bodies (omega arith) (omega arith) at10 s.here.records;
      start = ap (λ b. part (selected b 16 144) 128 new) at9 ∙ ap (λ b. part (if b then 144 else 16) 128 new) is ∙ there chooses (behind 9 1 (byte ∷ []) old new p 144 128 (omega arith) (omega (arith, whole.long))) (behind 9 1 (byte ∷ []) old new p 16 128 (omega arith) (omega (arith, whole.long)));
    }
  where
    there : (b : Bool) → part 144 128 new ≡ part 144 128 old → part 16 128 new ≡ part 16 128 old → part (if b then 144 else 16) 128 new ≡ (if b then part 144 128 old else part 16 128 old)
    there true a b = a
    there false a b = b

-- which slot that is: the new one or the one that counted
which : (second chooses : Bool) (bodies : List (List ℕ)) (text slot was old new : List ℕ) → Slotted second bodies text slot was old → Stands bodies (if chooses then part 144 128 old else part 16 128 old) new → StandsWithEither bodies text slot new
which true true bodies text slot was old new s here = inr (subst (λ t. Stands bodies t new) s.other here)
which false false bodies text slot was old new s here = inr (subst (λ t. Stands bodies t new) s.other here)
which true false bodies text slot was old new s here = inl (subst (λ t. Stands bodies t new) (ap (λ b. part (if b then 144 else 16) 128 old) (sym s.counts) ∙ s.here.start) here)
which false true bodies text slot was old new s here = inl (subst (λ t. Stands bodies t new) (ap (λ b. part (if b then 144 else 16) 128 old) (sym s.counts) ∙ s.here.start) here)

new_slot : (second : Bool) (bodies : List (List ℕ)) (text slot was old new : List ℕ) → Slotted second bodies text slot was old → Stands bodies (if second then part 144 128 old else part 16 128 old) new → Stands bodies slot new
new_slot true bodies text slot was old new s here = subst (λ t. Stands bodies t new) s.other here
new_slot false bodies text slot was old new s here = subst (λ t. Stands bodies t new) s.other here

-- at each moment of the first write the old slot counts
pub slot_leaves : (second : Bool) (bodies : List (List ℕ)) (text slot old : List ℕ) (images : List ℕ → Type 0) → Stands bodies text old → (slice_index old 9 == 1) ≡ not second → Only old images
    → (c : List ℕ) → IsTornFrom images (slot_place second) 128 c → StandsWithEither bodies text slot c
slot_leaves second bodies text slot old images here counts only c (inl now) = inl (subst (Stands bodies text) (sym (only c now)) here)
slot_leaves second bodies text slot old images here counts only c (inr torn) =
    let from = subst (λ d. Torn (slot_place second) 128 d c) (only torn.0 torn.1) torn.2 in
    inl (slot_kept second from.middle old c bodies text here counts (patched_torn (slot_place second) 128 old c (room second (sound old bodies here.records).long) from))
  where
    room : (b : Bool) → 289 ≤ length old → slot_place b + 128 ≤ length old
    room true long = omega arith
    room false long = omega arith

-- at each moment of the second the old one or the new one does
pub selector_leaves : (second : Bool) (bodies : List (List ℕ)) (text slot was old : List ℕ) (images : List ℕ → Type 0) → Slotted second bodies text slot was old → Only old images
    → (c : List ℕ) → IsTornFrom images 9 1 c → StandsWithEither bodies text slot c
selector_leaves second bodies text slot was old images s only c (inl now) = inl (subst (Stands bodies text) (sym (only c now)) s.here)
selector_leaves second bodies text slot was old images s only c (inr torn) =
    let from = subst (λ d. Torn 9 1 d c) (only torn.0 torn.1) torn.2 in
    let whole = sound old bodies s.here.records in
    let byte = one from.middle (omega (arith, from.long, whole.long)) in
    let p : Patched 9 1 (byte.0 ∷ []) old c = subst (λ l. Patched 9 1 l old c) byte.1 (patched_torn 9 1 old c (omega (arith, whole.long)) from) in
    which second (byte.0 == 1) bodies text slot was old c s (chosen second (byte.0 == 1) bodies text slot was old c byte.0 s p refl)

-- and after it the new one
pub record Selected (second : Bool) (bodies : List (List ℕ)) (slot old new : List ℕ) : Type 0 where
  pub here : Stands bodies slot new
  pub base : base_of new ≡ base_of old
  pub counts : (slice_index new 9 == 1) ≡ second
  pub choice : slice_index new 10 ≡ slice_index old 10
  pub kind : slice_index new 11 ≡ slice_index old 11

pub selected_now : (second : Bool) (bodies : List (List ℕ)) (text slot was old new : List ℕ) (byte : ℕ) → (byte == 1) ≡ second → Slotted second bodies text slot was old → new ≡ overwritten 9 (byte ∷ []) old → Selected second bodies slot was new
selected_now second bodies text slot was old new byte is s written =
    let whole = sound old bodies s.here.records in
    let p = patched_written 9 (byte ∷ []) old new (omega (arith, whole.long)) written in
    record {
      here = new_slot second bodies text slot was old new s (chosen second second bodies text slot was old new byte s p is);
      base = base-kept 9 1 (byte ∷ []) old new p bodies (omega arith) (selector-base old new byte p whole.long) s.here.records ∙ s.base;
      counts = ap (λ b. b == 1) (selector-start old new byte p whole.long) ∙ is;
      choice = selector-base old new byte p whole.long ∙ s.choice;
      kind = selector-behind old new byte p whole.long 11 (omega arith) (omega arith) ∙ s.kind;
    }

-- The byte that gives the format is written, or torn: the store stands as it was.
pub format_kept : (middle old new : List ℕ) (bodies : List (List ℕ)) (text : List ℕ) → Stands bodies text old → Patched 11 1 middle old new → Stands bodies text new
format_kept middle old new bodies text here p =
    let s = sound old bodies here.records in
    let at9 : slice_index new 9 ≡ slice_index old 9 = index-before 11 1 middle old new p 9 (omega arith) in
    record {
      records = records-kept 11 1 middle old new p bodies (omega arith) (omega arith) (index-before 11 1 middle old new p 10 (omega arith)) here.records;
      start =
          ap (λ b. part (selected b 16 144) 128 new) at9
          ∙ behind 11 1 middle old new p (selected (slice_index old 9) 16 144) 128 (omega (arith, selected-ge (slice_index old 9) 16 144 16 (omega arith) (omega arith)))
          (omega (arith, s.long, selected-le (slice_index old 9) 16 144 144 (omega arith) (omega arith)))
          ∙ here.start;
    }

pub format_leaves : (bodies : List (List ℕ)) (text old : List ℕ) (images : List ℕ → Type 0) → Stands bodies text old → Only old images → (c : List ℕ) → IsTornFrom images 11 1 c → Stands bodies text c
format_leaves bodies text old images here only c (inl now) = subst (Stands bodies text) (sym (only c now)) here
format_leaves bodies text old images here only c (inr torn) =
    let from = subst (λ d. Torn 11 1 d c) (only torn.0 torn.1) torn.2 in
    let long = (sound old bodies here.records).long in
    format_kept from.middle old c bodies text here (patched_torn 11 1 old c (omega (arith, long)) from)

-- what stands once it is written
pub record Formatted (bodies : List (List ℕ)) (text old new : List ℕ) : Type 0 where
  pub here : Stands bodies text new
  pub base : base_of new ≡ base_of old
  pub selector : slice_index new 9 ≡ slice_index old 9
  pub choice : slice_index new 10 ≡ slice_index old 10
  pub kind : slice_index new 11 ≡ 2

pub formatted : (bodies : List (List ℕ)) (text old new : List ℕ) → Stands bodies text old → new ≡ overwritten 11 (2 ∷ []) old → Formatted bodies text old new
formatted bodies text old new here written =
    let long = (sound old bodies here.records).long in
    let p = patched_written 11 (2 ∷ []) old new (omega (arith, long)) written in
    let at10 = index-before 11 1 (2 ∷ []) old new p 10 (omega arith) in
    record {
      here = format_kept (2 ∷ []) old new bodies text here p;
      base = base-kept 11 1 (2 ∷ []) old new p bodies (omega arith) at10 here.records;
      selector = index-before 11 1 (2 ∷ []) old new p 9 (omega arith);
      choice = at10;
      kind = sym (get_or-drop 11 new 0 0) ∙ sym (get_or-take 1 (drop 11 new) 0 0 (omega arith)) ∙ ap (λ l. get_or l 0 0) (inside 11 1 (2 ∷ []) old new p);
    }
