-- The entries since the last sync, read one after another, tell which places were written.
use Rattle.std.proofs.Common.{subst, length-drop, ◌≡◌, ◌⊎◌, ⊎_elim, inl, inr, ℕ, ◌+◌, ◌-◌, ◌<◌, ◌≤◌, ◌^◌, Bool, true, false, ◌&&◌, ◌||◌, nat_le, nat_lt, List, [], ◌∷◌, ◌++◌, length, take, drop, refl, sym, ap, ◌∙◌, arith, append_assoc, length-append}
use Rattle.std.proofs.lemmas.Bool.Decides.{nat_tests}
use Rattle.std.proofs.lemmas.List.{append-nil, drop-drop, drop_at}
use Rattle.std.proofs.lemmas.Nat.{from_be_bytes-to_be_bytes_8}
use Rattle.std.specs.Int.{w64, from_be_bytes}
use Rattle.rel_disk.specs.Calls.{Call, wrote, cut_to, synced, since_sync}
use Rattle.rel_disk.specs.LogBytes.{entry, entry_of, entries_of, AllFit}
use Rattle.rel_disk.specs.Picks.{is_written}

-- ---- calls, oldest first
abbrev has : ℕ → Call → Bool
has i (wrote at bytes) = nat_le at i && nat_lt (i - at) (length bytes)
has i (cut_to len) = false
has i synced = false

abbrev any_has : ℕ → List Call → Bool
any_has i [] = false
any_has i (call ∷ later) = has i call || any_has i later

abbrev in_order : List Call → List ℕ
in_order [] = []
in_order (call ∷ later) = entry_of call ++ in_order later

-- calls, newest first, turned before later ones
abbrev turned : List Call → List Call → List Call
turned [] later = later
turned (call ∷ older) later = turned older (call ∷ later)

turned_entries : (calls later : List Call) → in_order (turned calls later) ≡ entries_of calls ++ in_order later
turned_entries [] later = refl
turned_entries (call ∷ older) later = turned_entries older (call ∷ later) ∙ sym (append_assoc (entries_of older) (entry_of call) (in_order later))

turned_fit : (calls later : List Call) → AllFit calls → AllFit later → AllFit (turned calls later)
turned_fit [] later fit after = after
turned_fit (wrote at bytes ∷ older) later fit after = turned_fit older (wrote at bytes ∷ later) fit.2 (fit.0, fit.1, after)
turned_fit (cut_to len ∷ older) later fit after = turned_fit older (cut_to len ∷ later) fit.1 (fit.0, after)
turned_fit (synced ∷ older) later fit after = turned_fit older (synced ∷ later) fit after

swapped : (a b c : Bool) → (a || (b || c)) ≡ ((b || a) || c)
swapped true true c = refl
swapped true false c = refl
swapped false true c = refl
swapped false false c = refl

or_false : (b : Bool) → (b || false) ≡ b
or_false true = refl
or_false false = refl

turned_has : (i : ℕ) (calls later : List Call) → any_has i (turned calls later) ≡ (any_has i calls || any_has i later)
turned_has i [] later = refl
turned_has i (call ∷ older) later = turned_has i older (call ∷ later) ∙ swapped (any_has i older) (has i call) (any_has i later)

since_has : (i : ℕ) (calls : List Call) → any_has i (since_sync calls) ≡ is_written i calls
since_has i [] = refl
since_has i (wrote at bytes ∷ older) = ap (λ (b : Bool). has i (wrote at bytes) || b) (since_has i older)
since_has i (cut_to len ∷ older) = since_has i older
since_has i (synced ∷ older) = refl

since_fit : (calls : List Call) → AllFit calls → AllFit (since_sync calls)
since_fit [] fit = tt
since_fit (wrote at bytes ∷ older) fit = (fit.0, fit.1, since_fit older fit.2)
since_fit (cut_to len ∷ older) fit = (fit.0, since_fit older fit.1)
since_fit (synced ∷ older) fit = tt

-- ---- a walk over them
-- Entries of calls are left, and one of these calls has the place in its range where any call since the last sync has.
pub record Walk (place : ℕ) (calls : List Call) (left : List ℕ) : Type 0 where
  pub later : List Call
  pub is : left ≡ in_order later
  pub fit : AllFit later
  pub same : any_has place later ≡ is_written place calls

walk_begins : (place : ℕ) (calls : List Call) (left : List ℕ) → left ≡ entries_of (since_sync calls) → AllFit calls → Walk place calls left
walk_begins place calls left is fit = record {
  later = turned (since_sync calls) [];
  is = is ∙ sym (turned_entries (since_sync calls) [] ∙ append-nil (entries_of (since_sync calls)));
  fit = turned_fit (since_sync calls) [] (since_fit calls fit) tt;
  same = turned_has place (since_sync calls) [] ∙ or_false (any_has place (since_sync calls)) ∙ since_has place calls;
}

-- the walk is over
ends : (place : ℕ) (left : List ℕ) (later : List Call) → left ≡ in_order later → length left ≡ 0 → false ≡ any_has place later
ends place left [] is none = refl
ends place left (wrote at bytes ∷ rest) is none = absurd (omega (arith, ap length is))
ends place left (cut_to len ∷ rest) is none = absurd (omega (arith, ap length is))
ends place left (synced ∷ rest) is none = absurd (omega (arith, ap length is))

walk_ends : (place : ℕ) (calls : List Call) (left : List ℕ) → Walk place calls left → length left ≡ 0 → false ≡ is_written place calls
walk_ends place calls left walk none = ends place left walk.later walk.is none ∙ walk.same

-- an entry has its head
head : (left : List ℕ) (later : List Call) → left ≡ in_order later → 0 < length left → 17 ≤ length left
head left [] is some = absurd (omega (arith, ap length is))
head left (wrote at bytes ∷ rest) is some = omega (arith, ap length is)
head left (cut_to len ∷ rest) is some = omega (arith, ap length is)
head left (synced ∷ rest) is some = omega (arith, ap length is)

walk_head : (place : ℕ) (calls : List Call) (left : List ℕ) → Walk place calls left → 0 < length left → 17 ≤ length left
walk_head place calls left walk some = head left walk.later walk.is some

-- what an entry is read as, and what follows it
record Reads (left : List ℕ) (at : ℕ) (bytes rest : List ℕ) : Type 0 where
  first : from_be_bytes w64 (take 8 (drop 1 left)) ≡ at
  second : from_be_bytes w64 (take 8 (drop 9 left)) ≡ length bytes
  long : 17 + length bytes ≤ length left
  after : drop (17 + length bytes) left ≡ rest

reads : (left : List ℕ) (kind at : ℕ) (bytes rest : List ℕ) → left ≡ entry kind at bytes ++ rest → at < 2 ^ 64 → length bytes < 2 ^ 64 → Reads left at bytes rest
reads left kind at bytes rest is at_fits size_fits = record {
  first = ap (λ (l : List ℕ). from_be_bytes w64 (take 8 (drop 1 l))) is ∙ from_be_bytes-to_be_bytes_8 at at_fits;
  second = ap (λ (l : List ℕ). from_be_bytes w64 (take 8 (drop 9 l))) is ∙ from_be_bytes-to_be_bytes_8 (length bytes) size_fits;
  long = omega (arith, ap length is, length-append bytes rest);
  after = ap (drop (17 + length bytes)) is ∙ sym (drop-drop (length bytes) 17 (entry kind at bytes ++ rest)) ∙ drop_at bytes rest (length bytes) refl;
}

inside : (place at n : ℕ) → at ≤ place → place - at < n → (nat_le at place && nat_lt (place - at) n) ≡ true
inside place at n from to = grind (arith, nat_tests)

outside : (place at n : ℕ) → (place < at) ⊎ (n ≤ place - at) → (nat_le at place && nat_lt (place - at) n) ≡ false
outside place at n (inl before) = grind (arith, nat_tests)
outside place at n (inr past) = grind (arith, nat_tests)

-- the numbers of the first entry tell whether its call has the place, and where the next one begins
record Step (place : ℕ) (calls : List Call) (left : List ℕ) (at count : ℕ) : Type 0 where
  whole : 17 + count ≤ length left
  found : at ≤ place → place - at < count → true ≡ is_written place calls
  goes_on : (place < at) ⊎ (count ≤ place - at) → Walk place calls (drop (17 + count) left)

one : (place : ℕ) (calls : List Call) (left : List ℕ) (call : Call) (rest : List Call) (from : ℕ) (bytes : List ℕ) → Reads left from bytes (in_order rest) → AllFit rest
    → any_has place (call ∷ rest) ≡ is_written place calls → has place call ≡ (nat_le from place && nat_lt (place - from) (length bytes))
    → (at count : ℕ) → at ≡ from_be_bytes w64 (take 8 (drop 1 left)) → count ≡ from_be_bytes w64 (take 8 (drop 9 left)) → Step place calls left at count
one place calls left call rest from bytes r fit same has_is at count is_at is_count =
    let at_is : at ≡ from = is_at ∙ r.first in
    let count_is : count ≡ length bytes = is_count ∙ r.second in
    record {
      whole = omega (arith, r.long);
      found = λ le lt. sym (ap (λ (b : Bool). b || any_has place rest) (has_is ∙ inside place from (length bytes) (omega (arith, le)) (omega (arith, lt)))) ∙ same;
      goes_on = λ apart. record {
        later = rest;
        is = ap (λ (n : ℕ). drop (17 + n) left) count_is ∙ r.after;
        fit = fit;
        same =
            sym (ap (λ (b : Bool). b || any_has place rest) (has_is ∙ outside place from (length bytes) (⊎_elim (λ before. inl (omega (arith, before))) (λ past. inr (omega (arith, past))) apart)))
            ∙ same;
      };
    }

steps : (place : ℕ) (calls : List Call) (left : List ℕ) (later : List Call) → left ≡ in_order later → AllFit later → any_has place later ≡ is_written place calls → 0 < length left
    → (at count : ℕ) → at ≡ from_be_bytes w64 (take 8 (drop 1 left)) → count ≡ from_be_bytes w64 (take 8 (drop 9 left)) → Step place calls left at count
steps place calls left [] is fit same some at count is_at is_count = absurd (omega (arith, ap length is))
steps place calls left (wrote from bytes ∷ rest) is fit same some at count is_at is_count =
    one place calls left (wrote from bytes) rest from bytes (reads left 1 from bytes (in_order rest) is fit.0 fit.1) fit.2 same refl at count is_at is_count
steps place calls left (cut_to len ∷ rest) is fit same some at count is_at is_count =
    one place calls left (cut_to len) rest len [] (reads left 2 len [] (in_order rest) is fit.0 (omega arith)) fit.1 same (sym (outside place len 0 (inr (omega arith)))) at count is_at is_count
steps place calls left (synced ∷ rest) is fit same some at count is_at is_count =
    one place calls left synced rest 0 [] (reads left 0 0 [] (in_order rest) is (omega arith) (omega arith)) fit same (sym (outside place 0 0 (inr (omega arith)))) at count is_at is_count

walk_steps : (place : ℕ) (calls : List Call) (left : List ℕ) → Walk place calls left → 0 < length left
    → (at count : ℕ) → at ≡ from_be_bytes w64 (take 8 (drop 1 left)) → count ≡ from_be_bytes w64 (take 8 (drop 9 left)) → Step place calls left at count
walk_steps place calls left walk some at count is_at is_count = steps place calls left walk.later walk.is walk.fit walk.same some at count is_at is_count

-- ---- the walk by places in the entries
-- the walk has come to this place
pub record ComesTo (place : ℕ) (calls : List Call) (entries : List ℕ) (from : ℕ) : Type 0 where
  pub within : from ≤ length entries
  pub walk : Walk place calls (drop from entries)

pub begins : (place : ℕ) (calls : List Call) (entries : List ℕ) → entries ≡ entries_of (since_sync calls) → AllFit calls → ComesTo place calls entries 0
begins place calls entries is fit = record { within = omega arith; walk = walk_begins place calls entries is fit }

pub is_over : (place : ℕ) (calls : List Call) (entries : List ℕ) (from : ℕ) → ComesTo place calls entries from → length entries ≤ from → false ≡ is_written place calls
is_over place calls entries from here all = walk_ends place calls (drop from entries) here.walk (length-drop from entries ∙ omega arith)

pub has_head : (place : ℕ) (calls : List Call) (entries : List ℕ) (from : ℕ) → ComesTo place calls entries from → from < length entries → from + 17 ≤ length entries
has_head place calls entries from here some = omega (arith, walk_head place calls (drop from entries) here.walk (omega (arith, length-drop from entries)), length-drop from entries)

-- what the two numbers there tell
pub record GoesOn (place : ℕ) (calls : List Call) (entries : List ℕ) (from at count : ℕ) : Type 0 where
  pub whole : from + (17 + count) ≤ length entries
  pub found : at ≤ place → place - at < count → true ≡ is_written place calls
  pub further : (place < at) ⊎ (count ≤ place - at) → ComesTo place calls entries (from + (17 + count))

pub goes_on : (place : ℕ) (calls : List Call) (entries : List ℕ) (from : ℕ) → ComesTo place calls entries from → from < length entries
    → (at count : ℕ) → at ≡ from_be_bytes w64 (take 8 (drop (from + 1) entries)) → count ≡ from_be_bytes w64 (take 8 (drop (from + 9) entries)) → GoesOn place calls entries from at count
goes_on place calls entries from here some at count is_at is_count =
    let number : (n : ℕ) → from_be_bytes w64 (take 8 (drop (from + n) entries)) ≡ from_be_bytes w64 (take 8 (drop n (drop from entries)))
    = λ n. ap (λ (l : List ℕ). from_be_bytes w64 (take 8 l)) (sym (drop-drop n from entries)) in
    let step : Step place calls (drop from entries) at count = walk_steps place calls (drop from entries) here.walk (omega (arith, length-drop from entries)) at count (is_at ∙ number 1) (is_count ∙ number 9) in
    let whole : from + (17 + count) ≤ length entries = omega (arith, step.whole, length-drop from entries) in
    record {
      whole = whole;
      found = step.found;
      further = λ apart. record { within = whole; walk = subst (Walk place calls) (drop-drop (17 + count) from entries) (step.goes_on apart) };
    }
