-- Where each slot lies in the base table. Eight words lie in one line of a processor's cache.
use Rattle.std.specs.Prelude.{◌≡◌, ◌⊎◌, ℕ, suc, ◌+◌, ◌*◌, ◌/◌, ◌%◌, ◌<◌, ◌≤◌, List, [], ◌∷◌, length}
use mathlib.Core.Option as base
use lib.ListN.{get_elem?}
use Rattle.proc_history.specs.declared.value.Value.{Value}
use Rattle.proc_table.specs.Agrees.{slots, States, state}
use Rattle.proc_table.specs.Moves.{Reached}

-- The place of a slot, whose number has three digits, to the bases 8, 4 and 8. The place has them in reverse.
unfoldable pub place_of : ℕ → ℕ
place_of p = p % 8 * 32 + p / 8 % 4 * 8 + p / 32

-- The slot that has this place: digits that are reversed twice are as before.
abbrev pub slot_at : ℕ → ℕ
slot_at = place_of

-- The slot is one of the table's, and this is its place.
pub record LiesAt (p place : ℕ) : Type 0 where
  pub inside : p < slots
  pub is : place ≡ place_of p

-- What a seat has in hand that has the value of this slot alone, with its place.
abbrev pub hand : ℕ → Value → List (ℕ × Value)
hand p y = (place_of p, y) ∷ []

-- The second list has in the order of the slots what the first has at their places.
pub record BySlot {A : Type 0} (laid sorted : List A) : Type 0 where
  pub long : length laid ≡ slots
  pub as_long : length sorted ≡ slots
  pub each : (p : ℕ) → p < slots → get_elem? laid (place_of p) ≡ get_elem? sorted p

-- What the table keeps: some run leads from the start to what it is, in the order of the slots.
pub record ReachedBySlot (s : States) : Type 0 where
  pub words : List ℕ
  pub homes : List (base.Option Value)
  pub words_are : BySlot s.words words
  pub homes_are : BySlot s.homes homes
  pub reached : Reached (state words homes s.views)

-- Two slots have places that are eight or more apart: no line of eight words has the words of both.
abbrev pub LieApart : ℕ → ℕ → Type 0
LieApart p q = (place_of p + 8 ≤ place_of q) ⊎ (place_of q + 8 ≤ place_of p)

-- Each slot has a place of its own. Neighbouring slots lie apart, and so do any two of the lowest 32.
pub record SlotsLieApart : Type 0 where
  pub inside : (p : ℕ) → p < slots → place_of p < slots
  pub own : (p : ℕ) → p < slots → slot_at (place_of p) ≡ p
  pub neighbours : (p : ℕ) → suc p < slots → LieApart p (suc p)
  pub lowest : (p q : ℕ) → p < q → q < 32 → LieApart p q
