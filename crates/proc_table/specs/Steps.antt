-- What each step asks of the seat that makes it, and what it reports.
use Rattle.std.specs.Prelude.{◌≡◌, ◌⊎◌, ◌==◌, ℕ, Bool, true, false, List, [], ◌∷◌, ◌++◌, MatchBool, length, Some, None, Contains}
use mathlib.Core.List.{IsPrefix}
use Rattle.atomic_table.specs.Table as table
use Rattle.proc_table.specs.declared.view.View.{View}
use Rattle.proc_history.specs.declared.value.Value.{Value}
use Rattle.proc_history.specs.Events.{HistoryEntry, own}
use Rattle.proc_table.specs.Parts.{Guest, part, part_of}
use Rattle.proc_history.specs.Histories.{replay, IsLegal}
use Rattle.proc_table.specs.Views.{seen, mine, is_out, with_part, taken, found_more, no_guest}
use Rattle.proc_table.specs.Agrees.{slots}
use Rattle.proc_table.specs.Places.{place_of, slot_at, hand}
use Rattle.proc_history.specs.Events.{MayAdd}

-- a view, and the values that are out with it, each with the place of its slot
abbrev pub Me : Type 0
Me = table.Me Value View

-- it may step
pub record Ready (v : View) : Type 0 where
  pub live : v.spent ≡ false
  pub alone : v.guest ≡ None

-- This is the whole history of the slot: what was seen, then entries of others, of which there are none where the handler has
-- lent no pass. It is legal, and the own entries in it are `mine`.
pub record Fresh (v : View) (p : ℕ) (h : List HistoryEntry) : Type 0 where
  pub between : List HistoryEntry
  pub is : h ≡ seen v p ++ between
  pub strangers : own v.number between ≡ []
  pub alone : v.number ≡ 0 → v.lent ≡ [] → between ≡ []
  pub legal : IsLegal h
  pub once : own v.number h ≡ mine v p

-- The slot is out, and its word was 0: its whole history is seen, and its value is what that leaves.
pub record Took (p : ℕ) (me w : Me) : Type 0 where
  pub h : List HistoryEntry
  pub fresh : Fresh me.0 p h
  pub is : w ≡ (taken me.0 p h, (place_of p, replay h) ∷ me.1)

-- another has the slot: a pass at word 1, the handler at word 2
pub record Missed (p n : ℕ) (me w : Me) : Type 0 where
  pub word : (n ≡ 1) ⊎ (n ≡ 2)
  pub is : w ≡ (found_more me.0 p n, me.1)

abbrev pub took_or_missed : table.Step Value → Me → ℕ → Me → Type 0
took_or_missed st me n w = MatchBool (n == 0) (Took (slot_at st.word) me w) (Missed (slot_at st.word) n me w)

-- The seat may add these entries to the slot's history and give back its value, which is then what the history leaves.
pub record Adding (entries : List HistoryEntry) (p : ℕ) (me : Me) : Type 0 where
  pub ready : Ready me.0
  pub out : is_out me.0 p ≡ true
  pub may : MayAdd me.0.number entries
  pub legal : IsLegal (seen me.0 p ++ entries)
  pub value : me.1 ≡ hand p (replay (seen me.0 p ++ entries))

abbrev pub given : View → ℕ → List HistoryEntry → View
given v p entries = with_part v p (part (seen v p ++ entries) (mine v p ++ entries) false false)

abbrev pub gave : List HistoryEntry → table.Step Value → Me → ℕ → Me → Type 0
gave entries st me n w = w ≡ (given me.0 (slot_at st.word) entries, [])

abbrev pub with_laid : View → ℕ → Bool → View
with_laid v p laid = with_part v p (part (seen v p) (mine v p) true laid)

abbrev pub laid_down : table.Step Value → Me → ℕ → Me → Type 0
laid_down st me n w = w ≡ (with_laid me.0 (slot_at st.word) true, [])

abbrev pub lifted : table.Step Value → Me → ℕ → Me → Type 0
lifted st me n w = (y : Value) × (w ≡ (with_laid me.0 (slot_at st.word) false, (st.word, y) ∷ []))

-- what was seen of each slot is legal, and the own entries in it are `mine`
pub record Known (v : View) : Type 0 where
  pub parts : length v.parts ≡ slots
  pub once : (p : ℕ) → own v.number (seen v p) ≡ mine v p
  pub legal : (p : ℕ) → IsLegal (seen v p)

-- Of a pass that was joined: what either had seen begins what is seen now, in which the own entries of the joined pass are its
-- `mine`. What is out was seen whole. The handler had seen before all entries in it but those of the passes that it had lent.
pub record Met (v : View) (g : Guest) : Type 0 where
  pub held : (p : ℕ) → is_out v p ≡ true → seen v p ≡ (part_of g.before p).seen
  pub first : (p : ℕ) → IsPrefix (part_of g.before p).seen (seen v p)
  pub second : (p : ℕ) → IsPrefix (part_of g.parts p).seen (seen v p)
  pub once : (p : ℕ) → own g.number (seen v p) ≡ (part_of g.parts p).mine
  pub settled : v.number ≡ 0 → (p n : ℕ) → ¬ Contains g.lent n → own n (seen v p) ≡ own n (part_of g.before p).seen

pub record Learnt (me w : Me) : Type 0 where
  pub known : Known me.0
  pub met : (g : Guest) → me.0.guest ≡ Some g → Met me.0 g
  pub is : w ≡ (no_guest me.0, me.1)

abbrev pub learnt : table.Step Value → Me → ℕ → Me → Type 0
learnt st me n w = Learnt me w

-- The seat has the slot's value, and has seen its whole history.
pub record InHand (p : ℕ) (me : Me) : Type 0 where
  pub ready : Ready me.0
  pub out : is_out me.0 p ≡ true
  pub legal : IsLegal (seen me.0 p)
  pub value : me.1 ≡ hand p (replay (seen me.0 p))
