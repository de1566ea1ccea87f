-- What the ends of a mailbox know, and what a mailbox keeps.
use Rattle.std.specs.Prelude.{◌≡◌, ◌<◌, ◌≤◌, ℕ, ◌+◌, ◌==◌, List, [], ◌∷◌, ◌++◌, length, map, if◌then◌else◌}
use mathlib.Core.Option.{some}
use lib.ListN.{get_elem?}
use Rattle.proc_workers.specs.declared.hand.Hand.{Hand}
use Rattle.proc_workers.specs.declared.note.Note.{Note}

-- an end that made no end yet, added no note and took none
abbrev pub fresh_hand : List ℕ → Hand
fresh_hand name = record { name = name; made = 0; sent = []; taken = [] }

-- the first end: it reads, and no end made it
abbrev pub first_hand : Hand
first_hand = fresh_hand []

-- the end that this one makes next
abbrev pub next_hand : Hand → Hand
next_hand v = fresh_hand (v.made ∷ v.name)

-- the same end, with one made more
abbrev pub with_end_made : Hand → Hand
with_end_made v = record { name = v.name; made = v.made + 1; sent = v.sent; taken = v.taken }

-- the same end, with this note added more
abbrev pub with_note_sent : Note → Hand → Hand
with_note_sent note v = record { name = v.name; made = v.made; sent = v.sent ++ note ∷ []; taken = v.taken }

-- the same end, with this note taken more
abbrev pub with_note_taken : Note → Hand → Hand
with_note_taken note v = record { name = v.name; made = v.made; sent = v.sent; taken = v.taken ++ note ∷ [] }

-- A note with the number of the end that added it. The order of a mailbox is a list of these.
abbrev pub Added : Type 0
Added = ℕ × Note

-- the notes that this end added, in order
abbrev pub notes_of : ℕ → List Added → List Note
notes_of n [] = []
notes_of n (a ∷ more) = if a.0 == n then a.1 ∷ notes_of n more else notes_of n more

-- The end with this number knows what it added. The inbox took all but what waits.
pub record FitsHand (order : List Added) (waiting : List Note) (n : ℕ) (v : Hand) : Type 0 where
  pub sent : notes_of n order ≡ v.sent
  pub taken : v.name ≡ [] → map (λ a. a.1) order ≡ v.taken ++ waiting

-- this hand is among these
abbrev pub IsHandOf : List Hand → Hand → Type 0
IsHandOf hands v = (n : ℕ) × (get_elem? hands n ≡ some v)

-- No two of these hands have one name. The first end's is among them, and with each those of the ends that it made.
pub record AreWhole (hands : List Hand) : Type 0 where
  pub differ : (n m : ℕ) (v w : Hand) → get_elem? hands n ≡ some v → get_elem? hands m ≡ some w → v.name ≡ w.name → n ≡ m
  pub first : (v : Hand) × IsHandOf hands v × (v.name ≡ [])
  pub made : (v : Hand) (k : ℕ) → IsHandOf hands v → k < v.made → (w : Hand) × IsHandOf hands w × (w.name ≡ k ∷ v.name)

-- each but the first end was made by one of these
abbrev pub HaveMakers : List Hand → Type 0
HaveMakers hands = (w : Hand) (k : ℕ) (name : List ℕ) → IsHandOf hands w → w.name ≡ k ∷ name → (v : Hand) × IsHandOf hands v × (v.name ≡ name) × (k < v.made)

-- The notes that were ever added stand in one order, which fits what each end knows. Each note was added by an end of the
-- mailbox. The ends are the first, those that it made, those that these made, and so on.
pub record Delivers (waiting : List Note) (hands : List Hand) : Type 0 where
  pub order : List Added
  pub each : (n : ℕ) (v : Hand) → get_elem? hands n ≡ some v → FitsHand order waiting n v
  pub known : (n : ℕ) → length hands ≤ n → notes_of n order ≡ []
  pub whole : AreWhole hands
  pub makers : HaveMakers hands

-- these hands are of ends of a mailbox whose ends have those
abbrev pub AreHandsOf : List Hand → List Hand → Type 0
AreHandsOf hands these = (v : Hand) → IsHandOf these v → IsHandOf hands v

-- the notes, each counted by its weight
abbrev pub weigh : (Note → ℕ) → List Note → ℕ
weigh h [] = 0
weigh h (n ∷ ns) = h n + weigh h ns

-- what ends with these hands have added, counted so
abbrev pub weigh_all : (Note → ℕ) → List Hand → ℕ
weigh_all h [] = 0
weigh_all h (v ∷ vs) = weigh h v.sent + weigh_all h vs

-- However notes are counted: what the first end and all that came of it have added is what the first end took and what waits.
-- No other end has added anything, so whoever knows these ends knows all.
abbrev pub NothingIsLost : Type 0
NothingIsLost = (waiting : List Note) (hands : List Hand) → Delivers waiting hands → (these : List Hand) → AreWhole these → AreHandsOf hands these
    → (v : Hand) → IsHandOf these v → v.name ≡ [] → (h : Note → ℕ) → weigh_all h these ≡ weigh h v.taken + weigh h waiting

-- in a mailbox whose ends have these hands no note waits
abbrev pub NothingWaits : List Hand → Type 0
NothingWaits these = (waiting : List Note) (hands : List Hand) → Delivers waiting hands → AreHandsOf hands these → waiting ≡ []
