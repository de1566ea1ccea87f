-- What a seat knows: its view.
use Rattle.std.specs.Prelude.{ℕ, zero, suc, ◌+◌, ◌==◌, Bool, true, false, not, List, [], ◌∷◌, ◌++◌, map, filter, replicate, slice_set, Some, None, Contains}
use Rattle.proc_table.specs.declared.view.View.{View}
use Rattle.proc_history.specs.Events.{HistoryEntry}
use Rattle.proc_table.specs.Parts.{Part, part, part_of, unseen, only_seen, joined_parts}

abbrev pub view : ℕ → ℕ → List Part → View
view number count parts = record { number = number; count = count; lent = []; parts = parts; found = []; guest = None; spent = false }

abbrev pub seen : View → ℕ → List HistoryEntry
seen v p = (part_of v.parts p).seen

abbrev pub mine : View → ℕ → List HistoryEntry
mine v p = (part_of v.parts p).mine

abbrev pub is_out : View → ℕ → Bool
is_out v p = (part_of v.parts p).out

-- the handler has lent the pass of this number, and not taken it back
abbrev pub IsLent : View → ℕ → Type 0
IsLent v n = Contains v.lent n

-- the other numbers
abbrev pub all_but : ℕ → List ℕ → List ℕ
all_but n ns = filter (λ m. not (m == n)) ns

-- the word of a slot whose value this seat has
abbrev pub word_of : ℕ → ℕ
word_of zero = 2
word_of (suc n) = 1

abbrev pub with_part : View → ℕ → Part → View
with_part v p x = record v { parts = slice_set v.parts p x }

-- after a take of the slot that found this word
abbrev pub found_more : View → ℕ → ℕ → View
found_more v p n = record v { found = v.found ++ (p, n) ∷ [] }

-- after a take that found the slot free and got it, with its whole history
abbrev pub taken : View → ℕ → List HistoryEntry → View
taken v p h = found_more (with_part v p (part h (mine v p) true false)) p 0

abbrev pub no_guest : View → View
no_guest v = record v { guest = None }

-- the handler's after it made a pass, and the pass
abbrev pub one_more : View → View
one_more v = record v { count = v.count + 1; lent = (v.count + 1) ∷ v.lent }

abbrev pub new_pass : View → View
new_pass v = view (v.count + 1) 0 (map only_seen v.parts)

-- the first seat's after a join, and the second's
abbrev pub joined : View → View → View
joined v w = record v {
  lent = all_but w.number v.lent;
  parts = joined_parts v.parts w.parts;
  guest = Some (record { number = w.number; lent = v.lent; before = v.parts; parts = w.parts });
}

abbrev pub gone : View
gone = record { number = 0; count = 0; lent = []; parts = []; found = []; guest = None; spent = true }

-- the handler's at the start
abbrev pub handler_view : ℕ → View
handler_view slots = view 0 0 (replicate slots unseen)
