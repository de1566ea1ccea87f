-- A process may begin where none stands.
use Rattle.std.proofs.Common.{◌≡◌, ℕ, ◌+◌, List, [], ◌∷◌, ◌++◌, ap, sym, subst, ◌∙◌, arith, None}
use Rattle.proc_history.specs.declared.value.Value.{Value}
use Rattle.proc_history.specs.declared.beginning.Beginning.{Beginning}
use Rattle.proc_history.specs.Events.{HistoryEntry, MayDo, entry}
use Rattle.proc_history.specs.Events.Event.{begin}
use Rattle.proc_history.specs.Histories.{replay, IsLegal}
use Rattle.proc_history.specs.Values.{nothing, after, MayCome}
use Rattle.proc_history.specs.Releases.{begin_of}
use Rattle.proc_history.proofs.Entries.{replay-append, legal-append}

-- an event that may come after a history keeps it legal, and leaves what it makes of the value
pub record Adds (h : List HistoryEntry) (e : HistoryEntry) (y : Value) : Type 0 where
  pub legal : IsLegal (h ++ e ∷ [])
  pub value : y ≡ replay (h ++ e ∷ [])

pub event_adds : (h : List HistoryEntry) (x y : Value) (e : HistoryEntry) → IsLegal h → x ≡ replay h → MayDo e.by e.event → MayCome x e.event → y ≡ after x e.event → Adds h e y
event_adds h x y e legal is by may left = record {
  legal = legal-append nothing h (e ∷ []) legal (by, subst (λ z. MayCome z e.event) is may, tt);
  value = left ∙ (ap (λ z. after z e.event) is ∙ sym (replay-append nothing h (e ∷ [])));
}

-- a process that begins where none stands
pub begin_adds : (h : List HistoryEntry) (x y : Value) (b : Beginning) (round : ℕ) → IsLegal h → x ≡ replay h → x.now ≡ None → round ≡ x.round + 1 → y ≡ after x (begin round b)
    → Adds h (entry 0 (begin_of y.round y.now)) y
begin_adds h x y b round legal is none next left =
    subst (λ (z : Value). Adds h (entry 0 (begin_of z.round z.now)) y) (sym left)
    (event_adds h x y (entry 0 (begin round b)) legal is (λ c. c) (none, omega arith) left)
