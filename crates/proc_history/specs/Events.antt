-- What happens to a process, and the history of a slot.
use Rattle.std.specs.Prelude.{◌≡◌, ◌⊎◌, ℕ, zero, suc, ◌==◌, List, [], ◌∷◌, if◌then◌else◌}
use Rattle.erl_term.specs.Value as term
use Rattle.mod_table.specs.Table.{OldVersion, WorkerTable}
use Rattle.proc_history.specs.declared.beginning.Beginning.{Beginning}
use Rattle.proc_history.specs.declared.value.Outcome.{Outcome}

-- begin: a process with this round. call: a call with this input had this outcome. loaded: the process has this table.
-- changed: its code was changed from this version, with this extra term.
pub data Event : Type 0 where
  begin : ℕ → Beginning → Event
  call : ℕ → Outcome → Event
  loaded : WorkerTable → Event
  changed : OldVersion → term.Value → Event
  stopped : Event
  started : Event
  given_up : Event

-- who did it, 0 for the handler and else the number of a pass, and what was done
pub record HistoryEntry : Type 0 where
  pub by : ℕ
  pub event : Event

abbrev pub entry : ℕ → Event → HistoryEntry
entry n e = record { by = n; event = e }

-- the entries of one number, in order
abbrev pub own : ℕ → List HistoryEntry → List HistoryEntry
own n [] = []
own n (e ∷ es) = if e.by == n then e ∷ own n es else own n es

-- what only a pass does
abbrev pub IsCall : Event → Type 0
IsCall (call input o) = Unit {0}
IsCall e = ⊥

-- the handler's entries, with no call among them
abbrev pub ByHandler : List HistoryEntry → Type 0
ByHandler [] = Unit {0}
ByHandler (e ∷ es) = (e.by ≡ 0) × (¬ IsCall e.event) × ByHandler es

-- who may do what: the handler all but calls, and a client calls alone
abbrev pub MayDo : ℕ → Event → Type 0
MayDo zero e = ¬ IsCall e
MayDo (suc n) e = IsCall e

-- what a seat may add to a history at once: the handler a list without a call, a pass one call or nothing
abbrev pub MayAdd : ℕ → List HistoryEntry → Type 0
MayAdd zero es = ByHandler es
MayAdd (suc n) es = (es ≡ []) ⊎ ((input : ℕ) × (o : Outcome) × (es ≡ entry (suc n) (call input o) ∷ []))
