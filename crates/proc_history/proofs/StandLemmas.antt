-- What stands in a slot, and its round, are the handler's doing: entries of others leave them.
use Rattle.std.proofs.Common.{◌≡◌, ◌==◌, ℕ, zero, suc, ◌+◌, false, if◌then◌else◌, List, [], ◌∷◌, ◌++◌, refl, ap, sym, ◌∙◌, Option, Some, None, is_some, option_map, arith}
use Rattle.std.proofs.lemmas.Bool.Decides.{nat_tests}
use Rattle.proc_history.specs.declared.value.Value.{Value}
use Rattle.proc_history.specs.declared.value.Now.{Now}
use Rattle.proc_history.specs.Events.{Event, HistoryEntry, MayDo, entry, own}
use Rattle.proc_history.specs.Events.Event.{call}
use Rattle.proc_history.specs.Values.{nothing, after, next_round}
use Rattle.proc_history.specs.Histories.{replay, replay_from, LegalFrom, IsLegal}
use Rattle.proc_history.proofs.Entries.{replay-append}

-- in both a process stands, or in neither, and with one round
pub record StandAlike (x y : Value) : Type 0 where
  pub stands : is_some y.now ≡ is_some x.now
  pub round : y.round ≡ x.round

still_stands : (o : Option Now) (f : Now → Now) → is_some (option_map f o) ≡ is_some o
still_stands None f = refl
still_stands (Some n) f = refl

by_others : (v : Value) (n : ℕ) (e : Event) (es : List HistoryEntry) → own 0 (entry n e ∷ es) ≡ [] → MayDo n e → StandAlike v (after v e) × (own 0 es ≡ [])
by_others v zero e es none may = absurd (cc)
by_others v (suc n) (call i o) es none may =
    let no : (suc n == 0) ≡ false = grind (arith, nat_tests) in
    (record { stands = still_stands v.now _; round = refl }, sym (ap (λ b. if b then entry (suc n) (call i o) ∷ own 0 es else own 0 es) no) ∙ none)
by_others v (suc n) e es none may = absurd may

-- after entries of others, which are calls
pub others_leave : (v : Value) (es : List HistoryEntry) → own 0 es ≡ [] → LegalFrom v es → StandAlike v (replay_from v es)
others_leave v [] none legal = record { stands = refl; round = refl }
others_leave v (e ∷ es) none legal =
    let first = by_others v e.by e.event es none legal.0 in
    let rest = others_leave (after v e.event) es first.1 legal.2 in
    record { stands = rest.stands ∙ first.0.stands; round = rest.round ∙ first.0.round }

pub legal_rest : (v : Value) (g h : List HistoryEntry) → LegalFrom v (g ++ h) → LegalFrom (replay_from v g) h
legal_rest v [] h l = l
legal_rest v (e ∷ es) h l = legal_rest (after v e.event) es h l.2

pub next_alike : (x y : Value) → StandAlike x y → next_round y ≡ next_round x
next_alike x y a = λ i. if a.stands i then None else if a.round i == 4294967295 then None else Some (a.round i + 1)

-- a process can begin after entries of others where it could before, with the same round
pub next_stays : (g es : List HistoryEntry) → own 0 es ≡ [] → IsLegal (g ++ es) → next_round (replay (g ++ es)) ≡ next_round (replay g)
next_stays g es none legal =
    ap next_round (replay-append nothing g es)
    ∙ next_alike (replay g) (replay_from (replay g) es) (others_leave (replay g) es none (legal_rest nothing g es legal))
