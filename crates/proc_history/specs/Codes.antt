-- By what proofs distinguish values, events and histories.
use Rattle.std.proofs.Common.{◌≡◌, ℕ, List, refl}
use Rattle.std.specs.Coded.{Coded, coded×, coded_ℕ, coded_list, code_by}
use base.Stored.{Gv, gnil, gnum, gcons}
use Rattle.mod_table.specs.declared.child.Restart.{Restart}
use Rattle.mod_table.specs.declared.child.Restart.TheVariants.{Permanent, Transient, Temporary}
use Rattle.mod_table.specs.Codes.{text_code, value_tree, one_value, version_tree, one_version, worker_tree, one_worker}
use Rattle.proc_history.specs.declared.beginning.Beginning.{Beginning}
use Rattle.proc_history.specs.declared.value.Outcome.{Outcome}
use Rattle.proc_history.specs.declared.value.Outcome.TheVariants.{Done, Crashed, Ended}
use Rattle.proc_history.specs.Events.{Event, HistoryEntry}
use Rattle.proc_history.specs.Events.Event.{begin, call, loaded, changed, stopped, started, given_up}

abbrev pub restart_tree : Restart → Gv
restart_tree Permanent = gnum 0
restart_tree Transient = gnum 1
restart_tree Temporary = gnum 2

pub one_restart : (a b : Restart) → restart_tree a ≡ restart_tree b → a ≡ b
one_restart Permanent Permanent e = refl
one_restart Transient Transient e = refl
one_restart Temporary Temporary e = refl
one_restart a b e = absurd cc

abbrev pub beginning_tree : Beginning → Gv
beginning_tree b = gcons (gcons (text_code.code b.app) (text_code.code b.id)) (gcons (restart_tree b.restart) (worker_tree b.table))

pub one_beginning : (a b : Beginning) → beginning_tree a ≡ beginning_tree b → a ≡ b
one_beginning a b e =
    let app = text_code.inj a.app b.app (cc) in
    let id = text_code.inj a.id b.id (cc) in
    let restart = one_restart a.restart b.restart (cc) in
    let table = one_worker a.table b.table (cc) in
    λ j. record { app = app j; id = id j; restart = restart j; table = table j }

abbrev pub outcome_tree : Outcome → Gv
outcome_tree (Done r) = gcons (gnum 0) (gnum r)
outcome_tree Crashed = gnil
outcome_tree (Ended r) = gcons (gnum 1) (gnum r)

pub one_outcome : (a b : Outcome) → outcome_tree a ≡ outcome_tree b → a ≡ b
one_outcome (Done r) (Done s) e = cc
one_outcome Crashed Crashed e = refl
one_outcome (Ended r) (Ended s) e = cc
one_outcome a b e = absurd cc

abbrev pub event_tree : Event → Gv
event_tree (begin r b) = gcons (gnum 0) (gcons (gnum r) (beginning_tree b))
event_tree (call i o) = gcons (gnum 1) (gcons (gnum i) (outcome_tree o))
event_tree (loaded t) = gcons (gnum 2) (worker_tree t)
event_tree (changed old extra) = gcons (gnum 3) (gcons (version_tree old) (value_tree extra))
event_tree stopped = gnum 0
event_tree started = gnum 1
event_tree given_up = gnum 2

pub one_event : (a b : Event) → event_tree a ≡ event_tree b → a ≡ b
one_event (begin r b) (begin s c) e = let same = one_beginning b c (cc) in cc
one_event (call i o) (call j p) e = let same = one_outcome o p (cc) in cc
one_event (loaded t) (loaded u) e = let same = one_worker t u (cc) in cc
one_event (changed old extra) (changed from term) e =
    let version = one_version old from (cc) in
    let value = one_value extra term (cc) in cc
one_event stopped stopped e = refl
one_event started started e = refl
one_event given_up given_up e = refl
one_event a b e = absurd cc

abbrev pub event_code : Coded Event
event_code = record { code = event_tree; inj = one_event }

abbrev pub entries_code : Coded (List HistoryEntry)
entries_code = coded_list (code_by (ℕ × Event) (coded× coded_ℕ event_code) (λ e. (e.by, e.event)) (λ t. record { by = t.0; event = t.1 }) (λ _. refl))
