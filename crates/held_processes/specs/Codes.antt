-- By what proofs distinguish the processes that are held.
use Rattle.std.proofs.Common.{◌≡◌, refl}
use Rattle.std.specs.Coded.{Coded, coded×, coded_list, coded_option, code_by}
use base.Stored.{Gv, gnum}
use Rattle.proc_history.specs.declared.value.Value.{Value}
use Rattle.proc_table.specs.Holds.{Holding, holding_code}
use Rattle.held_processes.specs.Course.{Hold}
use Rattle.held_processes.specs.Course.Hold.{not_held, until_point, until_resumed}
use Rattle.held_processes.specs.Following.{HeldForm, HeldSlots}

abbrev pub hold_tree : Hold → Gv
hold_tree not_held = gnum 0
hold_tree until_point = gnum 1
hold_tree until_resumed = gnum 2

pub one_hold : (a b : Hold) → hold_tree a ≡ hold_tree b → a ≡ b
one_hold not_held not_held e = refl
one_hold until_point until_point e = refl
one_hold until_resumed until_resumed e = refl
one_hold a b e = absurd cc

abbrev pub hold_code : Coded Hold
hold_code = record { code = hold_tree; inj = one_hold }

abbrev pub held_code : Coded Value → Coded HeldForm
held_code value = code_by (Holding × (Value × Hold)) (coded× (holding_code value) (coded× value hold_code)) (λ h. (h.held, (h.saved, h.hold)))
    (λ t. record { held = t.0; saved = t.1.0; hold = t.1.1 }) (λ _. refl)

abbrev pub slots_code : Coded Value → Coded HeldSlots
slots_code value = coded_list (coded_option (held_code value))
