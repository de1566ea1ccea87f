-- By what proofs distinguish views.
use Rattle.std.proofs.Common.{ℕ, Bool, List, refl}
use Rattle.std.specs.Coded.{Coded, coded×, coded_ℕ, coded_bool, coded_list, code_by}
use Rattle.proc_history.specs.Events.{HistoryEntry}
use Rattle.proc_history.specs.Codes.{entries_code}
use Rattle.proc_table.specs.Parts.{Part, Guest}

abbrev pub parts_code : Coded (List Part)
parts_code = coded_list (code_by (List HistoryEntry × (List HistoryEntry × (Bool × Bool))) (coded× entries_code (coded× entries_code (coded× coded_bool coded_bool)))
    (λ x. (x.seen, (x.mine, (x.out, x.laid)))) (λ t. record { seen = t.0; mine = t.1.0; out = t.1.1.0; laid = t.1.1.1 }) (λ _. refl))

abbrev pub guest_code : Coded Guest
guest_code = code_by (ℕ × (List ℕ × (List Part × List Part))) (coded× coded_ℕ (coded× (coded_list coded_ℕ) (coded× parts_code parts_code)))
    (λ g. (g.number, (g.lent, (g.before, g.parts)))) (λ t. record { number = t.0; lent = t.1.0; before = t.1.1.0; parts = t.1.1.1 }) (λ _. refl)
