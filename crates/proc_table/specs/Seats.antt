-- What contracts see of a pass, of the handler's seat and of a slot that is held.
use Rattle.std.specs.Prelude.{◌≡◌, ◌≢◌, ℕ, Bool, true, false, List, Option}
use Rattle.std.proofs.Common.{refl}
use Rattle.std.specs.Coded.{Coded, coded×, coded_ℕ, coded_bool, coded_list, coded_option, code_by}
use Rattle.atomic_table.specs.Seated.{TableId, table_id_coded}
use Rattle.proc_table.specs.declared.view.View.{View}
use Rattle.proc_table.specs.Parts.{Part, Guest, part_of}
use Rattle.proc_table.specs.Codes.{parts_code, guest_code}
use Rattle.proc_table.specs.Views.{is_out}
use Rattle.proc_table.specs.Steps.{Ready, Known}

-- the table at which it sits, and what it knows
pub record Sitting : Type 0 where
  pub table : TableId
  pub view : View

abbrev pub view_code : Coded View
view_code = code_by (ℕ × (ℕ × (List ℕ × (List Part × (List (ℕ × ℕ) × (Option Guest × Bool))))))
    (coded× coded_ℕ (coded× coded_ℕ (coded× (coded_list coded_ℕ) (coded× parts_code (coded× (coded_list (coded× coded_ℕ coded_ℕ)) (coded× (coded_option guest_code) coded_bool))))))
    (λ v. (v.number, (v.count, (v.lent, (v.parts, (v.found, (v.guest, v.spent)))))))
    (λ t. record { number = t.0; count = t.1.0; lent = t.1.1.0; parts = t.1.1.1.0; found = t.1.1.1.1.0; guest = t.1.1.1.1.1.0; spent = t.1.1.1.1.1.1 }) (λ _. refl)

abbrev pub sitting_code : Coded Sitting
sitting_code = code_by (TableId × View) (coded× table_id_coded view_code) (λ s. (s.table, s.view)) (λ t. record { table = t.0; view = t.1 }) (λ _. refl)

-- what is so of each pass between its calls
pub record IsPass (v : View) : Type 0 where
  pub ready : Ready v
  pub known : Known v
  pub pass : v.number ≢ 0
  pub none_out : (p : ℕ) → is_out v p ≡ false

-- what is so of the handler between its calls
pub record IsHandler (v : View) : Type 0 where
  pub ready : Ready v
  pub known : Known v
  pub handler : v.number ≡ 0
  pub laid : (p : ℕ) → is_out v p ≡ true → (part_of v.parts p).laid ≡ true
