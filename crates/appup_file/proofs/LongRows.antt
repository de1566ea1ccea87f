-- Rows of as many terms as no instruction has, and of none.
use Rattle.std.proofs.Common.{◌≡◌, ◌<◌, ◌≤◌, ℕ, List, [], ◌∷◌, length, None, Some, refl, arith}
use Rattle.erl_term.specs.declared.term.Term.{Term}
use Rattle.erl_term.specs.Value.{members_of}
use Rattle.rel_files.specs.declared.release.StartType.TheVariants.{Permanent}
use Rattle.appup_file.specs.Instruction.{UpdateForm}
use Rattle.appup_file.specs.Parts.{update_row, dep_mods_in, load_in, start_in}

pub no_dep_mods : (row : List Term) → 2 ≤ length row → None ≡ dep_mods_in (members_of row)
no_dep_mods [] h = absurd (omega arith)
no_dep_mods (t ∷ []) h = absurd (omega arith)
no_dep_mods (t ∷ u ∷ row) h = refl

pub no_start : (row : List Term) → 2 ≤ length row → None ≡ start_in (members_of row)
no_start [] h = absurd (omega arith)
no_start (t ∷ []) h = absurd (omega arith)
no_start (t ∷ u ∷ row) h = refl

pub start_of_none : (row : List Term) → length row < 1 → Some Permanent ≡ start_in (members_of row)
start_of_none [] h = refl
start_of_none (t ∷ row) h = absurd (omega arith)

pub no_update : (row : List Term) (u : UpdateForm) → 7 ≤ length row → None ≡ update_row (members_of row) u
no_update (a ∷ b ∷ c ∷ d ∷ e ∷ f ∷ g ∷ row) u h = refl
no_update row u h = absurd (omega arith)

pub no_update_of_three : (row : List Term) (u : UpdateForm) → 3 ≤ length row → length row < 4 → None ≡ update_row (members_of row) u
no_update_of_three (a ∷ b ∷ c ∷ []) u h k = refl
no_update_of_three (a ∷ b ∷ c ∷ d ∷ row) u h k = absurd (omega arith)
no_update_of_three row u h k = absurd (omega arith)

pub no_load : (name : List ℕ) (row : List Term) → 4 ≤ length row → None ≡ load_in name (members_of row)
no_load name (a ∷ b ∷ c ∷ d ∷ row) h = refl
no_load name row h = absurd (omega arith)

pub no_load_of_two : (name : List ℕ) (row : List Term) → 2 ≤ length row → length row < 3 → None ≡ load_in name (members_of row)
no_load_of_two name (a ∷ b ∷ []) h k = refl
no_load_of_two name (a ∷ b ∷ c ∷ row) h k = absurd (omega arith)
no_load_of_two name row h k = absurd (omega arith)
