-- The first row that fits a change of code.
use Rattle.std.proofs.Common.{◌≡◌, ◌<◌, ◌+◌, ℕ, suc, Bool, true, false, cond, List, ◌∷◌, map, length, drop, get_or, Option, Some, None, if◌then◌else◌, add-one, refl, sym, ap, ◌∙◌}
use Rattle.std.specs.List.{find}
use Rattle.std.specs.Option.{option_map}
use Rattle.std.proofs.Math.Seq.{drop-cons}
use Rattle.erl_term.specs.Value.{Value}
use Rattle.worker_table.specs.Table as table
use Rattle.worker_table.specs.Decide.{fits_change, moved_by, change_of}

found_first : (b : Bool) (f : table.Row → ℕ) (row : table.Row) (rest : Option table.Row) (n : ℕ)
    → Some n ≡ (if b then Some (f row) else None) → Some n ≡ option_map f (cond b (Some row) rest)
found_first true f row rest n e = e
found_first false f row rest n e = absurd cc

passed_over : (b : Bool) (f : table.Row → ℕ) (row : table.Row) (rest : Option table.Row)
    → None ≡ (if b then Some (f row) else None) → option_map f (cond b (Some row) rest) ≡ option_map f rest
passed_over true f row rest e = absurd cc
passed_over false f row rest e = refl

-- from here on of a row at a place, before which none fits
module _ {R : Type 0} (row_of : R → table.Row) (rows : List R) (i : ℕ) (row : R) (within : i < length rows) (is : row ≡ get_or rows i row) (old : table.OldVersion) (extra : Value) (state : ℕ)
    (before : change_of (map row_of (drop i rows)) old extra state ≡ change_of (map row_of rows) old extra state) where
  split : map row_of (drop i rows) ≡ row_of row ∷ map row_of (drop (i + 1) rows)
  split =
      ap (map row_of) (drop-cons rows i row within ∙ ap (λ (r : R). r ∷ drop (suc i) rows) (sym is))
      ∙ ap (λ (j : ℕ). row_of row ∷ map row_of (drop j rows)) (sym (add-one i))

  here : change_of (row_of row ∷ map row_of (drop (i + 1) rows)) old extra state ≡ change_of (map row_of rows) old extra state
  here = ap (λ (rs : List table.Row). change_of rs old extra state) (sym split) ∙ before

  pub fits : (n : ℕ) → Some n ≡ (if fits_change old extra (row_of row) then Some (moved_by state (row_of row)) else None) → Some n ≡ change_of (map row_of rows) old extra state
  fits n e =
      found_first (fits_change old extra (row_of row)) (moved_by state) (row_of row) (find (fits_change old extra) (map row_of (drop (i + 1) rows))) n e ∙ here

  pub fits_not : None ≡ (if fits_change old extra (row_of row) then Some (moved_by state (row_of row)) else None)
      → change_of (map row_of (drop (i + 1) rows)) old extra state ≡ change_of (map row_of rows) old extra state
  fits_not e =
      sym (passed_over (fits_change old extra (row_of row)) (moved_by state) (row_of row) (find (fits_change old extra) (map row_of (drop (i + 1) rows))) e) ∙ here
