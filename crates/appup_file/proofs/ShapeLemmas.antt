-- Something is none in a term exactly where it says no appup.
use Rattle.std.proofs.Common.{◌≡◌, ◌↔◌, ℕ, ◌+◌, Bool, true, false, Option, None, Some, is_some, IsSome, List, ◌∷◌, refl}
use Rattle.std.specs.Prelude.{if◌then◌else◌}
use Rattle.std.specs.Option.{option_map, option_and_then, option_or}
use Rattle.erl_term.specs.Value.{Value, Values}
use Rattle.erl_term.specs.Value.Values.{no_values, value}
use Rattle.rel_files.specs.Parts.{list_in, pair_in}
use Rattle.relup_instruction.specs.declared.instruction.Direction.{Direction}
use Rattle.relup_instruction.specs.declared.instruction.Direction.TheVariants.{Up, Down}
use Rattle.relup_instruction.specs.Parts.{all_in}
use Rattle.relup_file.specs.Parts.{Outer, outer_in}
use Rattle.appup_file.specs.declared.shape.ShapeFault.{ShapeFault}
use Rattle.appup_file.specs.declared.shape.ShapeFault.TheVariants.{Instruction}
use Rattle.appup_file.specs.Instruction.{AppupInstruction, VersionForm, AppupEntryForm, AppupForm}
use Rattle.appup_file.specs.Parts.{appup_instruction_in, other_version_in, entry_in, from_outer, appup_in}
use Rattle.appup_file.specs.Shape.{first_misshapen, misshapen_instruction, instructions_in, misshapen_instructions, misshapen_entry, misshapen_entries, shape_fault}
use Rattle.appup_file.specs.Laws.{HasItsPlace}

-- A fault is reported exactly where there is no value.
abbrev Fits : {A : Type 0} → Option ShapeFault → Option A → Type 0
Fits None (Some a) = Unit {0}
Fits (Some f) None = Unit {0}
Fits o p = ⊥

fits_mapped : {A B : Type 0} (g : A → B) (o : Option ShapeFault) (p : Option A) → Fits o p → Fits o (option_map g p)
fits_mapped g None (Some a) h = tt
fits_mapped g (Some f) None h = tt
fits_mapped g None None h = absurd h
fits_mapped g (Some f) (Some a) h = absurd h

-- The fault of several parts is that of the first, or of those after it.
fits_both : {A B C : Type 0} (g : A → B → C) (o q : Option ShapeFault) (p : Option A) (r : Option B) → Fits o p → Fits q r
    → Fits (option_or o q) (option_and_then (λ a. option_map (λ b. g a b) r) p)
fits_both g None q (Some a) r h k = fits_mapped (λ b. g a b) q r k
fits_both g (Some f) q None r h k = tt
fits_both g None q None r h k = absurd h
fits_both g (Some f) q (Some a) r h k = absurd h

fits_all : {A : Type 0} (f : ℕ → Value → Option ShapeFault) (g : Value → Option A) → ((n : ℕ) (v : Value) → Fits (f n v) (g v))
    → (n : ℕ) (vs : Values) → Fits (first_misshapen f n vs) (all_in g vs)
fits_all f g each n no_values = tt
fits_all f g each n (value v vs) = fits_both (λ a as'. a ∷ as') (f n v) (first_misshapen f (n + 1) vs) (g v) (all_in g vs) (each n v) (fits_all f g each (n + 1) vs)

fits_instruction : (d : Direction) (entry n : ℕ) (v : Value) → Fits (misshapen_instruction d entry n v) (appup_instruction_in v)
fits_instruction d entry n v = go (appup_instruction_in v)
  where
    go : (o : Option AppupInstruction) → Fits (if is_some o then None else Some (Instruction d entry n)) o
    go None = tt
    go (Some i) = tt

fits_entry : (d : Direction) (n : ℕ) (v : Value) → Fits (misshapen_entry d n v) (entry_in v)
fits_entry d n v = pair (pair_in v)
  where
    entered : VersionForm → List AppupInstruction → AppupEntryForm
    entered vsn is' = record { vsn = vsn; instrs = is' }

    listed : (vsn : VersionForm) (o : Option Values)
        → Fits (misshapen_instructions d n o) (option_and_then (λ vs. option_map (entered vsn) (all_in appup_instruction_in vs)) o)
    listed vsn None = tt
    listed vsn (Some vs) =
        fits_mapped (entered vsn) (first_misshapen (misshapen_instruction d n) 1 vs) (all_in appup_instruction_in vs)
        (fits_all (misshapen_instruction d n) appup_instruction_in (fits_instruction d n) 1 vs)

    versioned : (p : Value × Value) (o : Option VersionForm)
        → Fits (misshapen_instructions d n (option_and_then (λ vsn. list_in p.1) o))
        (option_and_then (λ vsn. option_and_then (λ vs. option_map (entered vsn) (all_in appup_instruction_in vs)) (list_in p.1)) o)
    versioned p None = tt
    versioned p (Some vsn) = listed vsn (list_in p.1)

    pair : (o : Option (Value × Value))
        → Fits (misshapen_instructions d n (option_and_then (λ p. option_and_then (λ vsn. list_in p.1) (other_version_in p.0)) o))
        (option_and_then (λ p. option_and_then (λ vsn. option_and_then (λ vs. option_map (entered vsn) (all_in appup_instruction_in vs)) (list_in p.1)) (other_version_in p.0)) o)
    pair None = tt
    pair (Some p) = versioned p (other_version_in p.0)

fits_appup : (v : Value) → Fits (shape_fault v) (appup_in v)
fits_appup v = go (outer_in v)
  where
    go : (o : Option Outer) → Fits (misshapen_entries o) (option_and_then from_outer o)
    go None = tt
    go (Some o) =
        fits_both (λ ups downs. record { vsn = o.vsn; ups = ups; downs = downs }) (first_misshapen (misshapen_entry Up) 1 o.ups) (first_misshapen (misshapen_entry Down) 1 o.downs)
        (all_in entry_in o.ups) (all_in entry_in o.downs) (fits_all (misshapen_entry Up) entry_in (fits_entry Up) 1 o.ups) (fits_all (misshapen_entry Down) entry_in (fits_entry Down) 1 o.downs)

pub has_its_place : HasItsPlace
has_its_place v = go (shape_fault v) (appup_in v) (fits_appup v)
  where
    go : (o : Option ShapeFault) (p : Option AppupForm) → Fits o p → (p ≡ None) ↔ IsSome o
    go None (Some a) h = (λ e. absurd cc, λ k. absurd cc)
    go (Some f) None h = (λ e. refl, λ k. refl)
    go None None h = absurd h
    go (Some f) (Some a) h = absurd h
