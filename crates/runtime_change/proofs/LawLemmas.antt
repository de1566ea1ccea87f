-- The laws of relups over runtime systems.
use Rattle.std.proofs.Common.{◌≡◌, ◌⊎◌, inl, inr, ⊎_elim, refl, ap, sym, subst, ◌∙◌, ℕ, Bool, true, false, cond, not, ◌||◌, List, [], ◌∷◌, map, Option, None, Some, Result, Ok, Err}
use Rattle.std.specs.Prelude.{filter}
use Rattle.std.specs.List.{AllByRecursion, list_any}
use Rattle.std.specs.Option.{option_or}
use Rattle.std.specs.Str.{bytes_eq}
use Rattle.std.proofs.lemmas.Slice.Eq.{bytes_eq-Decides}
use Rattle.relup_instruction.specs.declared.instruction.Direction.{Direction}
use Rattle.relup_instruction.specs.declared.instruction.Direction.TheVariants.{Up, Down}
use Rattle.relup_instruction.specs.Instruction.{Instruction}
use Rattle.relup_instruction.specs.Instruction.Instruction.{restart_new_emulator}
use Rattle.relup_file.specs.Relup.{EntryForm, RelupForm}
use Rattle.relup_row.specs.Release.{RelupReleaseForm}
use Rattle.relup_translate.specs.Fault.{FaultForm}
use Rattle.relup_translate.specs.Translation.{entry, release_fault, first_fault, unless_fault}
use Rattle.runtime_change.specs.Runtime.{app_asks, changes_runtime, is_restart, at_end, at_start, renewed}
use Rattle.runtime_change.specs.Settled.{settled}
use Rattle.runtime_change.specs.Relup.{when_ok, way_entry, renewed_entry, entry_between, each_entry}
use Rattle.runtime_change.specs.Laws.{StaysOn, StaysTheTranslation, BeginsAnew, EndsWithRestart, EndsAnew, IsRefusedByNodes}

-- what a result has, or else this
abbrev value_or : {A : Type 0} → A → Result A FaultForm → A
value_or a (Ok x) = x
value_or a (Err f) = a

abbrev Same : {A : Type 0} → Result A FaultForm → Result A FaultForm → Type 0
Same r s = r ≡ s

-- Two results without a fault are the same where what they have is.
ok_same : {A : Type 0} (a b : A) → Same (Ok a) (Ok b) → a ≡ b
ok_same a b e = ap (value_or a) e

-- A renewed entry is that of the way, with the renewed script.
renewed_is : (asked : Bool) (d : Direction) (new other : RelupReleaseForm) (e : EntryForm) → entry_between asked d new other ≡ Ok e
    → (f : EntryForm) × (e.script ≡ renewed asked d (changes_runtime d new other) f.script)
renewed_is asked d new other e is = go (way_entry d (settled other.erts new) other) is
  where
    go : (r : Result EntryForm FaultForm) → when_ok (λ x. Ok (renewed_entry asked d new other x)) r ≡ Ok e
        → (f : EntryForm) × (e.script ≡ renewed asked d (changes_runtime d new other) f.script)
    go (Ok f) k = (f, ap (λ (x : EntryForm). x.script) (sym (ok_same (renewed_entry asked d new other f) e k)))
    go (Err x) k = absurd cc

-- An upgrade to another runtime system
begins : (asked changes : Bool) (is : List Instruction) → changes ≡ true → (rest : List Instruction) × (renewed asked Up changes is ≡ restart_new_emulator ∷ rest)
begins true true is e = (at_end true is, refl)
begins false true is e = (is, refl)
begins asked false is e = absurd cc

pub begins_anew : BeginsAnew
begins_anew asked new other e changes is =
    let made = renewed_is asked Up new other e is in
    let first = begins asked (changes_runtime Up new other) made.0.script changes in
    (first.0, made.1 ∙ first.1)

-- what is left of a script has no restart
no_restart : (is : List Instruction) → AllByRecursion (λ (i : Instruction). is_restart i ≡ false) (filter (λ (i : Instruction). not (is_restart i)) is)
no_restart [] = tt
no_restart (i ∷ is) = go (is_restart i) refl (no_restart is)
  where
    go : (b : Bool) → is_restart i ≡ b → AllByRecursion (λ (j : Instruction). is_restart j ≡ false) (filter (λ (j : Instruction). not (is_restart j)) is)
        → AllByRecursion (λ (j : Instruction). is_restart j ≡ false) (cond (not b) (i ∷ filter (λ (j : Instruction). not (is_restart j)) is) (filter (λ (j : Instruction). not (is_restart j)) is))
    go true p h = h
    go false p h = (p, h)

ends : (due : Bool) (is : List Instruction) → due ≡ true → EndsWithRestart (at_end due is)
ends true is e = record { before = filter (λ (i : Instruction). not (is_restart i)) is; is = refl; others = no_restart is }
ends false is e = absurd cc

either_due : (a b : Bool) → (a ≡ true) ⊎ (b ≡ true) → (a || b) ≡ true
either_due true b h = refl
either_due false b h = ⊎_elim (λ e. absurd cc) (λ e. e) h

is_due : (asked : Bool) (d : Direction) (changes : Bool) (is : List Instruction) → (asked ≡ true) ⊎ ((d ≡ Down) × (changes ≡ true)) → EndsWithRestart (renewed asked d changes is)
is_due asked Up changes is h = ends asked (at_start changes is) (⊎_elim (λ e. e) (λ e. absurd cc) h)
is_due asked Down changes is h = ends (asked || changes) is (either_due asked changes (⊎_elim (λ e. inl e) (λ e. inr e.1) h))

pub ends_anew : EndsAnew
ends_anew asked Up new other e due is =
    let made = renewed_is asked Up new other e is in
    subst EndsWithRestart (sym made.1) (is_due asked Up (changes_runtime Up new other) made.0.script (⊎_elim (λ a. inl a) (λ b. absurd cc) due))
ends_anew asked Down new other e due is =
    let made = renewed_is asked Down new other e is in
    subst EndsWithRestart (sym made.1) (is_due asked Down (changes_runtime Down new other) made.0.script due)

-- A node refuses the first instruction.
pub is_refused_by_nodes : IsRefusedByNodes
is_refused_by_nodes rest before after first only = rw (first, only) refl

-- A way that stays on a runtime system
first_false : (a b : Bool) → (a || b) ≡ false → a ≡ false
first_false true b e = absurd cc
first_false false b e = refl

not_false : (a : Bool) → not a ≡ false → a ≡ true
not_false true e = refl
not_false false e = absurd cc

same_erts : (d : Direction) (new other : RelupReleaseForm) → changes_runtime d new other ≡ false → new.erts ≡ other.erts
same_erts d new other stays = (bytes_eq-Decides new.erts other.erts).0 (not_false (bytes_eq new.erts other.erts) (first_false (not (bytes_eq new.erts other.erts)) (list_any (app_asks d other) new.apps) stays))

same_entry : (d : Direction) (new other : RelupReleaseForm) (e : EntryForm) (b : Bool) → b ≡ false → record { vsn = e.vsn; descr = e.descr; script = renewed false d b e.script } ≡ e
same_entry Up new other e false is = refl
same_entry Down new other e false is = refl
same_entry d new other e true is = absurd cc

same_result : (g : EntryForm → EntryForm) (r : Result EntryForm FaultForm) → ((e : EntryForm) → g e ≡ e) → when_ok (λ e. Ok (g e)) r ≡ r
same_result g (Ok e) same = ap (λ (x : EntryForm). Ok x) (same e)
same_result g (Err f) same = refl

stays_way : (d : Direction) (new other : RelupReleaseForm) → changes_runtime d new other ≡ false → entry_between false d new other ≡ way_entry d (settled new.erts new) other
stays_way d new other stays =
    same_result (renewed_entry false d new other) (way_entry d (settled other.erts new) other) (λ e. same_entry d new other e (changes_runtime d new other) stays)
    ∙ ap (λ (erts : List ℕ). way_entry d (settled erts new) other) (sym (same_erts d new other stays))

-- the entries of ways, or the first fault of them
next : (e : EntryForm) (es : List EntryForm) (x y : Option FaultForm)
    → when_ok (λ a. when_ok (λ as'. Ok (a ∷ as')) (unless_fault es y)) (unless_fault e x) ≡ unless_fault (e ∷ es) (option_or x y)
next e es None None = refl
next e es None (Some g) = refl
next e es (Some f) y = refl

all_ways : (d : Direction) (new : RelupReleaseForm) (os : List RelupReleaseForm) → StaysOn d new os
    → each_entry (entry_between false d new) os ≡ unless_fault (map (entry d (settled new.erts new)) os) (first_fault (release_fault d (settled new.erts new)) os)
all_ways d new [] stays = refl
all_ways d new (o ∷ os) stays =
    ap (when_ok (λ e. when_ok (λ es. Ok (e ∷ es)) (each_entry (entry_between false d new) os))) (stays_way d new o stays.0)
    ∙ (ap (λ r. when_ok (λ e. when_ok (λ es. Ok (e ∷ es)) r) (way_entry d (settled new.erts new) o)) (all_ways d new os stays.1)
    ∙ next (entry d (settled new.erts new) o) (map (entry d (settled new.erts new)) os) (release_fault d (settled new.erts new) o) (first_fault (release_fault d (settled new.erts new)) os))

abbrev relup_in : List ℕ → List EntryForm → List EntryForm → RelupForm
relup_in vsn us ds = record { vsn = vsn; ups = us; downs = ds }

joined : (vsn : List ℕ) (us ds : List EntryForm) (x y : Option FaultForm)
    → when_ok (λ as'. when_ok (λ bs. Ok (relup_in vsn as' bs)) (unless_fault ds y)) (unless_fault us x) ≡ unless_fault (relup_in vsn us ds) (option_or x y)
joined vsn us ds None None = refl
joined vsn us ds None (Some g) = refl
joined vsn us ds (Some f) y = refl

pub stays_the_translation : StaysTheTranslation
stays_the_translation new ups downs up down =
    let s = settled new.erts new in
    ap (when_ok (λ us. when_ok (λ ds. Ok (relup_in new.vsn us ds)) (each_entry (entry_between false Down new) downs))) (all_ways Up new ups up)
    ∙ (ap (λ r. when_ok (λ us. when_ok (λ ds. Ok (relup_in new.vsn us ds)) r) (unless_fault (map (entry Up s) ups) (first_fault (release_fault Up s) ups))) (all_ways Down new downs down)
    ∙ joined new.vsn (map (entry Up s) ups) (map (entry Down s) downs) (first_fault (release_fault Up s) ups) (first_fault (release_fault Down s) downs))
