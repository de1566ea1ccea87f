-- The names in a relup over runtime systems are names, and its versions are versions.
use Rattle.std.proofs.Common.{◌≡◌, ap, sym, subst, refl, ℕ, Bool, true, false, not, ◌||◌, List, [], ◌∷◌, ◌++◌, map, Option, None, Some, IfSome, Result, Ok, Err}
use Rattle.std.specs.Prelude.{filter}
use Rattle.std.specs.List.{AllByRecursion}
use Rattle.std.specs.Option.{option_map, option_or}
use Rattle.relup_instruction.specs.declared.instruction.Direction.{Direction}
use Rattle.relup_instruction.specs.declared.instruction.Direction.TheVariants.{Up, Down}
use Rattle.relup_instruction.specs.Instruction.{Instruction}
use Rattle.relup_instruction.specs.Instruction.Instruction.{restart_emulator}
use Rattle.relup_instruction.specs.Form.{IsInstruction}
use Rattle.relup_file.specs.Form.{IsScript, IsEntry, IsRelup}
use Rattle.relup_file.specs.Relup.{EntryForm, RelupForm}
use Rattle.appup_file.specs.Form.{IsAppupInstruction}
use Rattle.appup_file.specs.Instruction.{AppupEntryForm, AppupForm}
use Rattle.relup_row.specs.Release.{RelupAppForm, RelupReleaseForm}
use Rattle.relup_row.proofs.ListLemmas.{of_both, of_filter, of_map}
use Rattle.relup_translate.specs.Fault.{FaultForm}
use Rattle.relup_translate.specs.Translation.{entry, release_fault, relup_between, unless_fault}
use Rattle.relup_translate.specs.WellFormed.{IsWellFormedApp, IsWellFormedRelease, AreWellFormedEntries, IsWellFormedAppup, HasWellFormedAppups}
use Rattle.relup_translate.proofs.NameLemmas as translation
use Rattle.runtime_change.specs.Runtime.{asks_new, changes_runtime, is_restart, at_start, at_end, renewed}
use Rattle.runtime_change.specs.Settled.{settled_entry, settled_appup, settled_app, settled}
use Rattle.runtime_change.specs.Relup.{when_ok, way_entry, renewed_entry, entry_between, each_entry, entries_between, relup_over_runtimes}
use Rattle.runtime_change.specs.Laws.{MadeRelupsAreNamed}

-- what a result without a fault has
abbrev Holds : {A : Type 0} → (A → Type 0) → Result A FaultForm → Type 0
Holds P (Ok a) = P a
Holds P (Err f) = Unit {0}

of_result : {A : Type 0} (P : A → Type 0) (r : Result A FaultForm) (a : A) → Holds P r → r ≡ Ok a → P a
of_result P (Ok b) a h e = let same : b ≡ a = cc in subst P same h
of_result P (Err f) a h e = absurd cc

-- What holds where all that is made of a result has it.
of_when : {A B : Type 0} (P : A → Type 0) (Q : B → Type 0) (g : A → Result B FaultForm) (r : Result A FaultForm) → Holds P r
    → ((a : A) → P a → Holds Q (g a)) → Holds Q (when_ok g r)
of_when P Q g (Ok a) h next = next a h
of_when P Q g (Err f) h next = tt

-- Appups are well formed without what asks for another runtime system.
settled_entries : (es : List AppupEntryForm) → AreWellFormedEntries es → AreWellFormedEntries (map settled_entry es)
settled_entries =
    of_map (λ (e : AppupEntryForm). AllByRecursion IsAppupInstruction e.instrs) (λ (e : AppupEntryForm). AllByRecursion IsAppupInstruction e.instrs) settled_entry
    (λ e h. of_filter IsAppupInstruction (λ i. not (asks_new i)) e.instrs h)

settled_appup_of : (vsn : List ℕ) (o : Option AppupForm) → IfSome o IsWellFormedAppup → IfSome (option_map (settled_appup vsn) o) IsWellFormedAppup
settled_appup_of vsn None h = tt
settled_appup_of vsn (Some p) h = (settled_entries p.ups h.0, settled_entries p.downs h.1)

settled_release : (erts : List ℕ) (r : RelupReleaseForm) → IsWellFormedRelease r → IsWellFormedRelease (settled erts r)
settled_release erts r h = (h.0, of_map IsWellFormedApp IsWellFormedApp settled_app (λ a of. of) r.apps h.1)

settled_appups : (erts : List ℕ) (r : RelupReleaseForm) → HasWellFormedAppups r → HasWellFormedAppups (settled erts r)
settled_appups erts r =
    of_map (λ (a : RelupAppForm). IfSome a.appup IsWellFormedAppup) (λ (a : RelupAppForm). IfSome a.appup IsWellFormedAppup) settled_app
    (λ a of. settled_appup_of a.vsn a.appup of) r.apps

-- The entry of a way is one that a file can say.
of_way : (d : Direction) (new other : RelupReleaseForm) → IsWellFormedRelease new → HasWellFormedAppups new → IsWellFormedRelease other
    → Holds IsEntry (way_entry d new other)
of_way Up new other of appups of_other = go (release_fault Up new other) refl
  where
    up : EntryForm → RelupForm
    up e = record { vsn = new.vsn; ups = e ∷ []; downs = [] }

    go : (f : Option FaultForm) → release_fault Up new other ≡ f → Holds IsEntry (unless_fault (entry Up new other) f)
    go None none =
        (translation.made_relups_are_named new (other ∷ []) [] (up (entry Up new other)) of appups (of_other, tt) tt
        (ap (λ f. unless_fault (up (entry Up new other)) (option_or (option_or f None) None)) none)).ups.0
    go (Some f) some = tt
of_way Down new other of appups of_other = go (release_fault Down new other) refl
  where
    down : EntryForm → RelupForm
    down e = record { vsn = new.vsn; ups = []; downs = e ∷ [] }

    go : (f : Option FaultForm) → release_fault Down new other ≡ f → Holds IsEntry (unless_fault (entry Down new other) f)
    go None none =
        (translation.made_relups_are_named new [] (other ∷ []) (down (entry Down new other)) of appups tt (of_other, tt)
        (ap (λ f. unless_fault (down (entry Down new other)) (option_or None (option_or f None))) none)).downs.0
    go (Some f) some = tt

-- With the restarts of runtime systems a script is still one that a file can say.
all_of : (is : List Instruction) → IsScript is → AllByRecursion IsInstruction is
all_of [] h = tt
all_of (i ∷ is) h = h

script_of : (is js : List Instruction) → AllByRecursion IsInstruction is → IsScript js → IsScript (is ++ js)
script_of [] js h k = k
script_of (i ∷ is) js h k = (h.0, of_both IsInstruction is js h.1 (all_of js k))

of_start : (changes : Bool) (is : List Instruction) → IsScript is → IsScript (at_start changes is)
of_start true is h = (tt, all_of is h)
of_start false is h = h

of_end : (due : Bool) (is : List Instruction) → IsScript is → IsScript (at_end due is)
of_end true is h =
    script_of (filter (λ (i : Instruction). not (is_restart i)) is) (restart_emulator ∷ []) (of_filter IsInstruction (λ (i : Instruction). not (is_restart i)) is (all_of is h)) (tt, tt)
of_end false is h = h

of_renewed : (asked : Bool) (d : Direction) (changes : Bool) (is : List Instruction) → IsScript is → IsScript (renewed asked d changes is)
of_renewed asked Up changes is h = of_end asked (at_start changes is) (of_start changes is h)
of_renewed asked Down changes is h = of_end (asked || changes) is h

module _ (asked : Bool) (new : RelupReleaseForm) (of : IsWellFormedRelease new) (appups : HasWellFormedAppups new) where
  of_entry : (d : Direction) (other : RelupReleaseForm) → IsWellFormedRelease other → Holds IsEntry (entry_between asked d new other)
  of_entry d other of_other =
      of_when IsEntry IsEntry (λ e. Ok (renewed_entry asked d new other e)) (way_entry d (settled other.erts new) other)
      (of_way d (settled other.erts new) other (settled_release other.erts new of) (settled_appups other.erts new appups) of_other)
      (λ e h. (h.0, of_renewed asked d (changes_runtime d new other) e.script h.1))

  of_entries : (d : Direction) (others : List RelupReleaseForm) → AllByRecursion IsWellFormedRelease others
      → Holds (AllByRecursion IsEntry) (entries_between asked d new others)
  of_entries d [] h = tt
  of_entries d (o ∷ os) h =
      of_when IsEntry (AllByRecursion IsEntry) (λ e. when_ok (λ es. Ok (e ∷ es)) (entries_between asked d new os)) (entry_between asked d new o) (of_entry d o h.0)
      (λ e first. of_when (AllByRecursion IsEntry) (AllByRecursion IsEntry) (λ es. Ok (e ∷ es)) (entries_between asked d new os) (of_entries d os h.1) (λ es more. (first, more)))

pub made_relups_are_named : MadeRelupsAreNamed
made_relups_are_named asked new ups downs r of appups of_ups of_downs is =
    let made : List EntryForm → List EntryForm → RelupForm = λ us ds. record { vsn = new.vsn; ups = us; downs = ds } in
    of_result IsRelup (relup_over_runtimes asked new ups downs) r
    (of_when (AllByRecursion IsEntry) IsRelup (λ us. when_ok (λ ds. Ok (made us ds)) (entries_between asked Down new downs)) (entries_between asked Up new ups)
    (of_entries asked new of appups Up ups of_ups)
    (λ us all_up. of_when (AllByRecursion IsEntry) IsRelup (λ ds. Ok (made us ds)) (entries_between asked Down new downs) (of_entries asked new of appups Down downs of_downs)
    (λ ds all_down. record { version = of.0; ups = all_up; downs = all_down })))
    is
