-- The relup between releases that may be for different runtime systems.
use Rattle.std.specs.Prelude.{Bool, List, [], ◌∷◌, Result, Ok, Err}
use Rattle.relup_instruction.specs.declared.instruction.Direction.{Direction}
use Rattle.relup_instruction.specs.declared.instruction.Direction.TheVariants.{Up, Down}
use Rattle.relup_file.specs.Relup.{EntryForm, RelupForm}
use Rattle.relup_row.specs.Release.{RelupReleaseForm}
use Rattle.relup_translate.specs.Fault.{FaultForm, Says}
use Rattle.relup_translate.specs.Translation.{entry, release_fault, unless_fault}
use Rattle.relup_translate.specs.declared.error.TranslateError.{TranslateError}
use Rattle.relup_translate.specs.declared.error.TranslateError.TheVariants.{NoMemory}
use Rattle.runtime_change.specs.Runtime.{changes_runtime, renewed}
use Rattle.runtime_change.specs.Settled.{settled}

-- what is made of a result that is no fault
abbrev pub when_ok : {A B : Type 0} → (A → Result B FaultForm) → Result A FaultForm → Result B FaultForm
when_ok f (Ok a) = f a
when_ok f (Err e) = Err e

-- the entry between a release and another one, by the translation, or the fault of the way
abbrev pub way_entry : Direction → RelupReleaseForm → RelupReleaseForm → Result EntryForm FaultForm
way_entry d new other = unless_fault (entry d new other) (release_fault d new other)

abbrev pub renewed_entry : Bool → Direction → RelupReleaseForm → RelupReleaseForm → EntryForm → EntryForm
renewed_entry asked d new other e = record { vsn = e.vsn; descr = e.descr; script = renewed asked d (changes_runtime d new other) e.script }

-- The entry between releases that may be for different runtime systems: by the translation, as if both were for one, and with what
-- another one adds to the script.
abbrev pub entry_between : Bool → Direction → RelupReleaseForm → RelupReleaseForm → Result EntryForm FaultForm
entry_between asked d new other = when_ok (λ e. Ok (renewed_entry asked d new other e)) (way_entry d (settled other.erts new) other)

-- the entries of releases, or the first fault
abbrev pub each_entry : (RelupReleaseForm → Result EntryForm FaultForm) → List RelupReleaseForm → Result (List EntryForm) FaultForm
each_entry f [] = Ok []
each_entry f (r ∷ rs) = when_ok (λ e. when_ok (λ es. Ok (e ∷ es)) (each_entry f rs)) (f r)

abbrev pub entries_between : Bool → Direction → RelupReleaseForm → List RelupReleaseForm → Result (List EntryForm) FaultForm
entries_between asked d new = each_entry (entry_between asked d new)

-- The relup: an entry for each release, or the first fault, of the upgrades before the downgrades.
abbrev pub relup_over_runtimes : Bool → RelupReleaseForm → List RelupReleaseForm → List RelupReleaseForm → Result RelupForm FaultForm
relup_over_runtimes asked new ups downs =
    when_ok (λ us. when_ok (λ ds. Ok (record { vsn = new.vsn; ups = us; downs = ds })) (entries_between asked Down new downs))
    (entries_between asked Up new ups)

-- The error is the fault, or out of memory.
abbrev pub RefusedAs : {A : Type 0} → Result A FaultForm → TranslateError → Type 0
RefusedAs t NoMemory = Unit {0}
RefusedAs (Ok r) e = ⊥
RefusedAs (Err f) e = Says e f
