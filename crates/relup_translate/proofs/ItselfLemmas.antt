-- From a release to itself nothing changes.
use Rattle.std.proofs.Common.{◌≡◌, refl, ap, ◌∙◌, ℕ, Bool, true, false, cond, List, [], ◌∷◌, ◌++◌, map, reverse, filter_map, find, Option, None, Some, is_some, if◌then◌else◌, bytes_eq}
use Rattle.std.proofs.lemmas.Slice.Eq.{bytes_eq-Decides}
use Rattle.std.specs.List.{AllByRecursion, cons_option}
use Rattle.std.specs.Option.{option_and_then, option_or}
use Rattle.std.specs.Result.{result_ok}
use Rattle.erl_term.specs.Value.Value.{list}
use Rattle.erl_term.specs.Value.Values.{no_values}
use Rattle.relup_instruction.specs.declared.instruction.Direction.{Direction}
use Rattle.relup_instruction.specs.declared.instruction.Direction.TheVariants.{Up, Down}
use Rattle.relup_instruction.specs.Instruction.Instruction.{point_of_no_return}
use Rattle.appup_file.specs.Instruction.AppupInstruction.{add_application, remove_application}
use Rattle.relup_row.specs.Release.{RelupAppForm, RelupReleaseForm, WayForm, app_named}
use Rattle.relup_row.specs.Script.{script}
use Rattle.relup_row.proofs.TargetLemmas.{IsFoundIn, all_found}
use Rattle.relup_translate.specs.Fault.FaultForm.{needs_new_emulator}
use Rattle.relup_translate.specs.Translation.{first_fault, if_other, row_fault, between_versions, app_fault, way_fault, coming_row, changing_row, going_row, rows, way_script, unless_fault}
use Rattle.relup_translate.specs.Laws.{StaysItself}
use Rattle.relup_translate.proofs.OutcomeLemmas.{no_fault}

same_bytes : (xs : List ℕ) → bytes_eq xs xs ≡ true
same_bytes xs = (bytes_eq-Decides xs xs).1 refl

-- Where each application is found by its name, nothing comes, changes or goes.
nothing : {A B : Type 0} (P : A → Type 0) (f : A → Option B) → ((a : A) → P a → f a ≡ None) → (xs : List A) → AllByRecursion P xs → filter_map f xs ≡ []
nothing P f none [] h = refl
nothing P f none (x ∷ xs) h = (λ j. cons_option (none x h.0 j) (nothing P f none xs h.1 j))

module _ (d : Direction) (r : RelupReleaseForm) where
  abbrev way : WayForm
  way = record { direction = d; left = r; target = r }

  stays : (a : RelupAppForm) → IsFoundIn r.apps a → option_and_then (if_other a) (app_named a.name r) ≡ None
  stays a h = ap (option_and_then (if_other a)) h ∙ ap (λ (b : Bool). if b then None else Some a) (same_bytes a.vsn)

  none_comes : (a : RelupAppForm) → IsFoundIn r.apps a → coming_row way a ≡ None
  none_comes a h = ap (λ (o : Option RelupAppForm). if is_some o then None else Some (add_application (record { name = a.name; start = a.start }) ∷ [])) h

  none_changes : (a : RelupAppForm) → IsFoundIn r.apps a → changing_row way a ≡ None
  none_changes a h = ap (option_and_then (λ (b : RelupAppForm). result_ok (between_versions d b a))) (stays a h)

  none_goes : (a : RelupAppForm) → IsFoundIn r.apps a → going_row way a ≡ None
  none_goes a h = ap (λ (o : Option RelupAppForm). if is_some o then None else Some (remove_application a.name ∷ [])) h

  none_fails : (a : RelupAppForm) → IsFoundIn r.apps a → app_fault way a ≡ None
  none_fails a h = ap (option_and_then (λ (b : RelupAppForm). row_fault way b (between_versions d b a))) (stays a h)

  no_rows : AllByRecursion (IsFoundIn r.apps) r.apps → rows way ≡ []
  no_rows h =
      (λ j. nothing (IsFoundIn r.apps) (coming_row way) none_comes r.apps h j
      ++ (nothing (IsFoundIn r.apps) (changing_row way) none_changes r.apps h j
      ++ reverse (nothing (IsFoundIn r.apps) (going_row way) none_goes r.apps h j)))

  pub point_alone : AllByRecursion (IsFoundIn r.apps) r.apps → way_script way ≡ point_of_no_return ∷ []
  point_alone h = ap (script way) (no_rows h)

  pub sound : AllByRecursion (IsFoundIn r.apps) r.apps → way_fault way ≡ None
  sound h =
      ap (λ (b : Bool). if b then first_fault (app_fault way) r.apps else Some needs_new_emulator) (same_bytes r.erts)
      ∙ no_fault (IsFoundIn r.apps) (app_fault way) none_fails r.apps h

pub stays_itself : StaysItself
stays_itself r distinct =
    let found = all_found r.apps distinct in
    (λ j. unless_fault
    (record {
      vsn = r.vsn;
      ups = record { vsn = r.vsn; descr = list no_values; script = point_alone Up r found j } ∷ [];
      downs = record { vsn = r.vsn; descr = list no_values; script = point_alone Down r found j } ∷ [];
    })
    (option_or (option_or (sound Up r found j) None) (option_or (sound Down r found j) None)))
