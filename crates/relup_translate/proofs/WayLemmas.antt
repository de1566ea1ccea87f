-- What holds of each instruction in the rows of a way.
use Rattle.std.proofs.Common.{◌≡◌, subst, ℕ, Bool, true, false, List, [], ◌∷◌, filter_map, Option, None, Some, is_some, Result, Ok, Err, IfSome, IfOk, if◌then◌else◌, bytes_eq}
use Rattle.std.specs.List.{AllByRecursion}
use Rattle.std.specs.Option.{option_and_then}
use Rattle.std.specs.Result.{result_ok}
use Rattle.relup_instruction.specs.declared.instruction.Direction.{Direction}
use Rattle.relup_instruction.specs.declared.instruction.Direction.TheVariants.{Up, Down}
use Rattle.appup_file.specs.declared.search.EntryFault.{EntryFault}
use Rattle.appup_file.specs.Instruction.{AppupInstruction, AppupEntryForm, AppupForm, VersionForm}
use Rattle.appup_file.specs.Instruction.AppupInstruction.{add_application, remove_application}
use Rattle.appup_file.specs.Instruction.VersionForm.{text, pattern}
use Rattle.appup_file.specs.Search.{entries_of, ends_at, answer_of, answer_at, entry_for}
use Rattle.relup_row.specs.Release.{RelupAppForm, RelupReleaseForm, WayForm, app_named}
use Rattle.relup_translate.specs.Fault.{FaultForm}
use Rattle.relup_translate.specs.Fault.FaultForm.{needs_new_emulator}
use Rattle.relup_translate.specs.Translation.{first_fault, instruction_fault, counting, counting_appup, found, searched, by_appup, between_versions, if_other, other_version, row_fault, app_fault, way_fault, coming_row, changing_row, going_row, rows}
use Rattle.relup_translate.proofs.OutcomeLemmas.{all_sound}
use Rattle.relup_row.proofs.ListLemmas.{of_both, of_some, of_options, of_reverse, of_found, of_next, trivially}

module _ (R : AppupInstruction → Type 0) where
  -- R holds of the instructions of an appup's entries.
  abbrev pub InEntries : List AppupEntryForm → Type 0
  InEntries = AllByRecursion (λ (e : AppupEntryForm). AllByRecursion R e.instrs)

  abbrev pub InAppup : AppupForm → Type 0
  InAppup p = InEntries p.ups × InEntries p.downs

  abbrev pub InAppupOf : RelupAppForm → Type 0
  InAppupOf a = IfSome a.appup InAppup

  -- R holds of the instructions in the appups of the higher release of a way.
  abbrev pub InHigher : Direction → RelupReleaseForm → RelupReleaseForm → Type 0
  InHigher Up left target = AllByRecursion InAppupOf target.apps
  InHigher Down left target = AllByRecursion InAppupOf left.apps

  -- R holds of the instructions that an entry answers.
  of_answer : (v : VersionForm) (is : List AppupInstruction) → AllByRecursion R is → IfOk (answer_of v is) (AllByRecursion R)
  of_answer (text s) is h = h
  of_answer (pattern bs) is h = tt

  -- R holds of the instructions that an entry answers, if there is such an entry.
  of_entry : (o : Option AppupEntryForm) → IfSome o (λ (e : AppupEntryForm). AllByRecursion R e.instrs) → IfOk (answer_at o) (AllByRecursion R)
  of_entry None h = tt
  of_entry (Some e) h = of_answer e.vsn e.instrs h

  -- R holds of the instructions that an appup's entry for a version answers.
  of_entry_for : (vsn : List ℕ) (es : List AppupEntryForm) → InEntries es → IfOk (entry_for vsn es) (AllByRecursion R)
  of_entry_for vsn es h = of_entry _ (of_found (λ (e : AppupEntryForm). AllByRecursion R e.instrs) (λ (e : AppupEntryForm). ends_at vsn e.vsn) es h)

  -- R holds of the entries of either direction.
  of_entries : (d : Direction) (p : AppupForm) → InAppup p → InEntries (entries_of d p)
  of_entries Up p h = h.0
  of_entries Down p h = h.1

  -- A search that finds instructions finds some of which R holds.
  of_search : (app vsn : List ℕ) (r : Result (List AppupInstruction) EntryFault) → IfOk r (AllByRecursion R) → IfOk (found app vsn r) (AllByRecursion R)
  of_search app vsn (Ok is) h = h
  of_search app vsn (Err e) h = tt

  -- R holds of the instructions that are found in an appup, if there is one.
  of_searched : (d : Direction) (app vsn : List ℕ) (o : Option AppupForm) → IfSome o InAppup → IfOk (searched d app vsn o) (AllByRecursion R)
  of_searched d app vsn None h = tt
  of_searched d app vsn (Some p) h = of_search app vsn _ (of_entry_for vsn (entries_of d p) (of_entries d p h))

  -- An appup that counts is the application's own.
  of_counting : (a : RelupAppForm) (p : AppupForm) → InAppup p → IfSome (counting a p) InAppup
  of_counting a p h = go (bytes_eq p.vsn a.vsn)
    where
      go : (b : Bool) → IfSome (if b then Some p else None) InAppup
      go true = h
      go false = tt

  -- R holds of what the appup of an application has for a version.
  of_appup : (d : Direction) (a : RelupAppForm) (vsn : List ℕ) → InAppupOf a → IfOk (by_appup d a vsn) (AllByRecursion R)
  of_appup d a vsn h = of_searched d a.name vsn (counting_appup a) (of_next InAppup InAppup (counting a) (of_counting a) a.appup h)

  -- R holds of the row that is taken of what was found.
  of_result : (r : Result (List AppupInstruction) FaultForm) → IfOk r (AllByRecursion R) → IfSome (result_ok r) (AllByRecursion R)
  of_result (Ok is) h = h
  of_result (Err f) h = tt

  -- Another version of an application has its appup.
  of_other : (a b : RelupAppForm) → InAppupOf b → IfSome (if_other a b) InAppupOf
  of_other a b h = go (bytes_eq b.vsn a.vsn)
    where
      go : (t : Bool) → IfSome (if t then None else Some b) InAppupOf
      go true = tt
      go false = h

  -- Going up, R holds of the row of an application where it holds of the appup of the target.
  of_upgrade : (left target : RelupReleaseForm) (a : RelupAppForm) → InAppupOf a
      → IfSome (changing_row (record { direction = Up; left = left; target = target }) a) (AllByRecursion R)
  of_upgrade left target a h = go (option_and_then (if_other a) (app_named a.name left))
    where
      go : (o : Option RelupAppForm) → IfSome (option_and_then (λ (b : RelupAppForm). result_ok (between_versions Up b a)) o) (AllByRecursion R)
      go None = tt
      go (Some b) = of_result (by_appup Up a b.vsn) (of_appup Up a b.vsn h)

  -- Going down, R holds of the row of an application where it holds of the appups of the release that is left.
  of_downgrade : (left target : RelupReleaseForm) → AllByRecursion InAppupOf left.apps → (a : RelupAppForm) → Unit {0}
      → IfSome (changing_row (record { direction = Down; left = left; target = target }) a) (AllByRecursion R)
  of_downgrade left target of a any =
      of_next (AllByRecursion R) InAppupOf (λ (b : RelupAppForm). result_ok (between_versions Down b a))
      (λ b h. of_result (by_appup Down b a.vsn) (of_appup Down b a.vsn h))
      (option_and_then (if_other a) (app_named a.name left))
      (of_next InAppupOf InAppupOf (if_other a) (of_other a) (app_named a.name left) (of_found InAppupOf (λ (b : RelupAppForm). bytes_eq b.name a.name) left.apps of))

  -- R holds of the rows of applications that change.
  pub of_changing : (d : Direction) (left target : RelupReleaseForm) → InHigher d left target
      → AllByRecursion (AllByRecursion R) (filter_map (changing_row (record { direction = d; left = left; target = target })) target.apps)
  of_changing Up left target of = of_options (AllByRecursion R) InAppupOf _ (of_upgrade left target) target.apps of
  of_changing Down left target of = of_options (AllByRecursion R) (λ a. Unit {0}) _ (of_downgrade left target of) target.apps (trivially target.apps)

  module _ (w : WayForm) where
    -- Where it holds of each instruction without a fault, it holds of the rows of applications that change on a way without one.
    module _ (each : (b : RelupAppForm) (i : AppupInstruction) → instruction_fault w b i ≡ None → R i) where
      sound_row : (b : RelupAppForm) (is : List AppupInstruction) → AllByRecursion (λ i. instruction_fault w b i ≡ None) is → AllByRecursion R is
      sound_row b [] h = tt
      sound_row b (i ∷ is) h = (each b i h.0, sound_row b is h.1)

      sound_app : (a : RelupAppForm) (is : List AppupInstruction) → app_fault w a ≡ None → changing_row w a ≡ Some is → AllByRecursion R is
      sound_app a is h e = go (other_version w a) h e
        where
          found_row : (b : RelupAppForm) (r : Result (List AppupInstruction) FaultForm) → row_fault w b r ≡ None → result_ok r ≡ Some is → AllByRecursion R is
          found_row b (Err f) p q = absurd cc
          found_row b (Ok js) p q = let same : js ≡ is = cc in subst (AllByRecursion R) same (sound_row b js (all_sound (instruction_fault w b) js p))

          go : (o : Option RelupAppForm) → option_and_then (λ (b : RelupAppForm). row_fault w b (between_versions w.direction b a)) o ≡ None
              → option_and_then (λ (b : RelupAppForm). result_ok (between_versions w.direction b a)) o ≡ Some is → AllByRecursion R is
          go None p q = absurd cc
          go (Some b) p q = found_row b (between_versions w.direction b a) p q

      pub of_sound : way_fault w ≡ None → AllByRecursion (AllByRecursion R) (filter_map (changing_row w) w.target.apps)
      of_sound e = go (bytes_eq w.left.erts w.target.erts) e
        where
          go : (b : Bool) → (if b then first_fault (app_fault w) w.target.apps else Some needs_new_emulator) ≡ None
              → AllByRecursion (AllByRecursion R) (filter_map (changing_row w) w.target.apps)
          go true q = of_some (AllByRecursion R) (λ a. app_fault w a ≡ None) (changing_row w) sound_app w.target.apps (all_sound (app_fault w) w.target.apps q)
          go false q = absurd cc

    -- With them it holds of all rows, where it holds of an application that comes and of one that goes.
    module _ (C : RelupAppForm → Type 0) (comes : (a : RelupAppForm) → C a → R (add_application (record { name = a.name; start = a.start })))
        (goes : (b : RelupAppForm) → C b → R (remove_application b.name)) where
      of_coming : (a : RelupAppForm) → C a → IfSome (coming_row w a) (AllByRecursion R)
      of_coming a h = go (is_some (app_named a.name w.left))
        where
          go : (b : Bool) → IfSome (if b then None else Some (add_application (record { name = a.name; start = a.start }) ∷ [])) (AllByRecursion R)
          go true = tt
          go false = (comes a h, tt)

      of_going : (b : RelupAppForm) → C b → IfSome (going_row w b) (AllByRecursion R)
      of_going b h = go (is_some (app_named b.name w.target))
        where
          go : (t : Bool) → IfSome (if t then None else Some (remove_application b.name ∷ [])) (AllByRecursion R)
          go true = tt
          go false = (goes b h, tt)

      pub of_all_rows : AllByRecursion C w.target.apps → AllByRecursion C w.left.apps
          → AllByRecursion (AllByRecursion R) (filter_map (changing_row w) w.target.apps) → AllByRecursion (AllByRecursion R) (rows w)
      of_all_rows target left changing =
          of_both (AllByRecursion R) (filter_map (coming_row w) w.target.apps) _ (of_options (AllByRecursion R) C (coming_row w) of_coming w.target.apps target)
          (of_both (AllByRecursion R) (filter_map (changing_row w) w.target.apps) _ changing
          (of_reverse (AllByRecursion R) (filter_map (going_row w) w.left.apps) (of_options (AllByRecursion R) C (going_row w) of_going w.left.apps left)))
