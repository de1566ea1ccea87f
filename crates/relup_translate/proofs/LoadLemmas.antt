-- A made script fetches each module that it loads.
use Rattle.std.proofs.Common.{◌≡◌, refl, ap, ◌∙◌, ℕ, Bool, IsTrue, true, false, ◌||◌, List, [], ◌∷◌, ◌++◌, map, filter_map, flat_map, find, Option, None, Some, is_some, IfSome, option_map, cond, if◌then◌else◌, bytes_eq, get_or, All}
use Rattle.std.specs.List.{AllByRecursion, cons_option, list_any}
use Rattle.std.proofs.lemmas.Bool.{or_left}
use Rattle.std.proofs.lemmas.Cmp.{nat_list_eq_equiv}
use Rattle.std.proofs.lemmas.List.{map-append}
use Rattle.std.proofs.lemmas.List.Concat.{flat_map-append}
use Rattle.std.proofs.lemmas.List.Elements.{All-weaker, recursion_from_All}
use Rattle.std.proofs.lemmas.List.Folds.{flat_map-map, list_any-append, list_any_at}
use Rattle.relup_instruction.specs.declared.instruction.Direction.{Direction}
use Rattle.relup_instruction.specs.declared.instruction.Direction.TheVariants.{Up, Down}
use Rattle.relup_instruction.specs.Instruction.Instruction.{load_object_code, load, restart_emulator}
use Rattle.appup_file.specs.Instruction.{AppupInstruction}
use Rattle.appup_file.specs.Instruction.AppupInstruction.{update, load_module, add_module, add_application, restart_application, low_level}
use Rattle.relup_block.specs.Order.{is_among}
use Rattle.relup_row.specs.Release.{RelupAppForm, RelupReleaseForm, WayForm, way_between, app_named, owner}
use Rattle.relup_row.specs.Fetches.{MentionForm, mention, module_of, fetches, fetching}
use Rattle.relup_row.specs.Script.{of_app, app_modules, loaded_by, mentions_by, mentions, row_script, written_fetch, written_fetches, asks_restart, restart_at_end, script}
use Rattle.relup_row.proofs.OnceLemmas.{fetches_mentioned}
use Rattle.relup_translate.specs.Fault.FaultForm.{unknown_module}
use Rattle.relup_translate.specs.Translation.{known, target_has_module, instruction_fault, way_fault, rows, way_script}
use Rattle.relup_translate.specs.Laws.{fetched_modules, LoadsAmong, FetchesItsLoads, WritesNoLoad, AppupsWriteNoLoad, FetchesLoads}
use Rattle.relup_row.proofs.ListLemmas.{of_both, of_each, of_parts, of_found, trivially}
use Rattle.relup_translate.proofs.RowLemmas.{HoldsOfMade, written, of_rows}
use Rattle.relup_translate.proofs.WayLemmas.{InHigher, of_changing, of_sound, of_all_rows}
use Rattle.relup_translate.proofs.ScriptLemmas.{of_made}

-- Names are among themselves.
among_themselves : (names : List (List ℕ)) → All (λ name. IsTrue (is_among name names)) names
among_themselves names k d within =
    let name = get_or names k d in
    list_any_at (λ n. bytes_eq n name) names k d within (nat_list_eq_equiv.refl name)

-- Something is found where something passes the test.
is_some_found : {A : Type 0} (test : A → Bool) (xs : List A) → is_some (find test xs) ≡ list_any test xs
is_some_found test [] = refl
is_some_found test (x ∷ xs) = go (test x) (is_some_found test xs)
  where
    go : (b : Bool) → is_some (find test xs) ≡ list_any test xs → is_some (cond b (Some x) (find test xs)) ≡ (b || list_any test xs)
    go true more = refl
    go false more = more

-- The modules that are loaded on a way
module _ (w : WayForm) where
  -- A module has an application in the target.
  abbrev HasOwner : List ℕ → Type 0
  HasOwner name = IsTrue (is_some (owner name w.target))

  -- The modules of the target's applications have an application in the target.
  apps_have_owners : All (λ (a : RelupAppForm). AllByRecursion HasOwner a.modules) w.target.apps
  apps_have_owners k d within =
      recursion_from_All HasOwner _
      (λ j e below. is_some_found _ w.target.apps ∙ list_any_at (λ (a : RelupAppForm). is_among _ a.modules) w.target.apps k d within (among_themselves _ j e below))

  app_has_owners : (app : List ℕ) → AllByRecursion HasOwner (app_modules app w.target)
  app_has_owners app =
      go (app_named app w.target)
      (of_found _ (λ (a : RelupAppForm). bytes_eq a.name app) w.target.apps
      (recursion_from_All (λ (a : RelupAppForm). AllByRecursion HasOwner a.modules) w.target.apps apps_have_owners))
    where
      go : (o : Option RelupAppForm) → IfSome o (λ (a : RelupAppForm). AllByRecursion HasOwner a.modules) → AllByRecursion HasOwner (of_app (λ (a : RelupAppForm). a.modules) o)
      go None h = tt
      go (Some a) h = h

  -- A module that an instruction without a fault loads has an application in the target.
  has_owner : (name : List ℕ) → target_has_module w name ≡ None → HasOwner name
  has_owner name e = go (is_some (owner name w.target)) e
    where
      go : (b : Bool) → known b (unknown_module name) ≡ None → IsTrue b
      go true q = refl
      go false q = absurd cc

  abbrev LoadsHaveOwners : AppupInstruction → Type 0
  LoadsHaveOwners i = AllByRecursion HasOwner (loaded_by w i)

  loads_have_owners : (b : RelupAppForm) (i : AppupInstruction) → instruction_fault w b i ≡ None → LoadsHaveOwners i
  loads_have_owners b (update u) e = (has_owner u.name e, tt)
  loads_have_owners b (load_module l) e = (has_owner l.name e, tt)
  loads_have_owners b (add_module d) e = (has_owner d.name e, tt)
  loads_have_owners b (add_application a) e = app_has_owners a.name
  loads_have_owners b (restart_application app) e = app_has_owners app
  loads_have_owners b i e = tt

  -- Where each name has an application in the target, the names are those that are mentioned.
  mentioned_names : (names : List (List ℕ)) → AllByRecursion HasOwner names → map module_of (filter_map (mention w.target) names) ≡ names
  mentioned_names [] h = refl
  mentioned_names (name ∷ names) h = go (owner name w.target) h.0 (mentioned_names names h.1)
    where
      go : (o : Option RelupAppForm) → IsTrue (is_some o) → map module_of (filter_map (mention w.target) names) ≡ names
          → map module_of (cons_option (option_map (λ (a : RelupAppForm). record { name = name; app = a }) o) (filter_map (mention w.target) names)) ≡ name ∷ names
      go None e more = absurd cc
      go (Some a) e more = ap (λ ns. name ∷ ns) more

  mentioned_parts : {B : Type 0} (Q : B → Type 0) (f : B → List MentionForm) (g : B → List (List ℕ)) → ((b : B) → Q b → map module_of (f b) ≡ g b)
      → (bs : List B) → AllByRecursion Q bs → map module_of (flat_map f bs) ≡ flat_map g bs
  mentioned_parts Q f g each [] h = refl
  mentioned_parts Q f g each (b ∷ bs) h = map-append module_of (f b) (flat_map f bs) ∙ (λ j. each b h.0 j ++ mentioned_parts Q f g each bs h.1 j)

  mentioned_rows : (rs : List (List AppupInstruction)) → AllByRecursion (AllByRecursion LoadsHaveOwners) rs
      → map module_of (flat_map (mentions w) rs) ≡ flat_map (flat_map (loaded_by w)) rs
  mentioned_rows rs h =
      mentioned_parts (AllByRecursion LoadsHaveOwners) (mentions w) (flat_map (loaded_by w))
      (λ is. mentioned_parts LoadsHaveOwners (mentions_by w) (loaded_by w) (λ i. mentioned_names (loaded_by w i)) is) rs h

-- A script fetches the modules that its rows load.
module _ (w : WayForm) (rs : List (List AppupInstruction)) where
  abbrev loaded_names : List (List ℕ)
  loaded_names = flat_map (flat_map (loaded_by w)) rs

  abbrev script_fetches : List (List ℕ)
  script_fetches = flat_map fetched_modules (script w rs)

  abbrev IsFetched : List ℕ → Type 0
  IsFetched name = IsTrue (is_among name script_fetches)

  loaded_fetched : AllByRecursion (AllByRecursion (LoadsHaveOwners w)) rs → (name : List ℕ) → IsTrue (is_among name loaded_names) → IsFetched name
  loaded_fetched h name among =
      let ms = flat_map (mentions w) rs in
      ap (is_among name) (flat_map-append fetched_modules (fetching ms) _)
      ∙ (list_any-append (λ n. bytes_eq n name) (flat_map fetched_modules (fetching ms)) _
      ∙ or_left _ _
      (ap (is_among name) (flat_map-map fetched_modules load_object_code (fetches ms))
      ∙ (fetches_mentioned ms name ∙ (ap (is_among name) (mentioned_rows w rs h) ∙ among))))

  all_fetched : AllByRecursion (AllByRecursion (LoadsHaveOwners w)) rs → AllByRecursion IsFetched loaded_names
  all_fetched h =
      recursion_from_All IsFetched loaded_names
      (All-weaker (λ name. IsTrue (is_among name loaded_names)) IsFetched (loaded_fetched h) loaded_names (among_themselves loaded_names))

  -- Of the instructions that are made for rows, a `load` of a fetched module loads a fetched one, and the others load none.
  of_loads : HoldsOfMade (LoadsAmong script_fetches) IsFetched
  of_loads = record {
    suspends = λ ss. tt;
    loads = λ p is. is;
    changes = λ c. tt;
    resumes = λ names. tt;
    removes = λ p. tt;
    purges = λ names. tt;
    applies = λ c. tt;
  }

  of_written : (i : AppupInstruction) → WritesNoLoad i → AllByRecursion (LoadsAmong script_fetches) (written i)
  of_written (low_level (load p)) h = absurd h
  of_written (low_level (load_object_code f)) h = tt
  of_written (low_level restart_emulator) h = tt
  of_written (low_level i) h = (tt, tt)
  of_written i h = tt

  of_written_fetch : (i : AppupInstruction) → Unit {0} → AllByRecursion (LoadsAmong script_fetches) (written_fetch i)
  of_written_fetch (low_level (load_object_code f)) h = (tt, tt)
  of_written_fetch i h = tt

  of_restart : (restarts : Bool) → AllByRecursion (LoadsAmong script_fetches) (if restarts then restart_emulator ∷ [] else [])
  of_restart true = (tt, tt)
  of_restart false = tt

  fetches_its_loads : AllByRecursion (AllByRecursion (LoadsHaveOwners w)) rs → AllByRecursion (AllByRecursion WritesNoLoad) rs → FetchesItsLoads (script w rs)
  fetches_its_loads owners none =
      let Loads = LoadsAmong script_fetches in
      of_both Loads (fetching (flat_map (mentions w) rs)) _ (of_each Loads load_object_code (λ f. tt) (fetches (flat_map (mentions w) rs)))
      (of_both Loads (flat_map written_fetches rs) _
      (of_parts Loads (λ is. Unit {0}) written_fetches (λ is any. of_parts Loads (λ i. Unit {0}) written_fetch of_written_fetch is (trivially is)) rs (trivially rs)) (
        tt,
        of_both Loads (flat_map (row_script w) rs) (restart_at_end rs)
            (of_rows Loads IsFetched of_loads w rs (all_fetched owners)
            (of_parts Loads (AllByRecursion WritesNoLoad) (flat_map written) (of_parts Loads WritesNoLoad written of_written) rs none))
            (of_restart (list_any (list_any asks_restart) rs)),
      ))

-- The script of a way without a fault fetches what it loads, where the appups of the higher release have no load themselves.
fetches_on_way : (w : WayForm) → way_fault w ≡ None → InHigher WritesNoLoad w.direction w.left w.target → FetchesItsLoads (way_script w)
fetches_on_way w e none =
    fetches_its_loads w (rows w)
    (of_all_rows (LoadsHaveOwners w) w (λ a. Unit {0}) (λ a any. app_has_owners w a.name) (λ b any. tt) (trivially w.target.apps) (trivially w.left.apps)
    (of_sound (LoadsHaveOwners w) w (loads_have_owners w) e))
    (of_all_rows WritesNoLoad w (λ a. Unit {0}) (λ a any. tt) (λ b any. tt) (trivially w.target.apps) (trivially w.left.apps)
    (of_changing WritesNoLoad w.direction w.left w.target none))

-- The higher release of a way up is its target, and of a way down the one that is left.
higher_writes_none : (d : Direction) (new other : RelupReleaseForm) → AppupsWriteNoLoad new
    → InHigher WritesNoLoad (way_between d new other).direction (way_between d new other).left (way_between d new other).target
higher_writes_none Up new other h = h
higher_writes_none Down new other h = h

-- Each script of a relup that is made fetches what it loads.
pub fetches_loads : FetchesLoads
fetches_loads new ups downs r none = of_made FetchesItsLoads new (λ d other e. fetches_on_way (way_between d new other) e (higher_writes_none d new other none)) ups downs r
