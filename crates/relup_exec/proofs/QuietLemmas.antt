-- Before the point of no return no block is added to a course.
use Rattle.std.proofs.Common.{◌≡◌, ℕ, Bool, true, false, ◌&&◌, if◌then◌else◌, codes, List, [], ◌∷◌, Option, Some, None, not, refl, ap, ◌∙◌}
use Rattle.std.specs.List.{AllByRecursion}
use Rattle.worker_table.specs.Table.{WorkerTable}
use Rattle.held_processes.specs.Course.{Courses, ModulesBySlot, on_module}
use Rattle.held_processes.specs.Course.Operation.{suspend, load}
use Rattle.held_processes.proofs.CourseLemmas.{module_adds_no_block}
use Rattle.relup_instruction.specs.declared.instruction.Direction.{Direction}
use Rattle.relup_instruction.specs.Instruction as instruction
use Rattle.relup_instruction.specs.Instruction.{CallForm, ChangeForm, Instruction}
use Rattle.relup_file.specs.Script.{has_one, is_error, is_supported_call}
use Rattle.loaded_modules.specs.Loaded.{module_named}
use Rattle.std.specs.Str.{bytes_eq}
use Rattle.std.proofs.lemmas.Slice.Eq.{bytes_eq-Decides}
use Rattle.script_progress.specs.Calls.{AppCall, app_call, child_call, first_atom, is_on_child}
use Rattle.script_progress.specs.Calls.AppCall.{starts, stops, idle}
use Rattle.script_progress.specs.Script.{Run, Site, call_after, called_after, child_after, changed, changed_once, load_courses, mode_of, old_version, on_each, run_after, suspended_in, modules_by_slot_in, worker_in}
use Rattle.relup_exec.specs.Outcome.{Start, began_at, run_behind, run_through}
use Rattle.script_progress.specs.Steps.{IsEarly, SameBlocks}
use Rattle.script_progress.proofs.CallLemmas.{left_true, right_true}
use Rattle.relup_exec.proofs.RunLemmas.{not_the_point}
use Rattle.relup_exec.proofs.CourseLemmas.{change_same}

-- a call that raises an error does nothing
errors_do_nothing : (s : Site) (c : CallForm) (b : Bool) (r : Run) → IsEarly (instruction.Instruction.apply c) → call_after s c b r ≡ r
errors_do_nothing s c stays r early =
    let raises : is_error c ≡ true = right_true (is_supported_call c) (is_error c) early in
    let named : c.name ≡ codes "erlang" =
    (bytes_eq-Decides c.name (codes "erlang")).0 (left_true (bytes_eq c.name (codes "erlang")) (bytes_eq c.function (codes "error") && has_one c.args) raises) in
    let other : bytes_eq c.name (codes "application") ≡ false = ap (λ (n : List ℕ). bytes_eq n (codes "application")) named in
    let idles : app_call c ≡ idle =
    ap (λ (b : Bool). if b then (if bytes_eq c.function (codes "start") then starts (first_atom c.args) else if bytes_eq c.function (codes "stop") then stops (first_atom c.args) else idle) else idle) other in
    let child : is_on_child c ≡ false = ap (λ (n : List ℕ). bytes_eq n (codes "supervisor")) named in
    ap (λ (b : Bool). if b then child_after (child_call c) stays r else called_after s (app_call c) r) child ∙ ap (λ (k : AppCall). called_after s k r) idles

each_same : (names : List (List ℕ)) (users : ModulesBySlot) (cs : Courses) → SameBlocks cs (on_each suspend names users cs)
each_same [] users cs p = refl
each_same (m ∷ ms) users cs p = each_same ms users (on_module users m suspend cs) p ∙ module_adds_no_block users m suspend cs tt p

loads_same : (name : List ℕ) (w : Option WorkerTable) (users : ModulesBySlot) (cs : Courses) → SameBlocks cs (load_courses true name w users cs)
loads_same name None users cs p = refl
loads_same name (Some w) users cs p = module_adds_no_block users name (load true w) cs tt p

changed_same : (s : Site) (mode : Direction) (cs : List ChangeForm) (r : Run) → SameBlocks r.courses (changed s mode cs r).courses
changed_same s mode [] r p = refl
changed_same s mode (c ∷ cs) r p =
    changed_same s mode cs (changed_once s mode c r) p ∙ change_same c.name (old_version s mode c.name r) c (modules_by_slot_in r) r.courses p

-- what an instruction does that may stand before the point
step_same : (s : Site) (i : Instruction) → IsEarly i → (r : Run) → SameBlocks r.courses (run_after s true false i r).courses
step_same s (instruction.Instruction.load_object_code f) early r p = refl
step_same s (instruction.Instruction.suspend ss) early r p = each_same (suspended_in ss) (modules_by_slot_in r) r.courses p
step_same s (instruction.Instruction.load f) early r p = loads_same f.name (worker_in (module_named f.name r.fetched)) (modules_by_slot_in r) r.courses p
step_same s (instruction.Instruction.code_change c) early r p = changed_same s (mode_of c.mode) c.changes r p
step_same s (instruction.Instruction.apply c) early r p = ap (λ (q : Run). (q.courses p).blocks) (errors_do_nothing s c false r early)
step_same s i early r p = absurd (cc early)

through_same : (s : Site) (is : List Instruction) → AllByRecursion IsEarly is → (r : Run) → SameBlocks r.courses (run_through s true [] is r).courses
through_same s [] early r p = refl
through_same s (i ∷ is) early r p =
    ap (λ e. ((run_through s e [] is (run_after s true false i r)).courses p).blocks) (ap not (not_the_point i early.0))
    ∙ (through_same s is early.1 (run_after s true false i r) p ∙ step_same s i early.0 r p)

-- no block stands in a history
pub early_quiet : (s : Site) (start : Start) (is : List Instruction) → AllByRecursion IsEarly is → (p : ℕ) → ((run_behind s start [] is).courses p).blocks ≡ []
early_quiet s start is early p = through_same s is early (began_at s start) p
