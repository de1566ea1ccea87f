-- What steps make of the courses of processes, and where they fail.
use Rattle.std.proofs.Common.{◌≡◌, ℕ, zero, suc, Bool, true, false, true≢false, ◌&&◌, not, List, [], ◌∷◌, ◌++◌, length, if◌then◌else◌, refl, sym, ap, ◌∙◌, Option, Some, None, arith}
use Rattle.worker_table.specs.Table.{OldVersion, WorkerTable}
use Rattle.std.proofs.lemmas.Bool.{le-ltb}
use Rattle.proc_table.specs.Agrees.{slots}
use Rattle.held_processes.specs.Course.{Course, Courses, Operation, ModulesBySlot, course_after, on_module, runs}
use Rattle.held_processes.specs.Course.Operation.{suspend, load, change}
use Rattle.held_processes.specs.Laws.{IsPending}
use Rattle.held_processes.specs.Operations.{has_free_user, is_free_user, is_held, part_way}
use Rattle.held_processes.proofs.AnyLemmas.{any_more}
use Rattle.held_processes.proofs.CourseLemmas.{module_adds_no_block, part_way_adds_no_block}
use Rattle.relup_instruction.specs.declared.instruction.Direction.{Direction}
use Rattle.relup_instruction.specs.Instruction as instruction
use Rattle.relup_instruction.specs.Instruction.{ChangeForm, Instruction}
use Rattle.loaded_modules.specs.Loaded.{module_named}
use Rattle.script_progress.specs.Script.{Run, Site, change_courses, change_within, changed, changed_once, changed_within, courses_within, each_within, load_within, mode_of, old_version, on_each, suspended_in, modules_by_slot_in, worker_in}
use Rattle.script_progress.specs.Steps.{SameBlocks}

-- in no slot yet
pub none_within : (users : ModulesBySlot) (name : List ℕ) (op : Operation) (cs : Courses) → (p : ℕ) → part_way 0 users name op cs p ≡ cs p
none_within users name op cs p = ap (λ (b : Bool). if b then on_module users name op cs p else cs p) (le-ltb p 0 (omega arith))

pub change_none_within : (name : List ℕ) (old : Option OldVersion) (c : ChangeForm) (users : ModulesBySlot) (cs : Courses) → (p : ℕ) → change_within name old c 0 users cs p ≡ cs p
change_none_within name None c users cs p = refl
change_none_within name (Some old) c users cs p = none_within users name (change old c.extra) cs p

-- the operation on one module more
pub each_push : (op : Operation) (names : List (List ℕ)) (n : List ℕ) (users : ModulesBySlot) (cs : Courses)
    → on_each op (names ++ n ∷ []) users cs ≡ on_module users n op (on_each op names users cs)
each_push op [] n users cs = refl
each_push op (m ∷ ms) n users cs = each_push op ms n users (on_module users m op cs)

-- A process that isn't held after a suspension wasn't held before it.
free_at : (a b : Bool) (c : Course) → (a && not (is_held (if b then course_after suspend c else c).hold)) ≡ true → (a && not (is_held c.hold)) ≡ true
free_at true true c e = absurd (true≢false (sym e))
free_at false true c e = absurd (true≢false (sym e))
free_at a false c e = e

-- Where a process of a module isn't held after the suspension of several modules, one wasn't held before it.
pub free_before : (names : List (List ℕ)) (n : List ℕ) (users : ModulesBySlot) (cs : Courses) → has_free_user users n (on_each suspend names users cs) ≡ true → has_free_user users n cs ≡ true
free_before [] n users cs e = e
free_before (m ∷ ms) n users cs e =
    any_more (is_free_user users n (on_module users m suspend cs)) (is_free_user users n cs) slots (λ p. free_at (runs n (users p)) (runs m (users p)) (cs p))
    (free_before ms n users (on_module users m suspend cs) e)

-- An operation on several modules failed for one of them: it was done to those before this one, and in part to this one.
pub each_stopped : (op : Operation) (front : List (List ℕ)) (n : List ℕ) (rest : List (List ℕ)) (slot : ℕ) (users : ModulesBySlot) (cs : Courses)
    → each_within op (front ++ (n ∷ rest)) (length front) slot users cs ≡ part_way slot users n op (on_each op front users cs)
each_stopped op [] n rest slot users cs = refl
each_stopped op (m ∷ front) n rest slot users cs = each_stopped op front n rest slot users (on_module users m op cs)

pub changed_push : (s : Site) (mode : Direction) (cs : List ChangeForm) (c : ChangeForm) (r : Run) → changed s mode (cs ++ c ∷ []) r ≡ changed_once s mode c (changed s mode cs r)
changed_push s mode [] c r = refl
changed_push s mode (d ∷ cs) c r = changed_push s mode cs c (changed_once s mode d r)

-- one of the changes of code failed
pub changed_stopped : (s : Site) (mode : Direction) (front : List ChangeForm) (c : ChangeForm) (rest : List ChangeForm) (slot : ℕ) (r : Run)
    → changed_within s mode (front ++ (c ∷ rest)) (length front) slot r
    ≡ change_within c.name (old_version s mode c.name (changed s mode front r)) c slot (modules_by_slot_in (changed s mode front r)) (changed s mode front r).courses
changed_stopped s mode [] c rest slot r = refl
changed_stopped s mode (d ∷ front) c rest slot r = changed_stopped s mode front c rest slot (changed_once s mode d r)

-- None of this adds a block.
each_within_same : (op : Operation) (names : List (List ℕ)) (n slot : ℕ) (users : ModulesBySlot) (cs : Courses) → IsPending op → SameBlocks cs (each_within op names n slot users cs)
each_within_same op [] n slot users cs is p = refl
each_within_same op (m ∷ ms) zero slot users cs is p = part_way_adds_no_block slot users m op cs is p
each_within_same op (m ∷ ms) (suc n) slot users cs is p =
    each_within_same op ms n slot users (on_module users m op cs) is p ∙ module_adds_no_block users m op cs is p

load_within_same : (name : List ℕ) (w : Option WorkerTable) (slot : ℕ) (users : ModulesBySlot) (cs : Courses) → SameBlocks cs (load_within true name w slot users cs)
load_within_same name None slot users cs p = refl
load_within_same name (Some w) slot users cs p = part_way_adds_no_block slot users name (load true w) cs tt p

pub change_same : (name : List ℕ) (old : Option OldVersion) (c : ChangeForm) (users : ModulesBySlot) (cs : Courses) → SameBlocks cs (change_courses name old c users cs)
change_same name None c users cs p = refl
change_same name (Some old) c users cs p = module_adds_no_block users name (change old c.extra) cs tt p

change_within_same : (name : List ℕ) (old : Option OldVersion) (c : ChangeForm) (slot : ℕ) (users : ModulesBySlot) (cs : Courses) → SameBlocks cs (change_within name old c slot users cs)
change_within_same name None c slot users cs p = refl
change_within_same name (Some old) c slot users cs p = part_way_adds_no_block slot users name (change old c.extra) cs tt p

pub changed_within_same : (s : Site) (mode : Direction) (cs : List ChangeForm) (n slot : ℕ) (r : Run) → SameBlocks r.courses (changed_within s mode cs n slot r)
changed_within_same s mode [] n slot r p = refl
changed_within_same s mode (c ∷ cs) zero slot r p = change_within_same c.name (old_version s mode c.name r) c slot (modules_by_slot_in r) r.courses p
changed_within_same s mode (c ∷ cs) (suc n) slot r p =
    changed_within_same s mode cs n slot (changed_once s mode c r) p ∙ change_same c.name (old_version s mode c.name r) c (modules_by_slot_in r) r.courses p

-- what an instruction did that failed before the point of no return
pub within_adds_no_block : (s : Site) (i : Instruction) (n slot : ℕ) (r : Run) → SameBlocks r.courses (courses_within s true i n slot r)
within_adds_no_block s (instruction.Instruction.suspend ss) n slot r p = each_within_same suspend (suspended_in ss) n slot (modules_by_slot_in r) r.courses tt p
within_adds_no_block s (instruction.Instruction.load f) n slot r p = load_within_same f.name (worker_in (module_named f.name r.fetched)) slot (modules_by_slot_in r) r.courses p
within_adds_no_block s (instruction.Instruction.code_change c) n slot r p = changed_within_same s (mode_of c.mode) c.changes n slot r p
within_adds_no_block s i n slot r p = refl
