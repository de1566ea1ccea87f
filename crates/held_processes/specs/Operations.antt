-- What an operation on the processes of a module leaves.
use Rattle.std.specs.Prelude.{◌≡◌, ℕ, zero, suc, ◌==◌, ◌<◌, Bool, ◌&&◌, ◌||◌, not, true, false, List, nat_lt, is_some, if◌then◌else◌, Result, Ok, Err}
use Rattle.erl_term.specs.Value as term
use Rattle.worker_table.specs.Table.{OldVersion}
use Rattle.proc_history.specs.declared.value.Value.{Value}
use Rattle.proc_history.specs.Changes.{finds_row}
use Rattle.proc_history.specs.Histories.{replay, replay_from}
use Rattle.proc_history.specs.Values.{up_at}
use Rattle.proc_table.specs.declared.view.View.{View}
use Rattle.proc_table.specs.Agrees.{slots}
use Rattle.proc_table.specs.Views.{seen}
use Rattle.proc_table.specs.Waits.{HasTaken}
use Rattle.held_processes.specs.Course.{Courses, Hold, Operation, ModulesBySlot, runs, on_module, if_held, course_after}
use Rattle.held_processes.specs.Course.Operation.{change, give_up}
use Rattle.sup_tree.specs.Tree.{App, module_in}
use Rattle.held_processes.specs.declared.steps.Undone.{Undone}
use Rattle.held_processes.specs.Following.{HeldSlots, AllFollow}

-- the module that the process in a slot runs, by the tree
abbrev pub modules_by_slot : List App → ModulesBySlot
modules_by_slot apps p = module_in p apps

-- courses that are changed in the slots below this one alone
abbrev pub up_to : ℕ → Courses → Courses → Courses
up_to n changed cs p = if nat_lt p n then changed p else cs p

-- the courses where the operation was done in the slots below this one alone
abbrev pub part_way : ℕ → ModulesBySlot → List ℕ → Operation → Courses → Courses
part_way n users name op cs = up_to n (on_module users name op cs) cs

-- The operation was done to each process of the module, or to those in the slots below the one in which it failed.
abbrev pub IsDone : {X : Type 0} → View → ModulesBySlot → List ℕ → Operation → Courses → Result X Undone → HeldSlots → View → Type 0
IsDone first users name op cs (Ok x) hs v = AllFollow first (on_module users name op cs) hs v
IsDone first users name op cs (Err e) hs v = AllFollow first (part_way e.slot users name op cs) hs v

-- what stands in each slot
abbrev pub Values : Type 0
Values = ℕ → Value

-- what the histories leave, as far as the handler has seen them
abbrev pub values_seen : View → Values
values_seen v p = replay (seen v p)

-- what stands in a slot: what its history leaves, and what is pending
abbrev pub now_in : Values → Courses → ℕ → Value
now_in seen cs p = replay_from (seen p) (cs p).pending

-- whether the test holds of one of so many lowest slots
abbrev pub any_below : (ℕ → Bool) → ℕ → Bool
any_below test zero = false
any_below test (suc n) = any_below test n || test n

abbrev pub any_slot : (ℕ → Bool) → Bool
any_slot test = any_below test slots

-- whether this slot is the lowest of which it holds
abbrev pub is_lowest : (ℕ → Bool) → ℕ → Bool
is_lowest test p = test p && not (any_below test p)

abbrev pub is_held : Hold → Bool
is_held h = if_held h true false

-- whether the process in this slot runs the module, and is held
abbrev pub is_held_user : ModulesBySlot → List ℕ → Courses → ℕ → Bool
is_held_user users name cs p = runs name (users p) && is_held (cs p).hold

-- whether a process of the module is held
abbrev pub holds_user : ModulesBySlot → List ℕ → Courses → Bool
holds_user users name cs = any_slot (is_held_user users name cs)

-- whether the process in this slot runs the module, and isn't held
abbrev pub is_free_user : ModulesBySlot → List ℕ → Courses → ℕ → Bool
is_free_user users name cs p = runs name (users p) && not (is_held (cs p).hold)

-- whether a process of the module isn't held
abbrev pub has_free_user : ModulesBySlot → List ℕ → Courses → Bool
has_free_user users name cs = any_slot (is_free_user users name cs)

-- whether the code of a process of the module can't be changed: it is held and up, and has no row for that
abbrev pub lacks_row_at : OldVersion → term.Value → Values → ModulesBySlot → List ℕ → Courses → ℕ → Bool
lacks_row_at old extra seen users name cs p = is_held_user users name cs p && not (finds_row old extra (now_in seen cs p))

abbrev pub lacks_row : OldVersion → term.Value → Values → ModulesBySlot → List ℕ → Courses → Bool
lacks_row old extra seen users name cs = any_slot (lacks_row_at old extra seen users name cs)

-- whether a process of the module is up
abbrev pub is_up_user : Values → ModulesBySlot → List ℕ → Courses → ℕ → Bool
is_up_user seen users name cs p = runs name (users p) && is_some (up_at (now_in seen cs p).now)

abbrev pub uses_up : Values → ModulesBySlot → List ℕ → Courses → Bool
uses_up seen users name cs = any_slot (is_up_user seen users name cs)

-- The slot of each process of the module that isn't held was taken between these two moments, up to the first process that is up.
abbrev pub AreLookedAt : ModulesBySlot → List ℕ → Courses → View → View → Type 0
AreLookedAt users name cs v w = (p : ℕ) → p < slots → is_free_user users name cs p ≡ true
    → any_below (is_up_user (values_seen w) users name cs) p ≡ false → HasTaken p v w

-- whether a process of the module stands in a slot
abbrev pub is_used : ModulesBySlot → List ℕ → Bool
is_used users name = any_slot (λ p. runs name (users p))

-- Each process of the module that is held and up has its row, or the one in this slot is the first that lacks it.
abbrev pub FindsRows : {X : Type 0} → OldVersion → term.Value → Values → ModulesBySlot → List ℕ → Courses → Result X Undone → Type 0
FindsRows old extra seen users name cs (Ok x) = lacks_row old extra seen users name cs ≡ false
FindsRows old extra seen users name cs (Err e) = e.slot < slots × (is_lowest (lacks_row_at old extra seen users name cs) e.slot ≡ true)

-- What a change leaves, and answers: of each start and courses that were followed.
abbrev pub Changes : ModulesBySlot → List ℕ → OldVersion → term.Value → HeldSlots → {X : Type 0} → Result X Undone → HeldSlots → Type 0
Changes users name old extra hs r hs' = (first : View) (cs : Courses) (v : View) → AllFollow first cs hs v
    → IsDone first users name (change old extra) cs r hs' v × FindsRows old extra (values_seen v) users name cs r

-- whether a process of the module is held, by any start and courses that were followed
abbrev pub ReportsHeldUser : ModulesBySlot → List ℕ → HeldSlots → Bool → Type 0
ReportsHeldUser users name hs b = (first : View) (cs : Courses) (v : View) → AllFollow first cs hs v → b ≡ holds_user users name cs

-- the courses where the process of one slot is given up, if it is held
abbrev pub give_up_at : ℕ → Courses → Courses
give_up_at slot cs p = if p == slot then if_held (cs p).hold (course_after give_up (cs p)) (cs p) else cs p
