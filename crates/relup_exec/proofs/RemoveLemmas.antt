-- A module that isn't loaded any more.
use Rattle.std.proofs.Common.{◌≡◌, ℕ, ◌||◌, Bool, true, false, true≢false, List, if◌then◌else◌, refl, sym, ap, subst, ◌∙◌, None, Some, Ok, Err}
use Rattle.proc_table.specs.declared.view.View.{View}
use Rattle.held_processes.specs.Following.{AllFollow, AreLonger}
use Rattle.held_processes.specs.Operations.{AreLookedAt, uses_up, modules_by_slot, values_seen}
use Rattle.relup_instruction.specs.Instruction.{PurgingForm}
use Rattle.relup_instruction.specs.Instruction.Instruction.{remove}
use Rattle.loaded_modules.specs.Loaded.{NamedModules, without_module}
use Rattle.sup_tree.specs.Tree.{App, supervises}
use Rattle.script_progress.specs.declared.cause.Failure.{Failure}
use Rattle.script_progress.specs.Fault.{remove_fault}
use Rattle.script_progress.specs.Fault.Cause.{in_use}
use Rattle.script_progress.specs.InMemory.{cause_of}
use Rattle.script_progress.specs.Script.{Site}
use Rattle.script_progress.specs.Steps.{CarriesOut, GoesByLooks, HasDone, Past, ProgressForm, TakesSlots, on_no_child}
use Rattle.held_processes.proofs.SlotLemmas.{longer_still}
use Rattle.script_progress.proofs.SeenLemmas.{seen_of}

-- whether the module runs somewhere, as it was reported, is as the script knows it
reported_here : (past : Past) (name : List ℕ) (a : ProgressForm) (tree : List App) (v w : View) → HasDone past a tree v
    → (supervises name tree || uses_up (values_seen w) (modules_by_slot tree) name past.run.courses) ≡ (supervises name past.run.apps || uses_up (values_seen w) (modules_by_slot past.run.apps) name past.run.courses)
reported_here past name a tree v w done =
    λ j. supervises name (done.apps j) || uses_up (values_seen w) (modules_by_slot (done.apps j)) name past.run.courses

nothing_reported : (past : Past) (name : List ℕ) (a : ProgressForm) (tree : List App) (v w : View) (b : Bool) → HasDone past a tree v
    → b ≡ (supervises name tree || uses_up (values_seen w) (modules_by_slot tree) name past.run.courses) → b ≡ false → remove_fault name (values_seen w) past.run ≡ None
nothing_reported past name a tree v w b done is unused =
    ap (λ (c : Bool). if c then Some in_use else None) (sym (reported_here past name a tree v w done) ∙ (sym is ∙ unused))

-- the slots of its processes were taken, also where it fails
slots_taken : (past : Past) (p : PurgingForm) (a : ProgressForm) (tree : List App) (v w : View) → HasDone past a tree v
    → (supervises p.name tree ≡ false → AreLookedAt (modules_by_slot tree) p.name past.run.courses v w) → TakesSlots (remove p) past.run v w
slots_taken past p a tree v w done looked = subst (λ (apps : List App). supervises p.name apps ≡ false → AreLookedAt (modules_by_slot apps) p.name past.run.courses v w) done.apps looked

pub removal_looks : (past : Past) (p : PurgingForm) (a : ProgressForm) (tree : List App) (v w : View) → HasDone past a tree v
    → (supervises p.name tree ≡ false → AreLookedAt (modules_by_slot tree) p.name past.run.courses v w) → GoesByLooks past (remove p) (on_no_child {X = Unit {0}} (Ok tt)) v w
removal_looks past p a tree v w done looked = (slots_taken past p a tree v w done looked, λ stays. absurd (true≢false (sym stays)))

pub refusal_looks : (past : Past) (p : PurgingForm) (e : Failure) (a : ProgressForm) (tree : List App) (v w : View) (b : Bool) → HasDone past a tree v
    → (supervises p.name tree ≡ false → AreLookedAt (modules_by_slot tree) p.name past.run.courses v w)
    → b ≡ (supervises p.name tree || uses_up (values_seen w) (modules_by_slot tree) p.name past.run.courses) → b ≡ true → cause_of e.cause ≡ in_use → GoesByLooks past (remove p) (on_no_child {X = Unit {0}} (Err e)) v w
refusal_looks past p e a tree v w b done looked is used caused = (
  λ _. slots_taken past p a tree v w done looked,
  ap (λ (c : Bool). if c then Some in_use else None) (sym (reported_here past p.name a tree v w done) ∙ (sym is ∙ used)) ∙ ap Some (sym caused),
)

-- nothing runs it
pub removed_well : (s : Site) (past : Past) (p : PurgingForm) (m : List ℕ) (a : ProgressForm) (next : NamedModules) (tree : List App) (v w : View) (b : Bool) → HasDone past a tree v → AreLonger v w
    → AllFollow past.first past.run.courses a.held w → m ≡ p.name → b ≡ (supervises p.name tree || uses_up (values_seen w) (modules_by_slot tree) p.name past.run.courses) → b ≡ false → next ≡ without_module m a.next
    → CarriesOut {X = Unit {0}} s past false (remove p) (Ok tt) (record a { next = next }) tree v w
removed_well s past p m a next tree v w b done longer follow named is unused removed = (
  (w, (seen_of past.first past.run past.run.courses a.held w (λ p. refl) follow, nothing_reported past p.name a tree v w b done is unused, refl), longer, longer_still w),
  record {
    follow = follow;
    fetched = done.fetched;
    next = removed ∙ (λ j. without_module (named j) (done.next j));
    apps = done.apps;
    values = done.values;
  },
)
