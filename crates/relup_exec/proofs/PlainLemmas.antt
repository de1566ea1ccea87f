-- Operations that don't fail, on the processes of one module after another.
use Rattle.std.proofs.Common.{◌≡◌, ℕ, ◌<◌, ◌+◌, List, String, map, take, length, get_or, string_bytes, refl, sym, ap, subst, ◌∙◌, Ok, Bool, true, false, None}
use Rattle.std.specs.declared.alloc.Global.{Global}
use Rattle.proc_table.specs.declared.view.View.{View}
use Rattle.held_processes.specs.Course.{Courses, Operation, ModulesBySlot, on_module}
use Rattle.held_processes.specs.Following.{AllFollow, AreLonger, HeldSlots}
use Rattle.held_processes.specs.Operations.{Values, modules_by_slot, values_seen}
use Rattle.relup_instruction.specs.Instruction.{Instruction}
use Rattle.relup_instruction.specs.Instruction.Instruction.{purge, restart_emulator}
use Rattle.sup_tree.specs.Tree.{App}
use Rattle.relup_exec.specs.declared.release.Plain.{Plain}
use Rattle.relup_exec.specs.declared.release.Plain.TheVariants.{Resume, Stop, Start}
use Rattle.script_progress.specs.Fault.{fault}
use Rattle.relup_exec.specs.Plain.{plain_instruction, plain_operation}
use Rattle.script_progress.specs.Script.{Run, Site, on_each, run_after, stays_at, with_courses}
use Rattle.script_progress.specs.Steps.{CarriesOut, HasDone, Past, ProgressForm}
use Rattle.held_processes.proofs.SlotLemmas.{longer_still}
use Rattle.relup_exec.proofs.CourseLemmas.{each_push}
use Rattle.relup_exec.proofs.RowLemmas.{more}
use Rattle.script_progress.proofs.SeenLemmas.{seen_in}

-- it is done to the processes of one module more
pub done_more : (op : Operation) (names : List (String Global)) (i : ℕ) (n : String Global) (m : List ℕ) (users : ModulesBySlot) (cs : Courses) → i < length names → n ≡ get_or names i n → m ≡ string_bytes n
    → on_each op (map string_bytes (take (i + 1) names)) users cs ≡ on_module users m op (on_each op (map string_bytes (take i names)) users cs)
done_more op names i n m users cs within at named =
    let before = map string_bytes (take i names) in
    ap (λ (ns : List (List ℕ)). on_each op ns users cs) (more string_bytes names i n within at)
    ∙ (each_push op before (string_bytes n) users cs ∙ ap (λ (name : List ℕ). on_module users name op (on_each op before users cs)) (sym named))

-- none of them fails
plain_is_sound : (s : Site) (plain : Plain) (names : List (List ℕ)) (v : View) (r : Run) → fault s (values_seen v) r (plain_instruction plain names) ≡ None
plain_is_sound s Resume names v r = refl
plain_is_sound s Stop names v r = refl
plain_is_sound s Start names v r = refl

plain_stays : (plain : Plain) (names : List (List ℕ)) (seen : Values) (r : Run) → stays_at seen (plain_instruction plain names) r ≡ false
plain_stays Resume names seen r = refl
plain_stays Stop names seen r = refl
plain_stays Start names seen r = refl

plain_run : (s : Site) (plain : Plain) (names : List (List ℕ)) (r : Run) → run_after s false false (plain_instruction plain names) r ≡ with_courses r (on_each (plain_operation plain) names)
plain_run s Resume names r = refl
plain_run s Stop names r = refl
plain_run s Start names r = refl

pub plain_carried : (s : Site) (past : Past) (plain : Plain) (names : List (List ℕ)) (a : ProgressForm) (hs : HeldSlots) (tree : List App) (v w : View) → HasDone past a tree v → AreLonger v w
    → AllFollow past.first (on_each (plain_operation plain) names (modules_by_slot tree) past.run.courses) hs w
    → CarriesOut {X = Unit {0}} s past false (plain_instruction plain names) (Ok tt) (record a { held = hs }) tree v w
plain_carried s past plain names a hs tree v w done longer follow = (
  (v, (seen_in past a tree v done, plain_is_sound s plain names v past.run, sym (plain_stays plain names (values_seen v) past.run)), longer_still v, longer),
  subst (λ (r : Run). HasDone (record past { run = r }) (record a { held = hs }) tree w) (sym (plain_run s plain names past.run))
      (record {
        follow = subst (λ (apps : List App). AllFollow past.first (on_each (plain_operation plain) names (modules_by_slot apps) past.run.courses) hs w) done.apps follow;
        fetched = done.fetched;
        next = done.next;
        apps = done.apps;
        values = done.values;
      }),
)

-- Nothing is done here for old code, nor for a restart: it is after the script's end.
abbrev pub is_idle : Instruction → Bool
is_idle (purge names) = true
is_idle restart_emulator = true
is_idle i = false

pub nothing_done : (s : Site) (past : Past) (i : Instruction) (a : ProgressForm) (tree : List App) (v : View) → is_idle i ≡ true → HasDone past a tree v
    → CarriesOut {X = Unit {0}} s past false i (Ok tt) a tree v v
nothing_done s past (purge names) a tree v idle done = ((v, (seen_in past a tree v done, refl, refl), longer_still v, longer_still v), done)
nothing_done s past restart_emulator a tree v idle done = ((v, (seen_in past a tree v done, refl, refl), longer_still v, longer_still v), done)
nothing_done s past i a tree v idle done = absurd cc
