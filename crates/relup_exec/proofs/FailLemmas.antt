-- How an instruction fails.
use Rattle.std.proofs.Common.{◌≡◌, ◌∙◌, true, false, true≢false, List, Option, Result, Ok, Err, refl, subst, sym}
use Rattle.proc_table.specs.declared.view.View.{View}
use Rattle.held_processes.proofs.SlotLemmas.{longer_still}
use Rattle.held_processes.specs.Following.{AreLonger}
use Rattle.held_processes.specs.Operations.{values_seen}
use Rattle.relup_instruction.specs.declared.instruction.Call.{Call}
use Rattle.relup_instruction.specs.declared.instruction.Instr.{Instr}
use Rattle.relup_instruction.specs.declared.instruction.Instr.TheVariants.{Apply, Remove}
use Rattle.relup_instruction.specs.declared.instruction.Purging.{Purging}
use Rattle.relup_instruction.specs.Instruction.{CallForm, Instruction, instruction_of}
use Rattle.relup_instruction.specs.Instruction.Instruction.{apply, remove}
use Rattle.sup_tree.specs.Tree.{App}
use Rattle.script_progress.specs.declared.cause.Failure.{Failure}
use Rattle.script_progress.specs.Fault.{Cause, call_fault, error_cause}
use Rattle.script_progress.specs.InMemory.{cause_of}
use Rattle.script_progress.specs.Script.{Run, Site}
use Rattle.script_progress.specs.Steps.{CarriesOut, CarriesOutLate, FailsAtLast, HasDone, IsCause, IsEarly, TakesSlots, GoesByLooks, Past, ProgressForm, on_no_child}
use Rattle.relup_exec.specs.Steps.{goes_by_looks}
use Rattle.script_progress.proofs.CallLemmas.{early_error, error_fault, error_memory, error_on_no_child}
use Rattle.script_progress.proofs.SeenLemmas.{cause_seen, seen_in}

-- after the point of no return, one that is on no child fails by what is seen now
pub late_of : {X : Type 0} (s : Site) (past : Past) (i : Instruction) (r : Result X Failure) (a : ProgressForm) (tree : List App) (v w : View) → AreLonger v w → CarriesOut s past false i r a tree v w
    → CarriesOutLate s past i (on_no_child r) a tree v w
late_of s past i (Ok x) a tree v w longer is = is
late_of s past i (Err e) a tree v w longer is = record { then_view = w; fails = is.0; stops = is.1; since = longer; longer = longer_still w; partly = is.2 }

-- whether an instruction goes by a look at processes
pub no_look : (x : Instr) → ((c : Call) → x ≡ Apply c → ⊥) → ((p : Purging) → x ≡ Remove p → ⊥) → goes_by_looks (instruction_of x) ≡ false
no_look (Apply c) other another = absurd (other c refl)
no_look (Remove p) other another = absurd (another p refl)
no_look x other another = refl

-- one that doesn't takes no slot for it
takes_none : (i : Instruction) (r : Run) (v w : View) → goes_by_looks i ≡ false → TakesSlots i r v w
takes_none (apply c) r v w other = absurd (true≢false other)
takes_none (remove p) r v w other = absurd (true≢false other)
takes_none i r v w other = tt

fails_anywhere : (i : Instruction) (r : Run) (c : Cause) (w : View) → goes_by_looks i ≡ false → FailsAtLast i r c w
fails_anywhere (remove p) r c w other = absurd (true≢false other)
fails_anywhere i r c w other = tt

pub goes_by_none : {X : Type 0} (past : Past) (i : Instruction) (r : Result X Failure) (v w : View) → goes_by_looks i ≡ false → GoesByLooks past i (on_no_child r) v w
goes_by_none past i (Ok x) v w other = (takes_none i past.run v w other, λ stays. absurd (true≢false (sym stays)))
goes_by_none past i (Err e) v w other = (λ _. takes_none i past.run v w other, fails_anywhere i past.run (cause_of e.cause) w other)

-- before it, a call raises the error that it gives
pub raises_early : (s : Site) (past : Past) (i : Instruction) (call : CallForm) (e : Failure) (a : ProgressForm) (tree : List App) (v : View) → i ≡ apply call → IsEarly i → HasDone past a tree v
    → IsCause (error_cause call.args) (cause_of e.cause) → CarriesOut {X = Unit {0}} s past true i (Err e) a tree v v
raises_early s past i call e a tree v is early done cause =
    let raises = early_error call (subst IsEarly is early) in
    let fault = error_fault s call (values_seen v) past.run raises in
    subst (λ (j : Instruction). CarriesOut {X = Unit {0}} s past true j (Err e) a tree v v) (sym is) (
      cause_seen past.first v past.run (call_fault s (values_seen v) call past.run) (cause_of e.cause) (subst (λ (f : Option Cause). IsCause f (cause_of e.cause)) (sym fault) cause) (seen_in past a tree v done),
      (λ _. error_memory s (values_seen v) call past.run raises, λ on_child. absurd (true≢false (sym on_child ∙ error_on_no_child call raises))),
      done.follow,
    )
