-- What was done was seen, and a cause with it.
use Rattle.std.proofs.Common.{◌≡◌, List, refl, sym, subst, Option}
use Rattle.proc_history.specs.Events.{HistoryEntry}
use Rattle.proc_table.specs.Views.{seen}
use Rattle.proc_table.specs.declared.view.View.{View}
use Rattle.held_processes.specs.Course.{Courses}
use Rattle.held_processes.specs.Following.{AllFollow, HeldSlots, Stand}
use Rattle.sup_tree.specs.Tree.{App}
use Rattle.script_progress.specs.Fault.{Cause}
use Rattle.script_progress.specs.Fault.Cause.{no_memory}
use Rattle.script_progress.specs.Script.{Run}
use Rattle.script_progress.specs.Steps.{HasDone, IsCause, IsCauseIn, IsSeen, Past, ProgressForm, SameBlocks}

-- what was followed was seen
pub seen_of : (first : View) (r : Run) (cs : Courses) (hs : HeldSlots) (v : View) → SameBlocks r.courses cs → AllFollow first cs hs v → IsSeen first r v
seen_of first r cs hs v same f = λ p inside. subst (λ (bs : List (List HistoryEntry)). Stand first.lent (seen first p) bs (seen v p)) (same p) (f.each p inside).stand

-- what was done was seen
pub seen_in : (past : Past) (a : ProgressForm) (tree : List App) (v : View) → HasDone past a tree v → IsSeen past.first past.run v
seen_in past a tree v done = seen_of past.first past.run past.run.courses a.held v (λ p. refl) done.follow

pub cause_seen : (first v : View) (r : Run) (o : Option Cause) (c : Cause) → IsCause o c → IsSeen first r v → IsCauseIn first v r o c
cause_seen first v r o no_memory is all = tt
cause_seen first v r o c is all = (is, all)

-- want of memory may be answered of anything
pub memory_in : (first v : View) (r : Run) (o : Option Cause) (c : Cause) → c ≡ no_memory → IsCauseIn first v r o c
memory_in first v r o c is = subst (λ (k : Cause). IsCauseIn first v r o k) (sym is) tt
