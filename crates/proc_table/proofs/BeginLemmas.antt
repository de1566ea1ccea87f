-- What a begin leaves of the slots.
use Rattle.std.proofs.Common.{◌≡◌, ◌≢◌, ℕ, Bool, if◌then◌else◌, [], ◌∷◌, Some, None, Result, Ok, Err, ap, ◌∙◌}
use Rattle.proc_table.specs.declared.view.View.{View}
use Rattle.proc_table.specs.declared.pid.Pid.{Pid}
use Rattle.proc_history.specs.declared.beginning.Beginning.{Beginning}
use Rattle.proc_history.specs.Events.{entry}
use Rattle.proc_history.specs.Events.Event.{begin}
use Rattle.proc_history.specs.Histories.{replay}
use Rattle.proc_history.specs.Values.{nothing, next_round, begun}
use Rattle.proc_table.specs.Parts.{Part, part_of}
use Rattle.proc_table.specs.Views.{seen}
use Rattle.proc_table.specs.Calls.{Elsewhere}
use Rattle.proc_table.specs.Begins.{BeganAt}
use Rattle.proc_table.specs.Free.{next_in, BeganLowest}
use Rattle.proc_history.proofs.Entries.{replay-append}
use Rattle.proc_table.proofs.WaitLemmas.{held_and_released}

-- whether a process began or not, other slots are as they were, and so are the passes that are lent
pub began_at_elsewhere : (p : ℕ) (b : Beginning) (v w : View) (r : Result Pid Beginning) → BeganAt p b v r w → Elsewhere p v w
began_at_elsewhere p b v w (Ok pid) began = held_and_released p _ v began.0 began.1 w began.2 began.6
began_at_elsewhere p b v w (Err given) began = held_and_released p _ v began.0 began.1 w began.2 began.5

pub began_elsewhere : (b : Beginning) (v w : View) (pid : Pid) → BeganLowest b v (Ok pid) w → (q : ℕ) → q ≢ pid.slot → part_of w.parts q ≡ part_of v.parts q
began_elsewhere b v w pid (lowest, began) = (began_at_elsewhere pid.slot b v w (Ok pid) began).others

pub next_elsewhere : (b : Beginning) (v w : View) (pid : Pid) → BeganLowest b v (Ok pid) w → (q : ℕ) → q ≢ pid.slot → next_in w q ≡ next_in v q
next_elsewhere b v w pid began q ne = ap (λ (x : Part). if x.out then None else next_round (replay x.seen)) (began_elsewhere b v w pid began q ne)

-- the process stands in its slot
pub began_there : (b : Beginning) (v w : View) (pid : Pid) → BeganLowest b v (Ok pid) w → replay (seen w pid.slot) ≡ record { round = pid.round; now = Some (begun b) }
began_there b v w pid (lowest, began) =
    let released = began.6 in
    ap replay released.seen_is ∙ replay-append nothing (seen began.1 pid.slot) (entry 0 (begin pid.round b) ∷ [])

-- and so none can begin there
pub began_taken : (b : Beginning) (v w : View) (pid : Pid) → BeganLowest b v (Ok pid) w → next_in w pid.slot ≡ None
began_taken b v w pid (lowest, began) =
    ap (λ (o : Bool). if o then None else next_round (replay (seen w pid.slot))) began.6.out ∙ ap next_round (began_there b v w pid (lowest, began))
