-- A handler that added nothing and gave all back holds nothing.
use Rattle.proc_table.specs.declared.view.View.{View}
use Rattle.held_processes.specs.Following.{AreUntouched, HoldsNothing}

pub untouched_nothing : (first v : View) → AreUntouched first v → HoldsNothing v
untouched_nothing first v u = record { handler = u.handler; out = λ p inside. (u.each p inside).out }
