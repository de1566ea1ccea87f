use Rattle.held_processes.specs.Following.{HoldsNothing}
use Rattle.relup_exec.specs.Sites.{IsSeated, view_in}
use Rattle.script_cases.proofs.beside.refuse_on.Given as goal

abbrev pub invariant-loop : goal.invariant-loop
invariant-loop g l = IsSeated l.site × HoldsNothing (view_in l.site)
