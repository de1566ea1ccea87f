use Rattle.sup_tree.proofs.ChildLemmas.{NoneSoFar}
use Rattle.sup_tree.proofs.children.place_of_super.Given as goal

abbrev pub invariant-loop-place : goal.invariant-loop-place
invariant-loop-place l = NoneSoFar l.«module» l.apps l.place
