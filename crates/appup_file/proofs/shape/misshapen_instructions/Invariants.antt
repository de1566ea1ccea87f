use Rattle.std.proofs.Common.{◌≡◌, ◌+◌, drop}
use Rattle.erl_term.specs.Value.{members_of}
use Rattle.appup_file.specs.Shape.{first_misshapen, misshapen_instruction}
use Rattle.appup_file.proofs.shape.misshapen_instructions.Given as goal

-- the first fault is that of the instructions from here on
abbrev pub invariant-loop-i : goal.invariant-loop-i
invariant-loop-i l =
    first_misshapen (misshapen_instruction l.direction l.entry) 1 (members_of l.instrs) ≡ first_misshapen (misshapen_instruction l.direction l.entry) (l.i + 1) (members_of (drop l.i l.instrs))
