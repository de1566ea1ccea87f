use Rattle.std.proofs.Common.{◌≡◌, ◌++◌, ◌+◌, drop}
use Rattle.appup_file.specs.Instruction.{row_of}
use Rattle.relup_lint.specs.Script.{all_placed, placed}
use Rattle.relup_lint.proofs.script.push_entry.Given as goal

abbrev pub invariant-loop-before : goal.invariant-loop-before
invariant-loop-before l =
    all_placed l.script.items ++ placed l.app (l.before + 1) (row_of (drop l.before l.instrs))
    ≡ all_placed l.initial.script.items ++ placed l.app 1 (row_of l.instrs)
