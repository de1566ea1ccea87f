use Rattle.std.proofs.Common.{◌≡◌, ◌++◌, drop}
use Rattle.std.specs.Option.{option_map}
use Rattle.erl_term.specs.Value.{members_of}
use Rattle.relup_instruction.specs.Parts.{all_in}
use Rattle.appup_file.specs.Instruction.{row_of}
use Rattle.appup_file.specs.Parts.{appup_instruction_in}
use Rattle.appup_file.proofs.steps.row_in.Given as goal

abbrev pub invariant-loop-item : goal.invariant-loop-item
invariant-loop-item l =
    option_map (λ rest. row_of l.instrs.items ++ rest) (all_in appup_instruction_in (members_of (drop l.item-index l.items))) ≡ all_in appup_instruction_in (members_of l.items)
