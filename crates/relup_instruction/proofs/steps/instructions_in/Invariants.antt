use Rattle.std.proofs.Common.{◌≡◌, ◌++◌, map, drop}
use Rattle.std.specs.Option.{option_map}
use Rattle.erl_term.specs.Value.{members_of}
use Rattle.relup_instruction.specs.Instruction.{instruction_of}
use Rattle.relup_instruction.specs.Parts.{all_in, instruction_in}
use Rattle.relup_instruction.proofs.steps.instructions_in.Given as goal

abbrev pub invariant-loop-item : goal.invariant-loop-item
invariant-loop-item l =
    option_map (λ rest. map instruction_of l.script.items ++ rest) (all_in instruction_in (members_of (drop l.item-index l.items))) ≡ all_in instruction_in (members_of l.items)
