use Rattle.std.proofs.Common.{◌≡◌, ◌++◌, map, drop}
use Rattle.std.specs.Option.{option_map}
use Rattle.erl_term.specs.Value.{members_of}
use Rattle.relup_instruction.specs.Instruction.{change_of}
use Rattle.relup_instruction.specs.Parts.{all_in, change_in}
use Rattle.relup_instruction.proofs.payloads.all_changes.Given as goal

abbrev pub invariant-loop-item : goal.invariant-loop-item
invariant-loop-item l =
    option_map (λ rest. map change_of l.all.items ++ rest) (all_in change_in (members_of (drop l.item-index l.items))) ≡ all_in change_in (members_of l.items)
