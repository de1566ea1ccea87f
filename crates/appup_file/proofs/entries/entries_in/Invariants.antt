use Rattle.std.proofs.Common.{◌≡◌, ◌++◌, map, drop}
use Rattle.std.specs.Option.{option_map}
use Rattle.erl_term.specs.Value.{members_of}
use Rattle.relup_instruction.specs.Parts.{all_in}
use Rattle.appup_file.specs.Instruction.{entry_of}
use Rattle.appup_file.specs.Parts.{entry_in}
use Rattle.appup_file.proofs.entries.entries_in.Given as goal

abbrev pub invariant-loop-item : goal.invariant-loop-item
invariant-loop-item l =
    option_map (λ rest. map entry_of l.entries.items ++ rest) (all_in entry_in (members_of (drop l.item-index l.items))) ≡ all_in entry_in (members_of l.items)
