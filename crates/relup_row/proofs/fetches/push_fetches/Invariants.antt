use Rattle.std.proofs.Common.{◌≡◌, ◌++◌, map, drop}
use Rattle.relup_instruction.specs.Instruction.{script_of}
use Rattle.relup_row.specs.Fetches.{mention_of, module_of, firsts}
use Rattle.relup_row.proofs.FetchLemmas.{fetches_of}
use Rattle.relup_row.proofs.fetches.push_fetches.Given as goal

abbrev pub invariant-loop-mention : goal.invariant-loop-mention
invariant-loop-mention l =
    script_of l.out.items ++ fetches_of (firsts module_of (map mention_of l.mentions)) (map mention_of (drop l.mention-index l.mention-items))
    ≡ script_of l.initial.out.items ++ fetches_of (firsts module_of (map mention_of l.mentions)) (map mention_of l.mention-items)
