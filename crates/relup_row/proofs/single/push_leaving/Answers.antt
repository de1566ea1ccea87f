use Rattle.std.proofs.Common.{OnOk, [], ◌∷◌, string_bytes, subst}
use Rattle.relup_instruction.specs.Instruction.Instruction.{purge}
use Rattle.relup_block.specs.Memory.{Appends}
use Rattle.relup_row.proofs.AppendLemmas.{both_appended}
use Rattle.relup_row.proofs.WalkLemmas.{all_cloned}
use Rattle.relup_row.proofs.single.push_leaving.Goals as goal

pub returns : goal.returns
returns c =
    let cloned = all_cloned string_bytes c.args.names.now c.in_ok-from_clones.field-0.items c.in_ok-from_clones.ensures.items in
    both_appended c.push_instr.result _ _ _ _ _ c.in_ok-push_removals.ensures
    (subst (λ ns. OnOk c.push_instr.result (Appends c.push_removals.new.out.items c.push_instr.new.out.items (purge ns ∷ []))) cloned c.push_instr.ensures)
