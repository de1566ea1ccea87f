use Rattle.std.proofs.Common.{◌≡◌, ◌<◌, Some, List, length, rules}
use Rattle.relup_instruction.specs.Instruction.{ChangeForm, change_of}
use Rattle.relup_instruction.specs.Instruction.Instruction.{code_change}
use Rattle.relup_block.proofs.AppendLemmas.{none_over, one_over}
use Rattle.relup_block.proofs.block.push_changes.Goals as goal

pub returns-then-is_empty : goal.returns-then-is_empty
returns-then-is_empty c =
    let none : length c.in_ok-changes.changes.items ≡ 0 = (search rules) in
    none_over change_of (λ (cs : List ChangeForm). code_change (record { mode = Some c.args.direction; changes = cs })) _ _ c.args.out.now.items c.in_ok-changes.ensures none

pub returns : goal.returns
returns c =
    let some : 0 < length c.in_ok-changes.changes.items = (search rules) in
    one_over change_of (λ (cs : List ChangeForm). code_change (record { mode = Some c.args.direction; changes = cs })) _ _ c.args.out.now.items c.push_instr.new.out.items c.push_instr.result c.in_ok-changes.ensures some c.push_instr.ensures
