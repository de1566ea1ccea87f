use Rattle.std.proofs.Common.{◌≡◌, ◌<◌, length, rules}
use Rattle.relup_instruction.specs.Instruction.{suspension_of}
use Rattle.relup_instruction.specs.Instruction.Instruction.{suspend}
use Rattle.relup_block.proofs.AppendLemmas.{none_over, one_over}
use Rattle.relup_block.proofs.block.push_suspend.Goals as goal

pub returns-then-is_empty : goal.returns-then-is_empty
returns-then-is_empty c =
    let none : length c.in_ok-suspensions.suspensions.items ≡ 0 = (search rules) in
    none_over suspension_of suspend _ _ c.args.out.now.items c.in_ok-suspensions.ensures none

pub returns : goal.returns
returns c =
    let some : 0 < length c.in_ok-suspensions.suspensions.items = (search rules) in
    one_over suspension_of suspend _ _ c.args.out.now.items c.push_instr.new.out.items c.push_instr.result c.in_ok-suspensions.ensures some c.push_instr.ensures
