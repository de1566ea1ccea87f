use Rattle.std.proofs.Common.{◌≡◌, ◌<◌, length, string_bytes, rules}
use Rattle.relup_instruction.specs.Instruction.Instruction.{resume}
use Rattle.relup_block.proofs.AppendLemmas.{none_over, one_over}
use Rattle.relup_block.proofs.block.push_resume.Goals as goal

pub returns-then-is_empty : goal.returns-then-is_empty
returns-then-is_empty c =
    let none : length c.in_ok-names.names.items ≡ 0 = (search rules) in
    none_over string_bytes resume _ _ c.args.out.now.items c.in_ok-names.ensures none

pub returns : goal.returns
returns c =
    let some : 0 < length c.in_ok-names.names.items = (search rules) in
    one_over string_bytes resume _ _ c.args.out.now.items c.push_instr.new.out.items c.push_instr.result c.in_ok-names.ensures some c.push_instr.ensures
