use Rattle.std.proofs.Common.{OnOk, [], ◌∷◌, subst}
use Rattle.relup_instruction.specs.Instruction.{PurgingForm}
use Rattle.relup_instruction.specs.Instruction.Instruction.{load}
use Rattle.relup_block.specs.Memory.{Appends}
use Rattle.relup_block.proofs.block.push_load.Goals as goal

pub returns : goal.returns
returns c =
    subst (λ (p : PurgingForm). OnOk c.push_instr.result (Appends c.args.out.now.items c.push_instr.new.out.items (load p ∷ [])))
    c.in_ok-purging.ensures c.push_instr.ensures
