-- Instructions written one after another.
use Rattle.std.proofs.Common.{ap, ◌∙◌, List, ◌++◌, Result, OnOk}
use Rattle.std.proofs.lemmas.List.{append_assoc}
use Rattle.std.proofs.lemmas.Result.{on_ok_weaker}
use Rattle.relup_instruction.specs.declared.instruction.Instr.{Instr}
use Rattle.relup_instruction.specs.Instruction.{Instruction, script_of}
use Rattle.relup_block.specs.Memory.{Appends}

pub both_appended : {T E : Type 0} (r : Result T E) (old mid new : List Instr) (xs ys : List Instruction) → Appends old mid xs → OnOk r (Appends mid new ys)
    → OnOk r (Appends old new (xs ++ ys))
both_appended r old mid new xs ys first =
    on_ok_weaker r (λ second. second ∙ (ap (λ (zs : List Instruction). zs ++ ys) first ∙ append_assoc (script_of old) xs ys))
