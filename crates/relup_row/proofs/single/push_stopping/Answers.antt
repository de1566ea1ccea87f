use Rattle.std.proofs.Common.{OnOk, [], ◌∷◌, ◌++◌, codes, ap, subst, ◌∙◌}
use Rattle.relup_instruction.specs.Instruction.{script_of}
use Rattle.relup_row.specs.Script.{call_with, leaving}
use Rattle.relup_block.specs.Memory.{Appends}
use Rattle.relup_row.proofs.AppendLemmas.{both_appended}
use Rattle.relup_row.proofs.single.push_stopping.Goals as goal

pub returns : goal.returns
returns c =
    both_appended c.push_leaving.result _ _ _ _ _ (c.in_ok-push_call.ensures ∙ ap (λ app. script_of c.args.out.now.items ++ (call_with (codes "stop") app ∷ [])) c.as_str.ensures.value)
    (subst (λ ns. OnOk c.push_leaving.result (Appends c.push_call.new.out.items c.push_leaving.new.out.items (leaving ns))) c.as_slice.ensures c.push_leaving.ensures)
