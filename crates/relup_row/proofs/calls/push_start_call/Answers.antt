use Rattle.std.proofs.Common.{OnOk, codes, [], ◌∷◌, ap, subst, ◌∙◌}
use Rattle.erl_term.specs.Value.Value.{atom}
use Rattle.erl_term.specs.Value.Values.{no_values, value}
use Rattle.relup_instruction.specs.Instruction.{Instruction}
use Rattle.relup_row.specs.Script.{application_call}
use Rattle.relup_block.specs.Memory.{Appends}
use Rattle.relup_row.proofs.calls.push_start_call.Goals as goal

pub returns : goal.returns
returns c =
    subst (λ (i : Instruction). OnOk c.push_instr.result (Appends c.args.out.now.items c.push_instr.new.out.items (i ∷ [])))
    (c.in_ok-application_call.ensures ∙ ap (λ word. application_call (codes "start") (value (atom c.args.app.now) (value (atom word) no_values))) c.start_word.ensures) c.push_instr.ensures
