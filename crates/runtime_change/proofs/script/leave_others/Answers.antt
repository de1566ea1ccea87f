use Rattle.std.proofs.Common.{ap, rules, ◌∙◌}
use Rattle.std.specs.Prelude.{not}
use Rattle.std.proofs.lemmas.Fn.{filter_same}
use Rattle.relup_instruction.specs.declared.instruction.Instr.{Instr}
use Rattle.relup_instruction.specs.Instruction.{Instruction, instruction_of, script_of}
use Rattle.runtime_change.specs.Runtime.{is_restart}
use Rattle.runtime_change.proofs.ScriptLemmas.{left_of}
use Rattle.runtime_change.proofs.script.leave_others.Goals as goal

pub returns : goal.returns
returns c =
    let kept = filter_same _ (λ (i : Instr). not (is_restart (instruction_of i))) _ (λ x b f' k. search rules) _ _ c.retain.ensures.filtered in
    ap script_of kept ∙ left_of instruction_of (λ (i : Instruction). not (is_restart i)) c.args.script.now.items
