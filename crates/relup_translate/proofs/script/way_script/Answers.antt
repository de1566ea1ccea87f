use Rattle.std.proofs.Common.{◌++◌, ap, ◌∙◌}
use Rattle.relup_instruction.specs.Instruction.{script_of}
use Rattle.relup_row.specs.Release.{way_of}
use Rattle.relup_row.specs.Script.{script}
use Rattle.relup_translate.specs.Memory.{rows_of}
use Rattle.relup_translate.proofs.script.way_script.Goals as goal

pub returns : goal.returns
returns c =
    let way = way_of c.args.way in
    c.in_ok-push_script.ensures
    ∙ (ap (λ is. script_of is ++ script way (rows_of c.deref.result.now)) c.new-script.ensures.items
    ∙ ap (script way) (ap rows_of c.deref.ensures.value ∙ c.in_ok-changes.ensures))
