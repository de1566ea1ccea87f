use Rattle.std.proofs.Common.{map, ap, ◌∙◌}
use Rattle.relup_instruction.specs.Instruction.{change_of}
use Rattle.relup_row.proofs.copies.copy_conversion.Goals as goal

pub returns : goal.returns
returns c = λ j. record { mode = c.args.conversion.now.mode; changes = (c.in_ok-copy_changes.ensures ∙ ap (map change_of) c.deref.ensures.value) j }
