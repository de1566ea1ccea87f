use Rattle.std.proofs.Common.{◌≡◌, length, arith}
use Rattle.std.proofs.lemmas.Grind.{common_steps}
use Rattle.relup_instruction.proofs.Pieces.{not_one}
use Rattle.relup_instruction.proofs.payloads.one_in.Goals as goal

pub returns-in_default : goal.returns-in_default
returns-in_default c = not_one c.args.members.now (λ (is : length c.args.members.now ≡ 1). absurd (grind (arith, common_steps)))
