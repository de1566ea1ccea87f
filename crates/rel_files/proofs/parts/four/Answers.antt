use Rattle.std.proofs.Common.{◌≡◌, length, arith}
use Rattle.std.proofs.lemmas.Grind.{common_steps}
use Rattle.rel_files.proofs.Pairs.{not_four}
use Rattle.rel_files.proofs.parts.four.Goals as goal

pub returns-in_default : goal.returns-in_default
returns-in_default c = not_four c.args.members.now (λ (is : length c.args.members.now ≡ 4). absurd (grind (arith, common_steps)))
