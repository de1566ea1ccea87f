use Rattle.std.proofs.Common.{◌≡◌, length, arith}
use Rattle.std.proofs.lemmas.Grind.{common_steps}
use Rattle.rel_files.proofs.Pairs.{not_two}
use Rattle.rel_files.proofs.parts.two.Goals as goal

pub returns-in_default : goal.returns-in_default
returns-in_default c = not_two c.args.members.now (λ (is : length c.args.members.now ≡ 2). absurd (grind (arith, common_steps)))
