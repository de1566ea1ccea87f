use Rattle.std.proofs.Common.{◌≡◌, length, arith}
use Rattle.std.proofs.lemmas.Grind.{common_steps}
use Rattle.mod_table.proofs.MemberLemmas.{not_one}
use Rattle.mod_table.proofs.child.is_only.Goals as goal

pub returns-in_default-2 : goal.returns-in_default-2
returns-in_default-2 c = not_one c.args.name.now c.args.items.now (λ (is : length c.args.items.now ≡ 1). absurd (grind (arith, common_steps)))
