use Rattle.std.proofs.Common.{◌≡◌, length, arith}
use Rattle.std.proofs.lemmas.Grind.{common_steps}
use Rattle.mod_table.proofs.MemberLemmas.{not_six, six}
use Rattle.mod_table.proofs.child.child_members.Goals as goal

pub returns-in_default : goal.returns-in_default
returns-in_default c = not_six c.args.members.now (λ (is : length c.args.members.now ≡ 6). absurd (grind (arith, common_steps)))

pub returns-in-len6 : goal.returns-in-len6
returns-in-len6 c =
    let are : length c.args.members.now ≡ 6 = omega arith in
    six c.args.members.now _ _ _ _ _ _ are c.id-item.is c.start-item.is c.restart-item.is c.shutdown-item.is c.kind-item.is c.modules-item.is
