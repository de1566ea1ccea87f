use Rattle.std.proofs.Common.{refl}
use Rattle.relup_block.proofs.block.rules.Goals as goal

pub returns-in-Up : goal.returns-in-Up
returns-in-Up c xs = rw c.in-Up.is refl

pub returns-in-Down : goal.returns-in-Down
returns-in-Down c xs = rw c.in-Down.is refl
