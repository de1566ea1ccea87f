use Rattle.std.proofs.Common.{refl}
use Rattle.relup_block.proofs.AppendLemmas.{one_appended}
use Rattle.relup_block.proofs.block.push_instr.Goals as goal

pub returns : goal.returns
returns c = one_appended c.args.out.now.items c.push.new.self.items c.args.instr _ c.in_ok-push.ensures.items refl
