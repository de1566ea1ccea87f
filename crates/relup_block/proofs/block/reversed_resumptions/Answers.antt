use Rattle.std.proofs.Common.{string_bytes}
use Rattle.relup_block.proofs.ReverseLemmas.{backwards}
use Rattle.relup_block.proofs.block.reversed_resumptions.Goals as goal

pub returns : goal.returns
returns c = backwards string_bytes c.in_ok-names.names.items c.reverse.new.self.items _ c.reverse.ensures.items c.in_ok-names.ensures
