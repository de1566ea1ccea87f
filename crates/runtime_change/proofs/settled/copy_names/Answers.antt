use Rattle.std.proofs.Common.{string_bytes}
use Rattle.relup_row.proofs.WalkLemmas.{one_made, all_made}
use Rattle.runtime_change.proofs.settled.copy_names.Goals as goal

pub loop-name-preserved : goal.loop-name-preserved
loop-name-preserved c =
    one_made string_bytes string_bytes c.args.names.now c.loop-name.name-index c.name-item.result c.loop-name.copied.items c.push.new.self.items _ c.loop-name-test.true c.name-item.is
    c.in_ok-clone.ensures.cases c.in_ok-push.ensures.items c.loop-name.invariant

pub returns : goal.returns
returns c = all_made string_bytes string_bytes c.args.names.now c.loop-name.name-index c.loop-name.copied.items c.loop-name-test.false c.loop-name.invariant
