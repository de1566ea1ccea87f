use Rattle.std.proofs.Common.{map}
use Rattle.relup_file.specs.Relup.{entry_of}
use Rattle.relup_file.proofs.Rows.{entries_more, entries_all, entries_bad}
use Rattle.relup_file.proofs.entries.entries_in.Goals as goal

pub loop-i-preserved : goal.loop-i-preserved
loop-i-preserved c =
    entries_more c.args.before c.args.terms.now c.loop-i.i c.index-terms-i.result c.loop-i.entries.items c.push.new.self.items c.in-Some.entry _
    c.loop-i-test.true c.index-terms-i.is (rw c.in-Some.is at c.in_ok-entry.ensures) c.in_ok-push.ensures.items c.loop-i.invariant

pub returns : goal.returns
returns c = entries_all c.args.before c.args.terms.now c.loop-i.i c.loop-i.entries.items c.loop-i-test.false c.loop-i.invariant

pub returns-in_default : goal.returns-in_default
returns-in_default c =
    entries_bad c.args.before c.args.terms.now c.loop-i.i c.index-terms-i.result (map entry_of c.loop-i.entries.items) _
    c.loop-i-test.true c.index-terms-i.is (rw c.in_default.is at c.in_ok-entry.ensures) c.loop-i.invariant
