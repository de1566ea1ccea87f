use Rattle.std.proofs.Common.{arith, length, ◌+◌, refl}
use Rattle.rel_disk.specs.Calls.{wrote}
use Rattle.rel_disk.proofs.LogEntries.{keeps-push, state-push}
use Rattle.rel_disk.proofs.log.Log.keep_write.Goals as goal

pub invariant_of-self : goal.invariant_of-self
invariant_of-self c = keeps-push _ _ _ _ (wrote c.args.at c.args.bytes.now) _ (32 + length c.args.bytes.now) _ _ _ c.self.view_is c.self.invariant (omega arith, c.append_entry.ensures.count, c.self.invariant.fit) c.append_entry.ensures.items c.append_entry.ensures.capacity (omega arith) c.requires refl

pub returns : goal.returns
returns c = state-push _ _ _ _ (wrote c.args.at c.args.bytes.now) _ (32 + length c.args.bytes.now) _ _ _ c.self.view_is c.self.invariant (omega arith, c.append_entry.ensures.count, c.self.invariant.fit) c.append_entry.ensures.items c.append_entry.ensures.capacity (omega arith) c.requires
