use Rattle.std.proofs.Common.{arith, ◌+◌, refl}
use Rattle.rel_disk.specs.Calls.{cut_to}
use Rattle.rel_disk.proofs.LogEntries.{keeps-push, state-push}
use Rattle.rel_disk.proofs.log.Log.keep_cut.Goals as goal

pub invariant_of-self : goal.invariant_of-self
invariant_of-self c = keeps-push _ _ _ _ (cut_to c.args.len) _ (32 + c.args.lost) _ _ _ c.self.view_is c.self.invariant (omega arith, c.self.invariant.fit) c.append_entry.ensures.items c.append_entry.ensures.capacity (omega arith) c.requires refl

pub returns : goal.returns
returns c = state-push _ _ _ _ (cut_to c.args.len) _ (32 + c.args.lost) _ _ _ c.self.view_is c.self.invariant (omega arith, c.self.invariant.fit) c.append_entry.ensures.items c.append_entry.ensures.capacity (omega arith) c.requires
