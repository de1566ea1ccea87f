use Rattle.std.proofs.Common.{arith, refl}
use Rattle.rel_disk.specs.Calls.{synced}
use Rattle.rel_disk.proofs.LogEntries.{keeps_sync, state-push}
use Rattle.rel_disk.proofs.log.Log.keep_sync.Goals as goal

pub invariant_of-self : goal.invariant_of-self
invariant_of-self c = keeps_sync _ _ _ _ (synced) _ 32 _ _ _ c.self.view_is c.self.invariant c.self.invariant.fit c.append_entry.ensures.items c.append_entry.ensures.capacity (omega arith) c.requires refl _ (omega arith)

pub returns : goal.returns
returns c = state-push _ _ _ _ (synced) _ 32 _ _ _ c.self.view_is c.self.invariant c.self.invariant.fit c.append_entry.ensures.items c.append_entry.ensures.capacity (omega arith) c.requires
