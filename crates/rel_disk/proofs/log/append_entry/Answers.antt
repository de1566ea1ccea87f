use Rattle.rel_disk.proofs.LogEntries.{append-entry}
use Rattle.std.proofs.Common.{rules}
use Rattle.rel_disk.proofs.log.append_entry.Goals as goal

pub returns-clause-items : goal.returns-clause-items
returns-clause-items c = append-entry _ c.append.new.v.items c.append-2.new.v.items c.append-3.new.v.items _ _ _ _ (search rules) (search rules) (search rules) (search rules)
