use Rattle.std.proofs.Common.{rules}
use Rattle.rel_disk.proofs.ImageLemmas.{synced_within}
use Rattle.rel_disk.proofs.mem_disk.MemDiskDisk.sync.Goals as goal

pub returns-clause-crash : goal.returns-clause-crash
returns-clause-crash c = synced_within _ _ _ _ (search rules) (search rules)
