use Rattle.std.proofs.Common.{rules, arith}
use Rattle.rel_disk.proofs.DamageLemmas.{overwritten-in_two}
use Rattle.rel_disk.proofs.mem_disk.overwrite.Goals as goal

pub returns-clause-items : goal.returns-clause-items
returns-clause-items c =
    overwritten-in_two c.args.at c.min-inside.result c.args.old.now.len c.args.bytes.now c.args.old.now.items c.deref_mut.result.now c.overwrite_part.new.old _
    (omega arith) (search rules) (search rules) c.deref_mut.ensures.value c.overwrite_part.ensures c.append.ensures.items
