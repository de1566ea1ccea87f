use Rattle.std.proofs.Common.{sym, subst, length, rules}
use Rattle.rel_disk.specs.Calls.{content}
use Rattle.rel_disk.specs.Damage.{Torn, Follows}
use Rattle.rel_disk.specs.Images.{Image}
use Rattle.rel_disk.proofs.DamageLemmas.{torn_same}
use Rattle.rel_disk.proofs.ImageLemmas.{written_part}
use Rattle.rel_disk.proofs.mem_disk.MemDiskDisk.write_at.Goals as goal

pub returns-then-bytes-self-clause-part : goal.returns-then-bytes-self-clause-part
returns-then-bytes-self-clause-part c =
    subst (λ d. Torn c.args.at (length c.args.bytes.now) (content c.args.self.now.first c.args.self.now.calls) (content d.first d.calls)) (sym c.fail.ensures.failed)
    (torn_same c.args.at (length c.args.bytes.now) (content c.args.self.now.first c.args.self.now.calls))

pub returns-then-bytes-self-clause-crash : goal.returns-then-bytes-self-clause-crash
returns-then-bytes-self-clause-crash c =
    subst (λ d. Follows (Torn c.args.at (length c.args.bytes.now)) (Image c.args.self.now.first c.args.self.now.calls) (Image d.first d.calls)) (sym c.fail.ensures.failed)
    (λ f image. (f, image, torn_same c.args.at (length c.args.bytes.now) f))

pub returns-clause-part : goal.returns-clause-part
returns-clause-part c = written_part c.args.self.now.first _ c.args.at c.args.bytes.now c.args.self.now.calls c.keep_write.new.self.calls (search rules) (search rules)
