use Rattle.std.proofs.Common.{length, sym, subst}
use Rattle.rel_disk.specs.Calls.{content}
use Rattle.rel_disk.specs.Damage.{Torn, Follows}
use Rattle.rel_disk.specs.Images.{Image}
use Rattle.rel_disk.proofs.DamageLemmas.{torn_same}
use Rattle.rel_host.proofs.file_disk.FileDiskDisk.write_at.Goals as goal

pub returns-then-self-clause-part : goal.returns-then-self-clause-part
returns-then-self-clause-part g c =
    subst (λ d. Torn c.args.at (length c.args.bytes.now) (content c.args.self.now.memory.first c.args.self.now.memory.calls) (content d.memory.first d.memory.calls)) (sym c.fail.ensures.failed)
    (torn_same c.args.at (length c.args.bytes.now) (content c.args.self.now.memory.first c.args.self.now.memory.calls))

pub returns-then-self-clause-crash : goal.returns-then-self-clause-crash
returns-then-self-clause-crash g c =
    subst (λ d. Follows (Torn c.args.at (length c.args.bytes.now)) (Image c.args.self.now.memory.first c.args.self.now.memory.calls) (Image d.memory.first d.memory.calls)) (sym c.fail.ensures.failed)
    (λ f image. (f, image, torn_same c.args.at (length c.args.bytes.now) f))
