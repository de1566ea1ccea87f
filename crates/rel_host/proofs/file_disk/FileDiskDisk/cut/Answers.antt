use Rattle.std.proofs.Common.{sym, subst}
use Rattle.rel_disk.specs.Calls.{content}
use Rattle.rel_disk.specs.Damage.{Cut, Follows}
use Rattle.rel_disk.specs.Images.{Image}
use Rattle.rel_disk.proofs.DamageLemmas.{cut_same}
use Rattle.rel_host.proofs.file_disk.FileDiskDisk.cut.Goals as goal

pub returns-then-self-clause-part : goal.returns-then-self-clause-part
returns-then-self-clause-part g c =
    subst (λ d. Cut c.args.len (content c.args.self.now.memory.first c.args.self.now.memory.calls) (content d.memory.first d.memory.calls)) (sym c.fail.ensures.failed) (cut_same c.args.len (content c.args.self.now.memory.first c.args.self.now.memory.calls))

pub returns-then-self-clause-crash : goal.returns-then-self-clause-crash
returns-then-self-clause-crash g c =
    subst (λ d. Follows (Cut c.args.len) (Image c.args.self.now.memory.first c.args.self.now.memory.calls) (Image d.memory.first d.memory.calls)) (sym c.fail.ensures.failed) (λ f image. (f, image, cut_same c.args.len f))
