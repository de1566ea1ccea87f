use Rattle.std.proofs.Common.{sym, subst}
use Rattle.rel_disk.specs.Calls.{content}
use Rattle.rel_disk.specs.Damage.{Cut, Follows}
use Rattle.rel_disk.specs.Images.{Image}
use Rattle.rel_disk.proofs.DamageLemmas.{cut_same}
use Rattle.rel_disk.proofs.mem_disk.MemDiskDisk.cut.Goals as goal

pub returns-then-not-has_room-clause-part : goal.returns-then-not-has_room-clause-part
returns-then-not-has_room-clause-part c =
    subst (λ d. Cut c.args.len (content c.args.self.now.first c.args.self.now.calls) (content d.first d.calls)) (sym c.fail.ensures.failed) (cut_same c.args.len (content c.args.self.now.first c.args.self.now.calls))

pub returns-then-not-has_room-clause-crash : goal.returns-then-not-has_room-clause-crash
returns-then-not-has_room-clause-crash c =
    subst (λ d. Follows (Cut c.args.len) (Image c.args.self.now.first c.args.self.now.calls) (Image d.first d.calls)) (sym c.fail.ensures.failed) (λ f image. (f, image, cut_same c.args.len f))
