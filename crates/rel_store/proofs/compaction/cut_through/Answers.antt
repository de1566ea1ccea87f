use Rattle.std.proofs.Common.{ℕ, List, inl, inr}
use Rattle.rel_disk.proofs.Moments.{started, goes_on}
use Rattle.rel_store.specs.Compaction.{IsCutFrom}
use Rattle.rel_store.proofs.Scan.{failed_since}
use Rattle.rel_store.proofs.compaction.cut_through.Goals as goal

pub returns-clause-any_moment : goal.returns-clause-any_moment
returns-clause-any_moment g c =
    let disk = c.args.disk.now in
    let P : List ℕ → Type 0 = IsCutFrom (g.D.Disk.may_leave disk) c.args.len in
    let cut = goes_on g.D.Disk.moment g.D.Disk.left_since disk disk c.cut.new.self P _ (started g.D.Disk.moment g.D.Disk.left_since disk P (λ f left. inl (g.met.D.Disk.only_now disk f left))) c.cut.ensures.time (λ f now. inr (c.cut.ensures.crash f now)) in
    goes_on g.D.Disk.moment g.D.Disk.left_since disk c.cut.new.self c.sync.new.self P _ cut c.sync.ensures.time (λ f now. inr (c.cut.ensures.crash f (c.sync.ensures.crash f now)))

pub returns-clause-cause : goal.returns-clause-cause
returns-clause-cause g c = λ is. failed_since _ _ _ c.cut.ensures.counted c.sync.ensures.counted (c.sync.ensures.cause is)
