use Rattle.std.proofs.Common.{ℕ, List, length, inl, inr, sym, ◌∙◌}
use Rattle.rel_disk.proofs.Moments.{started, goes_on}
use Rattle.rel_store.specs.Moments.{IsTornFrom}
use Rattle.rel_store.proofs.Exits.{on_success, on_both}
use Rattle.rel_store.proofs.device.write_through.Goals as goal

pub returns-in_err-write_at-clause-any_moment : goal.returns-in_err-write_at-clause-any_moment
returns-in_err-write_at-clause-any_moment g c =
    let disk = c.args.disk.now in
    let P : List ℕ → Type 0 = IsTornFrom (g.D.Disk.may_leave disk) c.args.at (length c.args.bytes.now) in
    goes_on g.D.Disk.moment g.D.Disk.left_since disk disk c.write_at.new.self P _ (started g.D.Disk.moment g.D.Disk.left_since disk P (λ f left. inl (g.met.D.Disk.only_now disk f left))) c.write_at.ensures.time (λ f now. inr (c.write_at.ensures.crash f now))

pub returns-clause-any_moment : goal.returns-clause-any_moment
returns-clause-any_moment g c =
    let disk = c.args.disk.now in
    let P : List ℕ → Type 0 = IsTornFrom (g.D.Disk.may_leave disk) c.args.at (length c.args.bytes.now) in
    let written = goes_on g.D.Disk.moment g.D.Disk.left_since disk disk c.write_at.new.self P _ (started g.D.Disk.moment g.D.Disk.left_since disk P (λ f left. inl (g.met.D.Disk.only_now disk f left))) c.write_at.ensures.time (λ f now. inr (c.write_at.ensures.crash f now)) in
    goes_on g.D.Disk.moment g.D.Disk.left_since disk c.write_at.new.self c.sync.new.self P _ written c.sync.ensures.time (λ f now. inr (c.write_at.ensures.crash f (c.sync.ensures.crash f now)))

pub returns-clause-written : goal.returns-clause-written
returns-clause-written g c =
    on_success _ _ c.sync.result (λ same. same ∙ c.in_ok-write_at.ensures.written) c.sync.ensures.same

pub returns-clause-durable : goal.returns-clause-durable
returns-clause-durable g c =
    on_both _ _ _ c.sync.result (λ durable same d now. durable d now ∙ sym same) c.sync.ensures.durable c.sync.ensures.same
