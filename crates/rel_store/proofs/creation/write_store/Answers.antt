use Rattle.std.proofs.Common.{ℕ, List, [], ◌∷◌, inl, inr, sym, ◌∙◌}
use Rattle.rel_disk.specs.Damage.{overwritten, Only}
use Rattle.rel_disk.specs.Moments.{LeavesOnly, MaySync}
use Rattle.rel_disk.specs.declared.disk.Disk.{Ghosts}
use Rattle.rel_store.specs.Creation.{IsBehindGate, Creates}
use Rattle.rel_store.specs.Moments.{IsTornFrom}
use Rattle.rel_store.proofs.Exits.{on_success}
use Rattle.rel_store.proofs.NewStore.{opened_over, begun, begun_there}
use Rattle.rel_store.proofs.creation.write_store.Goals as goal

-- the first write has failed, with its sync or before it
stopped : {D : Type 0} (v : Ghosts D) (old new : D) (first start bytes : List ℕ) → IsBehindGate first start bytes → v.may_leave new (v.seen new) → ((c : List ℕ) → v.left_since new (v.moment new) c → v.may_leave new c)
    → LeavesOnly v.moment v.left_since old new (IsTornFrom (v.may_leave old) 0 1) → MaySync (v.syncs old) (v.syncs new) (Only (overwritten 0 (0 ∷ []) (v.seen old)) (v.may_leave new)) → Creates v first start old new
stopped v old new first start bytes behind image only_now until (inl same) = inl (record { until = until; unsynced = same })
stopped v old new first start bytes behind image only_now until (inr (counted, only)) =
    let closed = only (v.seen new) image in
    inr (new, begun_there start behind.few first behind.short v old new until counted closed (λ c now. only c now ∙ sym closed) only_now bytes behind.spelled)

pub returns-in_err-write_through-clause-any_moment : goal.returns-in_err-write_through-clause-any_moment
returns-in_err-write_through-clause-any_moment g c = λ first start behind.
    let new = c.write_through.new.disk in
    stopped g.D.Disk c.args.disk.now new first start c.args.bytes.now behind (g.met.D.Disk.reads_an_image new) (g.met.D.Disk.only_now new) c.write_through.ensures.any_moment c.write_through.ensures.effect

-- what is after the closed gate is written, and the gate is opened
pub returns-clause-any_moment : goal.returns-clause-any_moment
returns-clause-any_moment g c = λ first start behind.
    inr (
      c.write_through.new.disk,
      begun start behind.few first behind.short g.D.Disk c.args.disk.now c.write_through.new.disk c.write_through.ensures.any_moment c.in_ok-write_through.ensures.synced c.in_ok-write_through.ensures.written c.in_ok-write_through.ensures.durable c.write_and_commit.new.disk c.args.bytes.now behind.spelled c.write_and_commit.ensures.any_moment,
    )

pub returns-clause-begun : goal.returns-clause-begun
returns-clause-begun g c =
    on_success _ _ c.write_and_commit.result (λ durable first start behind. (
      c.write_through.new.disk,
      begun start behind.few first behind.short g.D.Disk c.args.disk.now c.write_through.new.disk c.write_through.ensures.any_moment c.in_ok-write_through.ensures.synced c.in_ok-write_through.ensures.written c.in_ok-write_through.ensures.durable c.write_and_commit.new.disk c.args.bytes.now behind.spelled c.write_and_commit.ensures.any_moment,
    )) c.write_and_commit.ensures.durable

pub returns-clause-written : goal.returns-clause-written
returns-clause-written g c =
    on_success _ _ c.write_and_commit.result (opened_over (g.D.Disk.seen c.args.disk.now) (g.D.Disk.seen c.write_through.new.disk) c.args.bytes.now (g.D.Disk.seen c.write_and_commit.new.disk) c.in_ok-write_through.ensures.written) c.write_and_commit.ensures.written
