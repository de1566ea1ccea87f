use Rattle.rel_store.proofs.Exits.{no_value}
use Rattle.rel_store.proofs.OnlyReads.{read_first, read_twice}
use Rattle.rel_store.proofs.creation.holds_a_store.Goals as goal

pub returns-in_err-len-clause-any_moment : goal.returns-in_err-len-clause-any_moment
returns-in_err-len-clause-any_moment g c = (read_first g.D.Disk.seen g.D.Disk.may_leave g.D.Disk.moment g.D.Disk.left_since c.args.disk.now (g.met.D.Disk.only_now c.args.disk.now) c.len.new.self c.len.ensures.same c.len.ensures.crash c.len.ensures.time).any_moment

pub returns-then-branch-clause-any_moment : goal.returns-then-branch-clause-any_moment
returns-then-branch-clause-any_moment g c = (read_first g.D.Disk.seen g.D.Disk.may_leave g.D.Disk.moment g.D.Disk.left_since c.args.disk.now (g.met.D.Disk.only_now c.args.disk.now) c.len.new.self c.len.ensures.same c.len.ensures.crash c.len.ensures.time).any_moment

pub returns-in_err-read-clause-crash : goal.returns-in_err-read-clause-crash
returns-in_err-read-clause-crash g c = λ d now. c.len.ensures.crash d (c.read.ensures.crash d now)

pub returns-in_err-read-clause-any_moment : goal.returns-in_err-read-clause-any_moment
returns-in_err-read-clause-any_moment g c = (read_twice g.D.Disk.seen g.D.Disk.may_leave g.D.Disk.moment g.D.Disk.left_since c.args.disk.now (g.met.D.Disk.only_now c.args.disk.now) c.len.new.self c.read.new.self c.len.ensures.same c.len.ensures.crash c.len.ensures.time c.read.ensures.same c.read.ensures.crash c.read.ensures.time).any_moment

pub returns-clause-crash : goal.returns-clause-crash
returns-clause-crash g c = λ d now. c.len.ensures.crash d (c.read.ensures.crash d now)

pub returns-clause-any_moment : goal.returns-clause-any_moment
returns-clause-any_moment g c = (read_twice g.D.Disk.seen g.D.Disk.may_leave g.D.Disk.moment g.D.Disk.left_since c.args.disk.now (g.met.D.Disk.only_now c.args.disk.now) c.len.new.self c.read.new.self c.len.ensures.same c.len.ensures.crash c.len.ensures.time c.read.ensures.same c.read.ensures.crash c.read.ensures.time).any_moment

-- after an error
pub returns-in_err-len-clause-value : goal.returns-in_err-len-clause-value
returns-in_err-len-clause-value g c = no_value _ _ c.from_residual.ensures.0

pub returns-in_err-read-clause-value : goal.returns-in_err-read-clause-value
returns-in_err-read-clause-value g c = no_value _ _ c.from_residual-in_err-read.ensures.0
