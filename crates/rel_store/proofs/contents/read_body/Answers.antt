use Rattle.std.proofs.Common.{◌≡◌, ℕ, ◌+◌, ◌-◌, ◌≤◌, List, ◌++◌, length, length-drop, take, drop, sym, ◌∙◌, ap, arith}
use Rattle.std.specs.Prelude.{slice_range}
use Rattle.std.proofs.lemmas.List.{length-take-le, take_at}
use Rattle.rel_store.proofs.Exits.{no_value}
use Rattle.rel_store.proofs.OnlyReads.{nothing_read, read_first}
use Rattle.rel_store.proofs.contents.read_body.Goals as goal

pub returns-in_err-body-clause-reads : goal.returns-in_err-body-clause-reads
returns-in_err-body-clause-reads g c = nothing_read g.D.Disk.seen g.D.Disk.may_leave g.D.Disk.moment g.D.Disk.left_since c.args.disk.now (g.met.D.Disk.only_now c.args.disk.now)

pub returns-in_err-read-clause-reads : goal.returns-in_err-read-clause-reads
returns-in_err-read-clause-reads g c = read_first g.D.Disk.seen g.D.Disk.may_leave g.D.Disk.moment g.D.Disk.left_since c.args.disk.now (g.met.D.Disk.only_now c.args.disk.now) c.read.new.self c.read.ensures.same c.read.ensures.crash c.read.ensures.time

pub returns-clause-reads : goal.returns-clause-reads
returns-clause-reads g c = read_first g.D.Disk.seen g.D.Disk.may_leave g.D.Disk.moment g.D.Disk.left_since c.args.disk.now (g.met.D.Disk.only_now c.args.disk.now) c.read.new.self c.read.ensures.same c.read.ensures.crash c.read.ensures.time

-- after an error
pub returns-in_err-body-clause-ok : goal.returns-in_err-body-clause-ok
returns-in_err-body-clause-ok g c = no_value _ _ c.from_residual.ensures.0

pub returns-in_err-read-clause-ok : goal.returns-in_err-read-clause-ok
returns-in_err-read-clause-ok g c = no_value _ _ c.from_residual-in_err-read.ensures.0

-- a buffer that was filled from the disk is a part of it
what_is_read : (bytes buf rest : List ℕ) (at size len n : ℕ) → at + size ≤ length bytes → len ≡ size → n ≡ size → buf ≡ slice_range bytes at (at + n) → take len (buf ++ rest) ≡ take size (drop at bytes)
what_is_read bytes buf rest at size len n within long count read =
    let whole : at + n - at ≡ size = omega arith in
    let is : buf ≡ take size (drop at bytes) = read ∙ ap (λ k. take k (drop at bytes)) whole in
    let all : length buf ≡ len = ap length is ∙ length-take-le size (drop at bytes) (omega (arith, length-drop at bytes)) ∙ sym long in
    take_at buf rest len all ∙ is

pub returns-clause-ok : goal.returns-clause-ok
returns-clause-ok g c = what_is_read (g.D.Disk.seen c.args.disk.now) c.read.new.buf _ c.args.at c.args.size _ _ c.requires c.in_ok-body.ensures.len (c.deref_mut.ensures.len ∙ c.in_ok-body.ensures.len) c.in_ok-read.ensures.bytes
