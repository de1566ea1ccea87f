use Rattle.std.proofs.Common.{ℕ, List, ◌++◌, ap, ◌∙◌, arith, vec_capacity}
use Rattle.rel_disk.proofs.LogEntries.{keeps_none, restart_fits}
use Rattle.rel_disk.proofs.log.Log.restart.Goals as goal

pub append-requires : goal.append-requires
append-requires c =
    omega (arith, restart_fits c.self.inside.bytes.items c.args.first.now c.self.inside.start c.self.inside.synced c.self.inside.room (vec_capacity c.self.inside.bytes) c.args.self.now c.self.view_is c.self.invariant c.requires)

pub invariant_of-self : goal.invariant_of-self
invariant_of-self c =
    keeps_none c.args.first.now c.append.new.v.items c.self.inside.room (vec_capacity c.append.new.v)
    (c.append.ensures.items ∙ ap (λ (l : List ℕ). l ++ c.args.first.now) c.clear.ensures.items)
    (omega (arith, restart_fits c.self.inside.bytes.items c.args.first.now c.self.inside.start c.self.inside.synced c.self.inside.room (vec_capacity c.self.inside.bytes) c.args.self.now c.self.view_is c.self.invariant c.requires))
