use Rattle.std.proofs.Common.{◌-◌, length, vec_len, sym, ap, ◌∙◌, arith}
use Rattle.std.specs.List.{slice_get}
use Rattle.started_members.proofs.ChangeLemmas.{takes_last}
use Rattle.started_members.proofs.changes.next_deeper.Goals as goal

pub returns-clause-taken : goal.returns-clause-taken
returns-clause-taken c =
    takes_last c.args.depth (vec_len c.args.branches.now) c.args.branches.now.items c.pop.new.self.items c.pop.result c.in_ok-last.field-0.now
    (sym c.deref.ensures.len ∙ ap length c.deref.ensures.value) (sym (c.in_ok-last.ensures.value ∙ ap (λ bs. slice_get bs (length bs - 1)) c.deref.ensures.value))
    (c.pop.ensures.value c.in_ok-last.field-0.now) c.pop.ensures.items (omega (arith, c.if-branch-depth.false))
