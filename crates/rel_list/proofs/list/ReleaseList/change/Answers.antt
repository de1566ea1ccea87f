use Rattle.std.proofs.Common.{◌∙◌, ap, sym, subst}
use Rattle.rel_list.specs.Event.{with_statuses}
use Rattle.rel_list.specs.Change.{status_after, MayBeMade}
use Rattle.rel_list.specs.Keyed.{entries_in, IsKept}
use Rattle.rel_list.proofs.Lookups.{entries_in-changed}
use Rattle.rel_list.proofs.Kept.{kept-changed}
use Rattle.rel_list.proofs.list.ReleaseList.change.Goals as goal

pub returns : goal.returns
returns c =
    ap entries_in c.change.ensures
    ∙ entries_in-changed c.args.change c.self.inside.releases.entries
    ∙ ap (with_statuses (status_after c.args.change)) c.self.view_is

pub invariant_of-self : goal.invariant_of-self
invariant_of-self c = subst IsKept (sym c.change.ensures) (kept-changed c.args.change c.self.inside.releases.entries may c.self.invariant)
  where
    may : MayBeMade c.args.change (entries_in c.self.inside.releases.entries)
    may = subst (λ es. MayBeMade c.args.change es) (sym c.self.view_is) c.requires
