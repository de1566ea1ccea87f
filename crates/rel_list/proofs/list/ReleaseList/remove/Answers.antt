use Rattle.std.proofs.Common.{◌∙◌, ap, sym, subst}
use Rattle.rel_list.specs.Event.{without}
use Rattle.rel_list.specs.Keyed.{entries_in, IsKept}
use Rattle.rel_list.proofs.Lookups.{entries_in-removed}
use Rattle.rel_list.proofs.Kept.{kept-removed}
use Rattle.rel_list.proofs.list.ReleaseList.remove.Goals as goal

pub invariant_of-self : goal.invariant_of-self
invariant_of-self c = subst IsKept (sym c.shift_remove.ensures.entries) (kept-removed c.args.vsn.now c.self.inside.releases.entries c.self.invariant)

pub returns : goal.returns
returns c =
    ap entries_in c.shift_remove.ensures.entries
    ∙ entries_in-removed c.args.vsn.now c.self.inside.releases.entries c.self.invariant.keyed
    ∙ ap (without c.args.vsn.now) c.self.view_is
