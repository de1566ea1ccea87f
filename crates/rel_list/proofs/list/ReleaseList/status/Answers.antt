use Rattle.std.proofs.Common.{rules, ◌≡◌, ◌∙◌, sym, ap}
use Rattle.std.specs.Option.{option_map, option_copied}
use Rattle.rel_list.specs.declared.listed.ListedRelease.{ListedRelease}
use Rattle.rel_list.specs.Releases.{status_of}
use Rattle.rel_list.proofs.Lookups.{status_of-entries_in}
use Rattle.rel_list.proofs.list.ReleaseList.status.Goals as goal

pub returns : goal.returns
returns c =
    let mapped : c.map.result ≡ option_map (λ (l : ListedRelease). l.status) (option_copied c.get.result) = search rules in
    mapped
    ∙ ap (option_map (λ (l : ListedRelease). l.status)) c.get.ensures.value
    ∙ sym (status_of-entries_in _ _ c.self.invariant.keyed)
    ∙ ap (status_of c.args.vsn.now) c.self.view_is
