use Rattle.std.proofs.Common.{rules, ◌≡◌, ◌∙◌, sym, ap}
use Rattle.std.specs.Option.{option_map, option_copied}
use Rattle.rel_files.specs.Release.{release_of}
use Rattle.rel_list.specs.declared.listed.ListedRelease.{ListedRelease}
use Rattle.rel_list.specs.Releases.{release_at}
use Rattle.rel_list.proofs.Lookups.{release_at-entries_in}
use Rattle.rel_list.proofs.list.ReleaseList.release.Goals as goal

pub returns : goal.returns
returns c =
    let mapped : option_map release_of (option_copied c.map.result) ≡ option_map (λ (l : ListedRelease). release_of l.release) (option_copied c.get.result) = search rules in
    mapped
    ∙ ap (option_map (λ (l : ListedRelease). release_of l.release)) c.get.ensures.value
    ∙ sym (release_at-entries_in _ _ c.self.invariant.keyed)
    ∙ ap (release_at c.args.vsn.now) c.self.view_is
