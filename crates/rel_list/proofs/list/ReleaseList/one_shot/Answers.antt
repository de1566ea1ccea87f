use Rattle.std.proofs.Common.{rules, ◌≡◌, ◌∙◌, sym, ap}
use Rattle.std.specs.Option.{option_map, option_copied}
use Rattle.rel_files.specs.Release.{release_of}
use Rattle.rel_list.specs.declared.listed.ListedRelease.{ListedRelease}
use Rattle.rel_list.specs.Releases.{one_shot}
use Rattle.rel_list.specs.Status.{is_one_shot}
use Rattle.rel_list.proofs.Lookups.{first_release}
use Rattle.rel_list.proofs.list.ReleaseList.one_shot.Goals as goal

pub returns : goal.returns
returns c =
    let mapped : option_map release_of (option_copied c.map.result) ≡ option_map (λ (l : ListedRelease). release_of l.release) (option_copied c.first_one_shot.result) = search rules in
    mapped
    ∙ ap (option_map (λ (l : ListedRelease). release_of l.release)) c.first_one_shot.ensures
    ∙ sym (first_release is_one_shot c.releases.result.now)
    ∙ ap one_shot c.releases.ensures.entries
