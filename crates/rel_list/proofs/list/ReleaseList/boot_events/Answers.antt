use Rattle.std.proofs.Common.{rules, ◌≡◌, ◌∙◌, ap, find, string_bytes}
use Rattle.std.specs.Map.{values_of}
use Rattle.std.specs.Option.{option_map, option_copied, option_to_list}
use Rattle.rel_list.specs.declared.listed.ListedRelease.{ListedRelease}
use Rattle.rel_list.specs.Status.{is_temporary}
use Rattle.rel_list.specs.Event.{boot_changes}
use Rattle.rel_list.specs.Keyed.{entries_in}
use Rattle.rel_list.proofs.Lookups.{first_version}
use Rattle.rel_list.proofs.BootLaws.{boot_changes-first}
use Rattle.rel_list.proofs.list.ReleaseList.boot_events.Goals as goal

pub returns : goal.returns
returns c =
    let mapped : option_map (λ v. v.now) c.map.result
    ≡ option_map (λ (l : ListedRelease). string_bytes l.release.vsn) (option_copied c.first_temporary.result) = search rules in
    let at : option_copied c.first_temporary.result ≡ find (λ (l : ListedRelease). is_temporary l.status) (values_of c.self.inside.releases.entries) = search rules in
    ap option_to_list (mapped ∙ ap (option_map (λ (l : ListedRelease). string_bytes l.release.vsn)) at ∙ first_version is_temporary (values_of c.self.inside.releases.entries))
    ∙ boot_changes-first (entries_in c.self.inside.releases.entries) c.self.invariant.orderly.one_temporary
    ∙ ap boot_changes c.self.view_is
