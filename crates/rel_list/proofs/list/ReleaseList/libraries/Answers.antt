use Rattle.std.proofs.Common.{◌∙◌, [], List, Option, map, sym, ap}
use Rattle.std.specs.Option.{option_map_or}
use Rattle.library.specs.InMemory.{shared_of}
use Rattle.library.specs.Library.{Library}
use Rattle.rel_list.specs.declared.listed.ListedRelease.{ListedRelease}
use Rattle.rel_list.specs.Releases.{libraries_at}
use Rattle.rel_list.proofs.Lookups.{libraries_at-entries_in}
use Rattle.rel_list.proofs.list.ReleaseList.libraries.Goals as goal

-- the libraries of what the map finds
abbrev libraries_in : Option ListedRelease → List Library
libraries_in o = option_map_or (λ (l : ListedRelease). map shared_of l.libraries.items) o []

pub returns-in-Some : goal.returns-in-Some
returns-in-Some c =
    ap (map shared_of) c.as_slice.ensures.value
    ∙ ap libraries_in c.in-Some.ensures.value
    ∙ sym (libraries_at-entries_in _ _ c.self.invariant.keyed)
    ∙ ap (libraries_at c.args.vsn.now) c.self.view_is

pub returns-in-None : goal.returns-in-None
returns-in-None c =
    ap libraries_in c.in-None.ensures.value
    ∙ sym (libraries_at-entries_in _ _ c.self.invariant.keyed)
    ∙ ap (libraries_at c.args.vsn.now) c.self.view_is
