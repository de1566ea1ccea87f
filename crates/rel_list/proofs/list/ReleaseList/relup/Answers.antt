use Rattle.std.proofs.Common.{◌∙◌, Option, sym, ap}
use Rattle.std.specs.Option.{option_and_then, option_map}
use Rattle.relup_file.specs.Relup.{RelupForm, relup_of}
use Rattle.rel_list.specs.declared.listed.ListedRelease.{ListedRelease}
use Rattle.rel_list.specs.Releases.{relup_at}
use Rattle.rel_list.proofs.Lookups.{relup_at-entries_in}
use Rattle.rel_list.proofs.list.ReleaseList.relup.Goals as goal

-- the relup of what the map finds
abbrev relup_in : Option ListedRelease → Option RelupForm
relup_in o = option_and_then (λ (l : ListedRelease). option_map relup_of l.relup) o

pub returns-in-Some : goal.returns-in-Some
returns-in-Some c =
    ap (option_map relup_of) c.as_ref.ensures.value
    ∙ ap relup_in c.in-Some.ensures.value
    ∙ sym (relup_at-entries_in _ _ c.self.invariant.keyed)
    ∙ ap (relup_at c.args.vsn.now) c.self.view_is

pub returns-in-None : goal.returns-in-None
returns-in-None c =
    ap relup_in c.in-None.ensures.value
    ∙ sym (relup_at-entries_in _ _ c.self.invariant.keyed)
    ∙ ap (relup_at c.args.vsn.now) c.self.view_is
