use Rattle.std.proofs.Common.{rules, ◌≡◌, ap, ◌∙◌, Some, None}
use Rattle.std.specs.List.{slice_get}
use Rattle.std.specs.Map.{values_of}
use Rattle.rel_list.proofs.Lookups.{changed-more, changed-all}
use Rattle.rel_list.proofs.change.StatusChange.change.Goals.{in-Some, in_default}
use Rattle.rel_list.proofs.change.StatusChange.change.Goals as goal

pub loop-i-preserved : goal.loop-i-preserved
loop-i-preserved c =
    elim c.match-get_index_mut.branch [
      | in-Some w ↦
          let at : slice_get (values_of c.loop-i.releases.entries) c.loop-i.i ≡ Some w.in-Some.listed.now = search rules in
          ap (λ m. m.entries) w.releases-is
          ∙ changed-more c.args.self c.loop-i.i c.args.releases.now.entries c.loop-i.releases.entries w.in-Some.listed.now _ c.loop-i.invariant at w.status_after-listed.ensures
      | in_default w ↦
          let past : slice_get (values_of c.loop-i.releases.entries) c.loop-i.i ≡ None = search rules in
          ap (λ m. m.entries) w.releases-is ∙ changed-all c.args.self c.loop-i.i c.args.releases.now.entries c.loop-i.releases.entries c.loop-i.invariant past
    ]
