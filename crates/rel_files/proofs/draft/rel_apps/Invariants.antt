use Rattle.std.proofs.Common.{◌≡◌, ◌++◌, map}
use Rattle.std.specs.Option.{option_map}
use Rattle.std.specs.Vec.Iter.{into_iter_items}
use Rattle.rel_files.specs.Release.{application_of}
use Rattle.rel_files.specs.Sketch.{apps_in}
use Rattle.rel_files.specs.Sketched.{app_sketch_of}
use Rattle.rel_files.proofs.draft.rel_apps.Given as goal

abbrev pub invariant-loop-draft : goal.invariant-loop-draft
invariant-loop-draft l =
    option_map (λ as'. map application_of l.apps.items ++ as') (apps_in (map app_sketch_of (into_iter_items l.draft-iterator))) ≡ apps_in (map app_sketch_of l.fn.drafts.items)
