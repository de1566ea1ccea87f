use Rattle.std.proofs.Common.{◌≡◌, ◌++◌, map, drop}
use Rattle.std.specs.Option.{option_map}
use Rattle.erl_term.specs.Value.{members_of}
use Rattle.rel_files.specs.Sketch.{app_sketches_in}
use Rattle.rel_files.specs.Sketched.{app_sketch_of}
use Rattle.rel_files.proofs.draft.app_drafts.Given as goal

abbrev pub invariant-loop-term : goal.invariant-loop-term
invariant-loop-term l =
    option_map (λ as'. map app_sketch_of l.apps.items ++ as') (app_sketches_in (members_of (drop l.term-index l.terms))) ≡ app_sketches_in (members_of l.terms)
