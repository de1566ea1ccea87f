use Rattle.std.proofs.Common.{◌≡◌, map, take}
use Rattle.erl_term.specs.Value.{value_of}
use Rattle.rel_files.specs.Release.{application_of}
use Rattle.node_listing.specs.Listing.{application_value}
use Rattle.node_listing.proofs.release_listing.application_terms.Given as goal

abbrev pub invariant-loop-application : goal.invariant-loop-application
invariant-loop-application l =
    map value_of l.terms.items ≡ map (λ a. application_value (application_of a)) (take l.application-index l.applications)
