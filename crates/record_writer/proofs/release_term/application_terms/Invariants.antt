use Rattle.std.proofs.Common.{◌≡◌, map, take}
use Rattle.erl_term.specs.Value.{value_of}
use Rattle.rel_files.specs.Release.{application_of}
use Rattle.rel_records.specs.ReleaseTerm.{application_term}
use Rattle.record_writer.proofs.release_term.application_terms.Given as goal

-- the terms of the applications so far
abbrev pub invariant-loop-app : goal.invariant-loop-app
invariant-loop-app l = map value_of l.terms.items ≡ map (λ a. application_term (application_of a)) (take l.app-index l.apps)
