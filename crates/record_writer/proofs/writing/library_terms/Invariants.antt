use Rattle.std.proofs.Common.{◌≡◌, map, take}
use Rattle.erl_term.specs.Value.{value_of}
use Rattle.library.specs.InMemory.{shared_of}
use Rattle.library.specs.Library.{library_term}
use Rattle.record_writer.proofs.writing.library_terms.Given as goal

-- the terms of the libraries so far
abbrev pub invariant-loop-library : goal.invariant-loop-library
invariant-loop-library l = map value_of l.terms.items ≡ map (λ x. library_term (shared_of x)) (take l.library-index l.libraries)
