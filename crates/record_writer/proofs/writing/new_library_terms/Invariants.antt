use Rattle.std.proofs.Common.{◌≡◌, map, take}
use Rattle.erl_term.specs.Value.{value_of}
use Rattle.library.specs.InMemory.{shared_of}
use Rattle.library.specs.Library.{library_term}
use Rattle.rel_records.specs.Writing.{new_libraries}
use Rattle.record_writer.proofs.writing.new_library_terms.Given as goal

-- the new ones among the libraries so far
abbrev pub invariant-loop-library : goal.invariant-loop-library
invariant-loop-library l = map value_of l.terms.items ≡ map library_term (new_libraries l.list (map shared_of (take l.library-index l.libraries)))
