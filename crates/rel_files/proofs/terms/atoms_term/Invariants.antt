use Rattle.std.proofs.Common.{◌≡◌, map, take, string_bytes}
use Rattle.erl_term.specs.Value.{value_of}
use Rattle.erl_term.specs.Value.Value.{atom}
use Rattle.rel_files.proofs.terms.atoms_term.Given as goal

abbrev pub invariant-loop-name : goal.invariant-loop-name
invariant-loop-name l = map value_of l.items.items ≡ map atom (map string_bytes (take l.name-index l.names))
