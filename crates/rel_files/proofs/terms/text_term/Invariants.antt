use Rattle.std.proofs.Common.{◌≡◌, map, take, pos}
use Rattle.erl_term.specs.Value.{value_of}
use Rattle.erl_term.specs.Value.Value.{int}
use Rattle.rel_files.proofs.terms.text_term.Given as goal

abbrev pub invariant-loop-byte : goal.invariant-loop-byte
invariant-loop-byte l = map value_of l.items.items ≡ map int (map pos (take l.byte-index l.bytes))
