use Rattle.std.proofs.Common.{◌≡◌, map, take, string_bytes}
use Rattle.std.specs.List.{flat_map}
use Rattle.std.specs.Map.Iter.{deref_pair}
use Rattle.node_processes.proofs.ModuleLemmas.{line_of}
use Rattle.node_processes.proofs.processes.Processes.list_modules.Given as goal

abbrev pub invariant-loop-module : goal.invariant-loop-module
invariant-loop-module l = string_bytes l.text ≡ flat_map line_of (map deref_pair (take l.module-index l.module-items))
