use Rattle.std.proofs.Common.{map, take, string_bytes}
use Rattle.relup_row.specs.Modules.{IsSetOf}
use Rattle.relup_row.proofs.modules.ModuleNames.new.Given as goal

abbrev pub invariant-loop-name : goal.invariant-loop-name
invariant-loop-name l = IsSetOf l.sorted (map string_bytes (take l.name-index l.fn.names.items))
