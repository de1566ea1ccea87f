-- When two names are those of one process.
use Rattle.std.specs.Prelude.{◌≡◌}
use Rattle.proc_table.specs.declared.pid.Pid.{Pid}

abbrev pub IsProcess : Pid → Pid → Type 0
IsProcess pid other = (other.slot ≡ pid.slot) × (other.round ≡ pid.round)
