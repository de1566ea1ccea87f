use Rattle.std.proofs.Common.{[]}
use Rattle.proc_table.proofs.table.ProcTable.look.Given as goal

abbrev pub ghosts-give : goal.ghosts-give
ghosts-give a = record { added = [] }
