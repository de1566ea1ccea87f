use Rattle.std.proofs.Common.{◌≡◌, ◌++◌, map, take, string_bytes}
use Rattle.std.specs.Fmt.{decimal}
use Rattle.erl_term.specs.Printing.{with_commas}
use Rattle.erl_term.proofs.printer.lists.print_bytes.Given as goal

abbrev pub invariant-loop-i : goal.invariant-loop-i
invariant-loop-i l = string_bytes l.out ≡ string_bytes l.initial.out ++ with_commas (map decimal (take l.i l.bytes))
