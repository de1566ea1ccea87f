use Rattle.std.proofs.Common.{◌≡◌, ◌++◌, map, take, string_bytes}
use Rattle.erl_term.specs.Value.{value_of, members_of, FitTerms}
use Rattle.erl_term.specs.Printing.{text_of, with_commas}
use Rattle.erl_term.proofs.printer.+printing.Given as goal

abbrev pub invariant-print_members-loop-i : goal.invariant-print_members-loop-i
invariant-print_members-loop-i l = record {
  printed : string_bytes l.out ≡ string_bytes l.initial.out ++ with_commas (map (λ t. text_of (value_of t)) (take l.i l.items));
  fit : FitTerms (members_of (take l.i l.items));
}
