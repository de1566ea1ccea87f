use Rattle.std.proofs.Common.{◌≡◌, ℕ, ◌+◌, map, drop}
use Rattle.appup_file.specs.Instruction.{entry_of}
use Rattle.appup_match.specs.Match.{matching_from, ComesToFault}
use Rattle.appup_match.specs.declared.fault.PatternFault.{PatternFault}
use Rattle.appup_match.proofs.search.matching_in.Given as goal

abbrev pub invariant-loop-place : goal.invariant-loop-place
invariant-loop-place l =
    (matching_from l.place l.vsn (map entry_of (drop l.place l.entries)) ≡ matching_from 0 l.vsn (map entry_of l.entries))
    × ((f : PatternFault) (n : ℕ) → ComesToFault f l.vsn (map entry_of (drop l.place l.entries)) n
    → ComesToFault f l.vsn (map entry_of l.entries) (l.place + n))
