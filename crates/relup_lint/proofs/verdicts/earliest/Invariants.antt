use Rattle.std.proofs.Common.{take}
use Rattle.std.specs.Option.{option_map}
use Rattle.relup_lint.specs.Findings.{IsReported}
use Rattle.relup_lint.specs.Memory.{all_findings, finding_of}
use Rattle.relup_lint.proofs.verdicts.earliest.Given as goal

abbrev pub invariant-loop-finding : goal.invariant-loop-finding
invariant-loop-finding l = IsReported (all_findings (take l.finding-index l.found)) (option_map finding_of l.earliest)
