use Rattle.std.proofs.Common.{◌≡◌, drop}
use Rattle.started_members.specs.Members.{module_among, processes_among}
use Rattle.started_members.proofs.finds.module_among.Given as goal

abbrev pub invariant-loop-member : goal.invariant-loop-member
invariant-loop-member l = module_among l.slot (processes_among (drop l.member-index l.members)) ≡ module_among l.slot (processes_among l.members)
