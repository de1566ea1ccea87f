use Rattle.std.proofs.Common.{◌≡◌, map, take}
use Rattle.rel_records.specs.Lists.{own_status}
use Rattle.rel_records.specs.Parts.{assignment_read, imaged_read}
use Rattle.rel_records.proofs.restoration.own_statuses.Given as goal

-- the statuses of the releases so far
abbrev pub invariant-loop-imaged : goal.invariant-loop-imaged
invariant-loop-imaged l = map assignment_read l.statuses.items ≡ map (λ x. own_status (imaged_read x)) (take l.imaged-index l.releases)
