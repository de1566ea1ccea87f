use Rattle.std.proofs.Common.{ap}
use Rattle.rel_disk.specs.Calls.{content}
use Rattle.store_report.proofs.report.report_of.Goals as goal

pub report_on-requires-clause-seen : goal.report_on-requires-clause-seen
report_on-requires-clause-seen c = ap (λ d. content d.first d.calls) c.in_ok-disk.ensures
