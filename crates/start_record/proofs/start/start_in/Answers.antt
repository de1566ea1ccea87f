use Rattle.std.proofs.Common.{refl}
use Rattle.start_record.proofs.start.start_in.Goals as goal

pub returns-in_default-clause-refused : goal.returns-in_default-clause-refused
returns-in_default-clause-refused c = c.in_default.ensures.none refl
