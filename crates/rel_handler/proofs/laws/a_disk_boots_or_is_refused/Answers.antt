use Rattle.rel_handler.proofs.BadRecords.{image_or_refused, stands_for_one, no_image_refused}
use Rattle.rel_handler.proofs.laws.a_disk_boots_or_is_refused.Goals as goal

pub returns-clause-either : goal.returns-clause-either
returns-clause-either c = image_or_refused

pub returns-clause-one : goal.returns-clause-one
returns-clause-one c = stands_for_one

pub returns-clause-never_both : goal.returns-clause-never_both
returns-clause-never_both c = no_image_refused
