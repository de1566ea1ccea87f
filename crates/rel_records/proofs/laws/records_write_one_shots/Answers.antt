use Rattle.rel_records.proofs.FormatLemmas.{images_write_them, only_restarts_write_them}
use Rattle.rel_records.proofs.laws.records_write_one_shots.Goals as goal

pub returns-clause-events : goal.returns-clause-events
returns-clause-events c = only_restarts_write_them

pub returns-clause-images : goal.returns-clause-images
returns-clause-images c = images_write_them
