use Rattle.loaded_modules.proofs.NamedLemmas.{found_as_listed}
use Rattle.loaded_modules.proofs.laws.what_is_loaded_is_listed.Goals as goal

pub returns : goal.returns
returns c = found_as_listed
