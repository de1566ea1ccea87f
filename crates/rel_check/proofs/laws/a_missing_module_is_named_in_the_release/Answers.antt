use Rattle.rel_check.proofs.MissingLemmas.{missing_named}
use Rattle.rel_check.proofs.laws.a_missing_module_is_named_in_the_release.Goals as goal

pub returns : goal.returns
returns c = missing_named
