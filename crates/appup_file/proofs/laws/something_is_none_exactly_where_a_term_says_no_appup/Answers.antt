use Rattle.appup_file.proofs.ShapeLemmas.{has_its_place}
use Rattle.appup_file.proofs.laws.something_is_none_exactly_where_a_term_says_no_appup.Goals as goal

pub returns : goal.returns
returns c = has_its_place
