use Rattle.appup_file.proofs.TermLemmas.{says_its_term}
use Rattle.appup_file.proofs.laws.a_term_says_an_appup_exactly_where_it_has_its_form.Goals as goal

pub returns : goal.returns
returns c = says_its_term
