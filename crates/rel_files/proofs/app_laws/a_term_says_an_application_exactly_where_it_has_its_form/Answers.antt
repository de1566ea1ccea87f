use Rattle.rel_files.proofs.AppFormLemmas.{from_app, app_in-form}
use Rattle.rel_files.proofs.app_laws.a_term_says_an_application_exactly_where_it_has_its_form.Goals as goal

pub returns : goal.returns
returns c = record { only = from_app; each = app_in-form }
