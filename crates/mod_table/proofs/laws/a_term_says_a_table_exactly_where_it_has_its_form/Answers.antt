use Rattle.mod_table.proofs.FormLemmas.{from_table, table_in-form}
use Rattle.mod_table.proofs.laws.a_term_says_a_table_exactly_where_it_has_its_form.Goals as goal

pub returns : goal.returns
returns c = record { only = from_table; each = table_in-form }
