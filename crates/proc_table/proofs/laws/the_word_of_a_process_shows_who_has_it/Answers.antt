use Rattle.proc_table.proofs.WordLemmas.{words_report}
use Rattle.proc_table.proofs.laws.the_word_of_a_process_shows_who_has_it.Goals as goal

pub returns : goal.returns
returns c = words_report
