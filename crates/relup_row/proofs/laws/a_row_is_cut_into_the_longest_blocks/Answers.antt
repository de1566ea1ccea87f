use Rattle.relup_row.proofs.CutLemmas.{cuts_into_longest_blocks}
use Rattle.relup_row.proofs.laws.a_row_is_cut_into_the_longest_blocks.Goals as goal

pub returns : goal.returns
returns c = cuts_into_longest_blocks
