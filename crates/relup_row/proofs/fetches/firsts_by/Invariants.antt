use Rattle.relup_row.proofs.FirstLemmas.{KeepsFirsts}
use Rattle.relup_row.proofs.fetches.firsts_by.Given as goal

abbrev pub invariant-loop-mention : goal.invariant-loop-mention
invariant-loop-mention g l = KeepsFirsts g.N.MentionName.name l.mentions l.mention-index l.seen l.firsts.items
