use Rattle.proc_table.proofs.AloneLemmas.{alone_made}
use Rattle.proc_table.proofs.table.ProcTable.call_alone.Goals as goal

pub returns-clause-alone : goal.returns-clause-alone
returns-clause-alone g c =
    (alone_made _ _ _ _ _ _ _ _ _ c.requires.alone c.new_pass-pass.ensures.made c.call-answer.ensures.answer c.take_back.ensures.joined).lent

pub returns-clause-answer : goal.returns-clause-answer
returns-clause-answer g c =
    (alone_made _ _ _ _ _ _ _ _ _ c.requires.alone c.new_pass-pass.ensures.made c.call-answer.ensures.answer c.take_back.ensures.joined).answer
