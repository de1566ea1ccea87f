use Rattle.session_laws.proofs.EachAnswer.{each_has_an_answer}
use Rattle.session_laws.proofs.OneAnswer.{have_one_answer}
use Rattle.session_laws.proofs.OneText.{have_one_text}
use Rattle.session_laws.proofs.answers.an_input_has_one_answer.Goals as goal

pub returns-clause-one : goal.returns-clause-one
returns-clause-one g c = λ files. have_one_answer c.a_disk_stands_for_one_list.ensures (g.F.Files.gives files)

pub returns-clause-written : goal.returns-clause-written
returns-clause-written g c = λ files. have_one_text c.a_disk_stands_for_one_list.ensures g.D.Disk (g.F.Files.gives files)

pub returns-clause-some : goal.returns-clause-some
returns-clause-some g c = λ files. each_has_an_answer c.a_disk_stands_for_one_list.ensures (g.F.Files.gives files)
