use Rattle.std.proofs.Common.{inr, refl}
use Rattle.rel_handler.specs.declared.error.BootError.TheVariants.{NotAStore}
use Rattle.session_laws.proofs.OneList.{list_decides_answers, list_decides_text}
use Rattle.session_laws.proofs.answers.a_list_decides_what_is_answered.Goals as goal

pub returns-clause-answered : goal.returns-clause-answered
returns-clause-answered g c = λ files. list_decides_answers c.a_disk_stands_for_one_list.ensures (g.F.Files.gives files)

pub returns-clause-written : goal.returns-clause-written
returns-clause-written g c = λ files. list_decides_text c.a_disk_stands_for_one_list.ensures g.D.Disk g.E.Disk (g.F.Files.gives files)

pub returns-clause-empty : goal.returns-clause-empty
returns-clause-empty g c = inr (NotAStore, NotAStore, refl, refl, refl, refl)
