use Rattle.appup_file.proofs.instruction.Update.with_timed.Goals as goal

pub returns-in-Some : goal.returns-in-Some
returns-in-Some c = rw (← c.in-Some.ensures) c.with_purges.ensures
