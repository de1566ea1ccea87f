use Rattle.appup_file.proofs.instruction.Update.with_typed.Goals as goal

pub returns-in-Some : goal.returns-in-Some
returns-in-Some c = rw (← c.in-Some.ensures) c.with_timed.ensures
