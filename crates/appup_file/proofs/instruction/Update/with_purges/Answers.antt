use Rattle.appup_file.proofs.instruction.Update.with_purges.Goals as goal

pub returns-in-Some-with_post : goal.returns-in-Some-with_post
returns-in-Some-with_post c = rw (← c.in-Some.ensures, ← c.in-Some-with_post.ensures) c.with_ending.ensures
