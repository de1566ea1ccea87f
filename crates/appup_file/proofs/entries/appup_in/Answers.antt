use Rattle.appup_file.proofs.entries.appup_in.Goals as goal

pub returns : goal.returns
returns c = rw (← rw c.in-Some.is at c.in_ok-outline.ensures, ← rw c.in-Some-2.is at c.in_ok-ups.ensures, ← rw c.in-Some-3.is at c.in_ok-downs.ensures)
