use Rattle.relup_file.proofs.entries.entry_in.Goals as goal

pub returns : goal.returns
returns c = rw (← c.in-Some.ensures, ← rw c.in-Some-2.is at c.in_ok-vsn.ensures, ← c.in-Some-list_in.ensures, ← rw c.in-Some-3.is at c.in_ok-script.ensures, c.in_ok-clone.ensures.cases)
