use Rattle.relup_file.proofs.outline.outer_in.Goals as goal

pub returns : goal.returns
returns c = rw (← c.in-Some.ensures, ← rw c.in-Some-2.is at c.in_ok-vsn.ensures, ← c.in-Some-list_in.ensures, ← c.in-Some-list_in-2.ensures)
