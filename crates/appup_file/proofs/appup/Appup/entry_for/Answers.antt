use Rattle.appup_file.proofs.appup.Appup.entry_for.Goals as goal

pub returns-in-Up : goal.returns-in-Up
returns-in-Up c = rw (c.in-Up.is, ← c.deref.ensures.value) c.entry_for.ensures

pub returns-in-Down : goal.returns-in-Down
returns-in-Down c = rw (c.in-Down.is, ← c.deref-in-Down.ensures.value) c.entry_for-in-Down.ensures
