use Rattle.appup_file.proofs.modules.purged_load.Goals as goal

pub returns : goal.returns
returns c = rw (← c.in-Some.ensures, ← c.in-Some-purge_mode_in.ensures, ← rw c.in-Some-2.is at c.in_ok-dep_mods.ensures, c.in_ok-from_str.ensures.ok)
