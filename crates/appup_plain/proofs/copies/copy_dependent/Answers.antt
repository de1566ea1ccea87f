use Rattle.appup_plain.proofs.copies.copy_dependent.Goals as goal

pub returns : goal.returns
returns c = λ j. record { name = c.in_ok-clone.ensures.cases j; dep_mods = c.in_ok-copy_names.ensures j }
