use Rattle.appup_plain.proofs.copies.copy_load.Goals as goal

pub returns : goal.returns
returns c = let load = c.args.load.now in λ j. record { name = c.in_ok-clone.ensures.cases j; pre = load.pre; post = load.post; dep_mods = c.in_ok-copy_names.ensures j }
