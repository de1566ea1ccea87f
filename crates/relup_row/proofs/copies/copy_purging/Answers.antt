use Rattle.relup_row.proofs.copies.copy_purging.Goals as goal

pub returns : goal.returns
returns c = λ j. record { name = c.in_ok-clone.ensures.cases j; pre = c.args.purging.now.pre; post = c.args.purging.now.post }
