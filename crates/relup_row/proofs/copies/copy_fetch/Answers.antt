use Rattle.relup_row.proofs.copies.copy_fetch.Goals as goal

pub returns : goal.returns
returns c = λ j. record { app = c.in_ok-clone.ensures.cases j; vsn = c.in_ok-clone-2.ensures.cases j; modules = c.in_ok-copy_names.ensures j }
