use Rattle.relup_translate.proofs.relup.relup_between.Goals as goal

pub returns : goal.returns
returns c = λ j. record { vsn = c.in_ok-clone.ensures.cases j; ups = c.in_ok-entries.ensures j; downs = c.in_ok-entries-2.ensures j }
