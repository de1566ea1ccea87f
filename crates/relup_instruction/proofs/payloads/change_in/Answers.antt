use Rattle.relup_instruction.proofs.payloads.change_in.Goals as goal

pub returns : goal.returns
returns c = rw (← c.in-Some.ensures, ← c.in-Some-name_in.ensures, c.in_ok-from_str.ensures.ok, c.in_ok-clone.ensures.cases)
