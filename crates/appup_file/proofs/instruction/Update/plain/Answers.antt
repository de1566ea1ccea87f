use Rattle.appup_file.proofs.instruction.Update.plain.Goals as goal

pub returns : goal.returns
returns c = rw (c.in_ok-from_str.ensures.ok, c.new.ensures.items)
