use Rattle.relup_instruction.proofs.payloads.call_in.Goals as goal

pub returns : goal.returns
returns c =
    rw (← c.in-Some.ensures, ← c.in-Some-name_in.ensures, ← c.in-Some-word_in.ensures, ← c.in-Some-list_in.ensures, c.in_ok-from_str.ensures.ok, c.in_ok-from_str-2.ensures.ok, c.in_ok-copy_terms.ensures)
