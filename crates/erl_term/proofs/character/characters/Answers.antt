use Rattle.std.proofs.Common.{rules}
use Rattle.erl_term.proofs.TextCharacters.{text_members}
use Rattle.erl_term.proofs.character.characters.Goals as goal

pub returns-in_ok-add_part-in-Part : goal.returns-in_ok-add_part-in-Part
returns-in_ok-add_part-in-Part c = search (rules, text_members)

pub returns-in_ok-add_pieces-in-Row : goal.returns-in_ok-add_pieces-in-Row
returns-in_ok-add_pieces-in-Row c = search (rules, text_members)
