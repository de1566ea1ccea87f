use Rattle.std.proofs.Common.{rules}
use Rattle.std.proofs.lemmas.Str.{chars_from_encodes}
use Rattle.record_writer.proofs.depth.count_characters.Goals as goal

pub returns : goal.returns
returns c = search (rules, chars_from_encodes)
