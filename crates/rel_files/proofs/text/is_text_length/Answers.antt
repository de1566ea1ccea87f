use Rattle.std.proofs.Common.{arith}
use Rattle.std.proofs.lemmas.Grind.{common_steps}
use Rattle.rel_files.proofs.Members.{count-members_of}
use Rattle.rel_files.proofs.text.is_text_length.Goals as goal

pub returns-then-items-ge1 : goal.returns-then-items-ge1
returns-then-items-ge1 c = let counted = count-members_of c.args.items.now in grind (arith, common_steps, counted)
