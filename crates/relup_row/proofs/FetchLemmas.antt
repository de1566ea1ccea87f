-- The fetches of a script, one after another.
use Rattle.std.proofs.Common.{List, map}
use Rattle.relup_instruction.specs.Instruction.{Instruction}
use Rattle.relup_instruction.specs.Instruction.Instruction.{load_object_code}
use Rattle.relup_row.specs.Fetches.{MentionForm, fetch}

-- the fetches of these modules, from the applications of some mentions
abbrev pub fetches_of : List MentionForm → List MentionForm → List Instruction
fetches_of modules ms = map load_object_code (map (λ (m : MentionForm). fetch modules m.app) ms)
