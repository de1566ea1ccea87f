use Rattle.relup_instruction.proofs.InstructionLemmas.{from_instruction, instruction_in-term}
use Rattle.relup_instruction.proofs.laws.an_instruction_is_read_of_its_term_alone.Goals as goal

pub returns : goal.returns
returns c = record { only = from_instruction; each = instruction_in-term }
