use Rattle.relup_instruction.proofs.InstructionLemmas.{from_script, script_in-terms}
use Rattle.relup_instruction.proofs.laws.a_script_is_read_of_its_terms_alone.Goals as goal

pub returns : goal.returns
returns c = record { only = from_script; each = script_in-terms }
