-- Operations on processes that take no memory and don't fail.
use Rattle.std.specs.Prelude.{ℕ, List}
use Rattle.held_processes.specs.Course as course
use Rattle.held_processes.specs.Course.{Operation}
use Rattle.relup_instruction.specs.Instruction.{Instruction}
use Rattle.relup_instruction.specs.Instruction.Instruction.{resume, stop, start}
use Rattle.relup_exec.specs.declared.release.Plain.{Plain}
use Rattle.relup_exec.specs.declared.release.Plain.TheVariants.{Resume, Stop, Start}

abbrev pub plain_operation : Plain → Operation
plain_operation Resume = course.Operation.resume
plain_operation Stop = course.Operation.stop
plain_operation Start = course.Operation.start

-- the instruction that does it to the processes of these modules
abbrev pub plain_instruction : Plain → List (List ℕ) → Instruction
plain_instruction Resume names = resume names
plain_instruction Stop names = stop names
plain_instruction Start names = start names
