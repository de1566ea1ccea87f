-- Why a script isn't carried out to its end.
use Rattle.std.specs.Prelude.{ℕ, List, ◌++◌, codes, decimal}
use Rattle.relup_file.specs.declared.script_fault.ScriptFault.{ScriptFault}
use Rattle.relup_file.specs.declared.script_fault.ScriptFault.TheVariants.{NoPoint, TwoPoints, Misplaced, Unsupported}
use Rattle.relup_exec.specs.Fault.{Cause, cause_text}
use Rattle.relup_exec.specs.Fault.Cause.{unsupported}
use Rattle.relup_exec.specs.InMemory.{cause_of}
use Rattle.node_upgrade.specs.declared.error.ScriptFailure.{ScriptFailure}
use Rattle.node_upgrade.specs.declared.error.Why.{Why as WhyInMemory}
use Rattle.node_upgrade.specs.declared.error.Why.TheVariants as declared

pub data Why : Type 0 where
  new_emulator : Why
  no_point : Why
  two_points : Why
  misplaced : Why
  fails : Cause → Why

-- instr: the number of the instruction, 0 where none is at fault
pub record Failure : Type 0 where
  pub instr : ℕ
  pub why : Why

abbrev pub failure : ℕ → Why → Failure
failure n why = record { instr = n; why = why }

abbrev pub why_of : WhyInMemory → Why
why_of declared.NewEmulator = new_emulator
why_of declared.NoPoint = no_point
why_of declared.TwoPoints = two_points
why_of declared.Misplaced = misplaced
why_of (declared.Fails c) = fails (cause_of c)

abbrev pub failure_of : ScriptFailure → Failure
failure_of f = failure f.instr (why_of f.why)

-- what the check of a script reports
abbrev pub fault_failure : ScriptFault → Failure
fault_failure NoPoint = failure 0 no_point
fault_failure TwoPoints = failure 0 two_points
fault_failure (Misplaced n) = failure n misplaced
fault_failure (Unsupported n) = failure n (fails unsupported)

abbrev pub why_text : Why → List ℕ
why_text new_emulator = codes "NewEmulator"
why_text no_point = codes "NoPoint"
why_text two_points = codes "TwoPoints"
why_text misplaced = codes "Misplaced"
why_text (fails c) = cause_text c

-- the number of the instruction, and the cause
abbrev pub failure_text : Failure → List ℕ
failure_text f = decimal f.instr ++ (codes " " ++ why_text f.why)
