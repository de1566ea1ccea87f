-- The lines by which a command reports that memory was refused to its call.
use Rattle.std.proofs.Common.{◌≡◌, inl, inr, List, ℕ, Some, refl, subst}
use Rattle.rel_session.specs.Node.{DiskState}
use Rattle.rel_session.specs.Node.DiskState.{running}
use Rattle.rel_session.specs.Transition.{memory_line, memory_report, memory_report_at, relup_memory_line}
use Rattle.session_input.specs.Commands.{Command}
use Rattle.session_input.specs.Commands.Command.{create, set_unpacked, install, permanent, remove, reboot_old, start, relup}
use Rattle.session_laws.specs.AnswerLaws.{IsMemoryLine}
use Rattle.session_laws.proofs.AnswerLines.{IsWhole}

there : (P : List ℕ → Type 0) (a b : List ℕ) → Some a ≡ Some b → P a → P b
there P a b is has = let same : a ≡ b = cc in subst P same has

of_command : (P : List ℕ → Type 0) → P memory_line → (c : Command) (line : List ℕ) → memory_report c ≡ Some line → P line
of_command P has (set_unpacked path) line is = there P memory_line line is has
of_command P has (install vsn) line is = there P memory_line line is has
of_command P has (permanent vsn) line is = there P memory_line line is has
of_command P has (remove vsn) line is = there P memory_line line is has
of_command P has (reboot_old vsn) line is = there P memory_line line is has
of_command P has start line is = there P memory_line line is has
of_command P has c line is = absurd cc

-- what holds of both lines holds of that of a command
pub each_report : (P : List ℕ → Type 0) → P memory_line → P relup_memory_line → (p : DiskState) (c : Command) (line : List ℕ) → memory_report_at p c ≡ Some line → P line
each_report P has of_relup p (create path) line is = there P memory_line line is has
each_report P has of_relup p (relup new ups downs) line is = there P relup_memory_line line is of_relup
each_report P has of_relup (running events extent ps) c line is = of_command P has c line is
each_report P has of_relup p c line is = absurd cc

pub report_is : (p : DiskState) (c : Command) (line : List ℕ) → memory_report_at p c ≡ Some line → IsMemoryLine line
report_is = each_report IsMemoryLine (inl refl) (inr (inl refl))

pub report_whole : (p : DiskState) (c : Command) (line : List ℕ) → memory_report_at p c ≡ Some line → IsWhole line
report_whole = each_report IsWhole (λ behind. refl) (λ behind. refl)
