use Rattle.std.proofs.Common.{◌≡◌, drop, length}
use Rattle.proc_table.specs.Agrees.{slots}
use Rattle.started_members.specs.Members.{Notes, processes_among}
use Rattle.started_members.proofs.finds.note_users.Given as goal

-- the members from here on are noted
abbrev pub invariant-loop-place : goal.invariant-loop-place
invariant-loop-place l = (length l.used ≡ slots) × Notes l.«module» (processes_among (drop l.place l.members)) l.initial.used l.used
