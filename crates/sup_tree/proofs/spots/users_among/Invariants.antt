use Rattle.std.proofs.Common.{◌≡◌, map, drop, length}
use Rattle.proc_table.specs.Agrees.{slots}
use Rattle.sup_tree.specs.Tree.{NotesUsers, app_of}
use Rattle.sup_tree.proofs.spots.users_among.Given as goal

-- the applications from here on are noted
abbrev pub invariant-loop-place : goal.invariant-loop-place
invariant-loop-place l = (length l.used ≡ slots) × NotesUsers l.«module» (map app_of (drop l.place l.apps)) l.used
