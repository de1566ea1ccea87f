use Rattle.std.proofs.Common.{◌≡◌, ℕ, List, drop}
use Rattle.relup_instruction.specs.Instruction.{script_of}
use Rattle.node_upgrade.specs.Stale.{names_loaded}
use Rattle.node_upgrade.proofs.StaleLemmas.{noted_with}
use Rattle.node_upgrade.proofs.stale.note_loads.Given as goal

-- the names that are noted, with what is left of the script
abbrev pub invariant-loop-instr : goal.invariant-loop-instr
invariant-loop-instr l =
    (q : List ℕ) → noted_with l.noted (names_loaded (script_of (drop l.instr-index l.script))) q ≡ noted_with l.fn.noted (names_loaded (script_of l.script)) q
