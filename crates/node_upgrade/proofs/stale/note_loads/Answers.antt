use Rattle.std.proofs.Common.{◌≡◌, ℕ, ◌+◌, List, drop, sym, ap, subst}
use Rattle.std.proofs.lemmas.Map.Text.{btree_map_updates_str}
use Rattle.relup_instruction.specs.Instruction.{instruction_of, purging_of, script_of}
use Rattle.node_upgrade.specs.Stale.{names_loaded}
use Rattle.node_upgrade.proofs.StaleLemmas.{load_noted, none_noted, noted_with}
use Rattle.node_upgrade.proofs.stale.note_loads.Goals as goal
use Rattle.node_upgrade.proofs.stale.note_loads.Goals.{in-Load+in_ok-insert, in_default}

pub loop-instr-preserved : goal.loop-instr-preserved
loop-instr-preserved c =
    let script = c.args.script.now in
    let i = c.loop-instr.instr-index in
    let total = noted_with c.args.noted.now (names_loaded (script_of script)) in
    elim c.match-instr.branch [
      | in-Load+in_ok-insert w ↦
          subst (λ n. (q : List ℕ) → noted_with n (names_loaded (script_of (drop (i + 1) script))) q ≡ total q) (sym w.noted-is)
          (load_noted script i c.instr-item.result c.loop-instr-test.true c.instr-item.is total (purging_of w.in-Load.purging) (ap instruction_of w.in-Load.is) w.as_str.result.now w.as_str.ensures.value c.loop-instr.noted w.insert.new.self
          (λ q. btree_map_updates_str _ c.loop-instr.noted w.insert.new.self _ w.in_ok-insert.ensures.updates q) c.loop-instr.invariant)
      | in_default w ↦
          subst (λ n. (q : List ℕ) → noted_with n (names_loaded (script_of (drop (i + 1) script))) q ≡ total q) (sym w.noted-is)
          (none_noted script i c.instr-item.result c.loop-instr-test.true c.instr-item.is total w.in_default.not-Load c.loop-instr.noted c.loop-instr.invariant)
    ]
