use Rattle.loaded_modules.specs.Loaded.{listed_in}
use Rattle.relup_instruction.specs.Instruction.{script_of}
use Rattle.node_upgrade.specs.Stale.{names_in, names_loaded}
use Rattle.node_upgrade.proofs.StaleLemmas.{all_noted, if_ok}
use Rattle.node_upgrade.proofs.stale.names_concerned.Goals as goal

pub returns : goal.returns
returns c =
    if_ok _ _ c.names_of.result c.names_of.ensures
    (λ names are.
    all_noted (names_in (listed_in c.args.loaded.now)) (names_in (listed_in c.args.target.now)) (names_loaded (script_of c.args.script.now)) c.new-noted.result c.note_modules.new.noted c.note_modules-2.new.noted c.note_loads.new.noted
    names.items c.new-noted.ensures.empty c.in_ok-note_modules.ensures c.in_ok-note_modules-2.ensures c.in_ok-note_loads.ensures are)
