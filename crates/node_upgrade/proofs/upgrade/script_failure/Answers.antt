use Rattle.std.proofs.Common.{Some, None, refl, sym, ap, ◌∙◌}
use Rattle.relup_file.specs.Search.{found_of}
use Rattle.relup_file.proofs.ScriptLemmas.{is_fault, is_runnable}
use Rattle.node_upgrade.proofs.UpgradeLemmas.{reported_wrong}
use Rattle.node_upgrade.proofs.upgrade.script_failure.Goals as goal

pub returns-in-Ok : goal.returns-in-Ok
returns-in-Ok c =
    let f = found_of c.args.found.now in
    reported_wrong c.args.vsn.now c.args.list.now f None (sym c.changes_emulator.ensures ∙ c.if-changes_emulator.false) (is_runnable f.script (c.in-Ok.ensures.runnable.0 refl))

pub returns-in-Err : goal.returns-in-Err
returns-in-Err c =
    let f = found_of c.args.found.now in
    let fault = c.in-Err.fault in
    ap (λ x. Some x) c.of_fault.ensures
    ∙ reported_wrong c.args.vsn.now c.args.list.now f (Some fault) (sym c.changes_emulator.ensures ∙ c.if-changes_emulator.false) (is_fault f.script fault ((c.in-Err.ensures.fault fault).0 refl))
