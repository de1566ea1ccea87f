use Rattle.std.proofs.Common.{◌∙◌, Option, refl, sym, ap}
use Rattle.std.specs.Option.{option_and_then}
use Rattle.mod_table.specs.declared.table.Table.{Table}
use Rattle.relup_instruction.specs.Instruction.{change_of}
use Rattle.loaded_modules.specs.Loaded.{Module, listed_in}
use Rattle.loaded_modules.proofs.NamedLemmas.{found_as_listed}
use Rattle.script_progress.specs.declared.cause.Cause.TheVariants.{NoMemory}
use Rattle.script_progress.specs.InMemory.{site_of}
use Rattle.script_progress.specs.Script.{supervisors_changed}
use Rattle.script_progress.specs.Steps.{progress_of}
use Rattle.script_progress.specs.Stops.{is_super}
use Rattle.relup_exec.proofs.StepLemmas.{fails_once, supervisors_not_changed, supervisors_well}
use Rattle.relup_exec.proofs.change.change_once.Goals as goal

pub returns-in_err-change_processes : goal.returns-in_err-change_processes
returns-in_err-change_processes c = λ past v done.
    fails_once (site_of c.args.sources.now) past c.args.mode c.args.number (change_of c.args.change.now) c.in_err-change_processes.field-0.0 c.from_residual.result
    (progress_of c.change_processes.new.progress) c.change_processes.new.progress.tree v (c.in_err-change_processes.ensures past v done) c.from_residual.ensures.1

pub returns-in-Ok : goal.returns-in-Ok
returns-in-Ok c = λ past v done.
    let first = c.change_processes.new.progress in
    let second = c.change_supervisors.new.progress in
    let name = c.as_str.result.now in
    let table = ap (option_and_then (λ (m : Module). m.table)) (found_as_listed first.next name) in
    supervisors_well (site_of c.args.sources.now) past c.args.mode c.args.number (change_of c.args.change.now) name (progress_of first) (progress_of second) first.tree second.tree v
    c.as_str.ensures.value (c.in_ok-change_processes.ensures past v done) c.change_supervisors.ensures.held (ap listed_in c.change_supervisors.ensures.fetched) (ap listed_in c.change_supervisors.ensures.next)
    (c.in-Ok.ensures.changed ∙ ap (λ (t : Option Table). supervisors_changed name t first.tree) table)

pub returns-in-Err : goal.returns-in-Err
returns-in-Err c = λ past v done.
    let first = c.change_processes.new.progress in
    let second = c.change_supervisors.new.progress in
    let name = c.as_str.result.now in
    let table = ap (option_and_then (λ (m : Module). m.table)) (found_as_listed first.next name) in
    supervisors_not_changed (site_of c.args.sources.now) past c.args.mode c.args.number (change_of c.args.change.now) name (record { cause = NoMemory; modules = c.args.number; slot = c.count.result })
    (progress_of first) (progress_of second) first.tree second.tree v c.as_str.ensures.value (c.in_ok-change_processes.ensures past v done) c.change_supervisors.ensures.held (ap is_super (sym table) ∙ c.in-Err.ensures.asks) refl refl c.count.ensures
