use Rattle.std.proofs.Common.{ap, refl}
use Rattle.relup_instruction.specs.Instruction.{purging_of}
use Rattle.loaded_modules.specs.Loaded.{listed_in}
use Rattle.script_progress.specs.declared.cause.Cause.TheVariants.{NoMemory}
use Rattle.script_progress.specs.Steps.{progress_of}
use Rattle.relup_exec.proofs.StepLemmas.{load_fails, loaded_well, module_not_loaded}
use Rattle.relup_exec.proofs.load.load_fetched.Goals as goal

pub returns-in-Ok-clause-carried : goal.returns-in-Ok-clause-carried
returns-in-Ok-clause-carried g c = λ s.
    loaded_well s g.past c.args.early (purging_of c.args.purging.now) (progress_of c.args.progress.now) c.as_str-module.result.now
    c.give_table.new.progress.held (listed_in c.give_table.new.progress.fetched) (listed_in c.give_table.new.progress.next) (listed_in c.load_from.new.self) c.args.progress.now.tree c.give_table.new.progress.tree c.args.access.now c.give_table.new.access
    c.as_str-module.ensures.value c.requires.1.1.1 c.requires.1.1.0 c.give_table.ensures.longer c.in_ok-give_table.ensures.given (ap listed_in c.give_table.ensures.fetched) (ap listed_in c.give_table.ensures.next) c.give_table.ensures.tree c.in-Ok.ensures.loaded

pub returns-in_err-give_table-clause-carried : goal.returns-in_err-give_table-clause-carried
returns-in_err-give_table-clause-carried g c = λ s.
    load_fails s g.past c.args.early (purging_of c.args.purging.now) c.in_err-give_table.field-0.0 c.from_residual.result
    (progress_of c.give_table.new.progress) c.give_table.new.progress.tree c.args.access.now c.give_table.new.access c.requires.1.1.1 c.in_err-give_table.ensures.given c.from_residual.ensures.1

pub returns-in-Err-clause-carried : goal.returns-in-Err-clause-carried
returns-in-Err-clause-carried g c = λ s.
    module_not_loaded s g.past c.args.early (purging_of c.args.purging.now) (record { cause = NoMemory; modules = 0; slot = c.count.result })
    (record { held = c.give_table.new.progress.held; fetched = listed_in c.give_table.new.progress.fetched; next = listed_in c.load_from.new.self }) c.give_table.new.progress.tree c.args.access.now c.give_table.new.access
    c.requires.1.1.1 c.in_ok-give_table.ensures.given refl c.count.ensures
