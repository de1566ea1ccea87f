use Rattle.relup_instruction.specs.Instruction.{fetch_of}
use Rattle.loaded_modules.specs.Loaded.{listed_in}
use Rattle.script_progress.specs.InMemory.{site_of}
use Rattle.script_progress.specs.Steps.{progress_of}
use Rattle.relup_exec.proofs.StepLemmas.{fetched_well, not_fetched}
use Rattle.relup_exec.proofs.fetch.fetch.Goals as goal

pub returns-in-Ok : goal.returns-in-Ok
returns-in-Ok c = λ past v early done.
    fetched_well (site_of c.args.sources.now) past early (fetch_of c.args.fetch.now) (progress_of c.args.progress.now) (listed_in c.fetch_from.new.fetched) c.args.progress.now.tree v done c.in-Ok.ensures

pub returns-in-Err : goal.returns-in-Err
returns-in-Err c = λ past v early done.
    not_fetched (site_of c.args.sources.now) past early (fetch_of c.args.fetch.now) c.failure_at_start.result c.in-Err.cause (progress_of c.args.progress.now) (listed_in c.fetch_from.new.fetched) c.args.progress.now.tree v done c.in-Err.ensures c.failure_at_start.ensures
