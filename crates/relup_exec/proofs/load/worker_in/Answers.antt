use Rattle.std.proofs.Common.{◌∙◌, ap}
use Rattle.script_progress.specs.Script.{worker_in, worker_table}
use Rattle.loaded_modules.proofs.NamedLemmas.{found_as_listed}
use Rattle.relup_exec.proofs.load.worker_in.Goals as goal

pub returns-in-Some-Worker : goal.returns-in-Some-Worker
returns-in-Some-Worker c = let h = rw c.in-Some-Worker.field-0-is at c.in-Some-Worker.ensures in ap worker_table h ∙ ap worker_in (found_as_listed c.args.fetched.now c.args.name.now)

pub returns-in-Some-Super : goal.returns-in-Some-Super
returns-in-Some-Super c = let h = rw c.in-Some-Super.field-0-is at c.in-Some-Super.ensures in ap worker_table h ∙ ap worker_in (found_as_listed c.args.fetched.now c.args.name.now)

pub returns-in-None : goal.returns-in-None
returns-in-None c = ap worker_table c.in-None.ensures ∙ ap worker_in (found_as_listed c.args.fetched.now c.args.name.now)
