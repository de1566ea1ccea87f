use Rattle.std.proofs.Common.{◌∙◌, ℕ, List, is_some, refl, sym, ap}
use Rattle.std.specs.Option.{option_map}
use Rattle.worker_table.specs.InMemory.{old_of}
use Rattle.relup_instruction.specs.Instruction.{change_of}
use Rattle.script_progress.specs.declared.cause.Cause.TheVariants.{NoChange, NoMemory}
use Rattle.script_progress.specs.InMemory.{site_of}
use Rattle.script_progress.specs.Script.{old_version}
use Rattle.script_progress.specs.Steps.{progress_of}
use Rattle.relup_exec.proofs.StepLemmas.{held_without_version, none_held, version_not_copied}
use Rattle.relup_exec.proofs.change.change_processes.Goals as goal

pub returns-then-not-holds : goal.returns-then-not-holds
returns-then-not-holds c = λ past v done.
    none_held (site_of c.args.sources.now) past c.args.mode c.args.number (change_of c.args.change.now) c.args.progress.now.tree c.as_str-module.result.now (progress_of c.args.progress.now) v c.holds.result
    c.as_str-module.ensures.value done c.holds.ensures c.if-not-holds.true

pub returns-in-Ok-Some : goal.returns-in-Ok-Some
returns-in-Ok-Some c = λ past v done.
    let s = site_of c.args.sources.now in
    c.change_from.ensures s c.args.mode past v done (sym (ap (option_map old_of) c.in-Ok-Some.field-0-is) ∙ (c.in-Ok-Some.ensures.found past v done ∙ ap (λ (n : List ℕ). old_version s c.args.mode n past.run) c.as_str-module.ensures.value))

pub returns-in-Ok-None : goal.returns-in-Ok-None
returns-in-Ok-None c = λ past v done.
    let s = site_of c.args.sources.now in
    held_without_version s past c.args.mode c.args.number (change_of c.args.change.now) c.args.progress.now.tree c.as_str-module.result.now (record { cause = NoChange; modules = c.args.number; slot = 0 }) (progress_of c.args.progress.now) v c.holds.result
    c.as_str-module.ensures.value (sym (ap (λ (n : List ℕ). old_version s c.args.mode n past.run) c.as_str-module.ensures.value) ∙ (sym (c.in-Ok-None.ensures.found past v done) ∙ ap (option_map old_of) c.in-Ok-None.field-0-is)) done c.holds.ensures c.if-not-holds.false refl refl refl

pub returns-in-Err : goal.returns-in-Err
returns-in-Err c = λ past v done.
    let s = site_of c.args.sources.now in
    version_not_copied s past c.args.mode c.args.number (change_of c.args.change.now) c.args.progress.now.tree c.as_str-module.result.now (record { cause = NoMemory; modules = c.args.number; slot = 0 }) (progress_of c.args.progress.now) v c.holds.result
    c.as_str-module.ensures.value (sym (ap (λ (n : List ℕ). is_some (old_version s c.args.mode n past.run)) c.as_str-module.ensures.value) ∙ c.in-Err.ensures.asks past v done) done c.holds.ensures c.if-not-holds.false refl refl refl
