use Rattle.std.proofs.Common.{rules, ◌≡◌, ◌∙◌, List, ℕ, Option, Some, None, IsSome, refl, sym, ap, subst}
use Rattle.std.specs.Option.{option_map}
use Rattle.relup_instruction.specs.Instruction.{purging_of}
use Rattle.loaded_modules.specs.Loaded.{Module, NamedModules, module_named, modules_in}
use Rattle.loaded_modules.proofs.NamedLemmas.{found_as_listed}
use Rattle.script_progress.specs.Steps.{progress_of}
use Rattle.relup_exec.proofs.StepLemmas.{load_of_nothing}
use Rattle.relup_exec.proofs.load.load.Goals as goal

some_there : (o : Option Module) (vsn : List ℕ) → Some vsn ≡ option_map (λ (m : Module). m.vsn) o → IsSome o
some_there None vsn e = absurd (cc e)
some_there (Some m) vsn e = refl

none_there : (o : Option Module) → None ≡ option_map (λ (m : Module). m.vsn) o → o ≡ None
none_there None e = refl
none_there (Some m) e = absurd (cc e)

pub load_fetched-requires : goal.load_fetched-requires
load_fetched-requires g c =
    let name = c.as_str.result.now in
    let there : IsSome (module_named name g.past.run.fetched) = subst (λ (ms : NamedModules). IsSome (module_named name ms)) c.requires.1.1.fetched
    (subst (λ (o : Option Module). IsSome o) (found_as_listed c.args.progress.now.fetched name) (some_there (modules_in c.args.progress.now.fetched name) c.in-Some.field-0.now c.in-Some.ensures)) in
    let fetched : IsSome (module_named (purging_of c.args.purging.now).name g.past.run.fetched) = subst (λ (n : List ℕ). IsSome (module_named n g.past.run.fetched)) c.as_str.ensures.value there in
    search rules

pub returns-in-None-clause-carried : goal.returns-in-None-clause-carried
returns-in-None-clause-carried g c = λ s.
    let name = c.as_str.result.now in
    let gone : modules_in c.args.progress.now.fetched name ≡ None = none_there (modules_in c.args.progress.now.fetched name) c.in-None.ensures in
    load_of_nothing s g.past c.args.early (purging_of c.args.purging.now) c.failure_at_start.result (progress_of c.args.progress.now) c.args.progress.now.tree c.args.access.now
    (ap (λ (n : List ℕ). module_named n g.past.run.fetched) (sym c.as_str.ensures.value)
    ∙ (ap (module_named name) (sym c.requires.1.1.fetched) ∙ (sym (found_as_listed c.args.progress.now.fetched name) ∙ gone)))
    c.requires.1.1 c.failure_at_start.ensures
