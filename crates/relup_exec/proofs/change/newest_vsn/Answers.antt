use Rattle.std.proofs.Common.{◌∙◌, List, ℕ, Option, ap}
use Rattle.std.specs.Option.{option_map, option_or}
use Rattle.loaded_modules.specs.Loaded.{Module, listed_in}
use Rattle.loaded_modules.proofs.NamedLemmas.{found_as_listed}
use Rattle.script_progress.specs.Script.{version_in}
use Rattle.relup_exec.proofs.change.newest_vsn.Goals as goal

pub returns-in-Some : goal.returns-in-Some
returns-in-Some c =
    let name = c.args.name.now in
    ap (λ (o : Option (List ℕ)). option_or o (version_in name (listed_in c.args.progress.now.next))) (c.in-Some.ensures ∙ ap (option_map (λ (m : Module). m.vsn)) (found_as_listed c.args.progress.now.fetched name))

pub returns-in-None : goal.returns-in-None
returns-in-None c =
    let name = c.args.name.now in
    (c.vsn-in-None.ensures ∙ ap (option_map (λ (m : Module). m.vsn)) (found_as_listed c.args.progress.now.next name))
    ∙ ap (λ (o : Option (List ℕ)). option_or o (version_in name (listed_in c.args.progress.now.next))) (c.in-None.ensures ∙ ap (option_map (λ (m : Module). m.vsn)) (found_as_listed c.args.progress.now.fetched name))
