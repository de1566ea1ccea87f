use Rattle.std.proofs.Common.{is_some, ap, ◌∙◌}
use Rattle.std.specs.Option.{option_map}
use Rattle.loaded_modules.specs.Loaded.{module_in, listed_in, with_loaded}
use Rattle.loaded_modules.proofs.NamedLemmas.{found_as_listed}
use Rattle.loaded_modules.proofs.loaded.Loaded.load_from.Goals as goal

pub returns-in_default-clause-there : goal.returns-in_default-clause-there
returns-in_default-clause-there c =
    let none = ap (option_map module_in) c.in_default.ensures.value ∙ found_as_listed c.args.other.now c.args.name.now in
    ap is_some none

pub returns-in_default-clause-loaded : goal.returns-in_default-clause-loaded
returns-in_default-clause-loaded c =
    let none = ap (option_map module_in) c.in_default.ensures.value ∙ found_as_listed c.args.other.now c.args.name.now in
    ap (λ m. with_loaded m c.args.name.now (listed_in c.args.self.now)) none

pub returns-clause-there : goal.returns-clause-there
returns-clause-there c =
    let found = ap (option_map module_in) c.in-Some.ensures.value ∙ found_as_listed c.args.other.now c.args.name.now in
    ap is_some found

pub returns-clause-loaded : goal.returns-clause-loaded
returns-clause-loaded c =
    let found = ap (option_map module_in) c.in-Some.ensures.value ∙ found_as_listed c.args.other.now c.args.name.now in
    c.in_ok-load_module.ensures.listed ∙ ap (λ m. with_loaded m c.args.name.now (listed_in c.args.self.now)) found
