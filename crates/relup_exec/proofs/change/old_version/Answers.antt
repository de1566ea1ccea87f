use Rattle.std.proofs.Common.{◌≡◌, ◌∙◌, true, ℕ, List, Option, Some, None, is_some, Result, Ok, Err, OnErr, string_bytes, sym, ap, subst}
use Rattle.std.specs.Option.{option_map, option_or}
use Rattle.worker_table.specs.Table.OldVersion.{up, down}
use Rattle.relup_instruction.specs.declared.instruction.Direction.{Direction}
use Rattle.loaded_modules.specs.Loaded.{Module, listed_in}
use Rattle.loaded_modules.proofs.NamedLemmas.{found_as_listed}
use Rattle.script_progress.specs.InMemory.{site_of}
use Rattle.script_progress.specs.Script.{old_version, version_in}
use Rattle.relup_exec.proofs.change.old_version.Goals as goal

-- what is so is so where memory is refused
refused_so : {X E : Type 0} (r : Result X E) (P : Type 0) → P → OnErr r P
refused_so (Ok x) P is = tt
refused_so (Err e) P is = is

pub returns-in_err-from_str-in-Some-clause-asks : goal.returns-in_err-from_str-in-Some-clause-asks
returns-in_err-from_str-in-Some-clause-asks c = refused_so c.from_residual.result _ (λ past v done.
    let name = c.args.name.now in
    let vsn = c.in-Some.ensures ∙ ap (option_map (λ (m : Module). m.vsn)) (found_as_listed c.args.sources.now.loaded.now name) in
    subst (λ (d : Direction). is_some (old_version (site_of c.args.sources.now) d name past.run) ≡ true) (sym c.in-Up.is) (sym (ap (λ (o : Option (List ℕ)). is_some (option_map up o)) vsn)))

pub returns-in_err-from_str-in-Some-newest_vsn-clause-asks : goal.returns-in_err-from_str-in-Some-newest_vsn-clause-asks
returns-in_err-from_str-in-Some-newest_vsn-clause-asks c = refused_so c.from_residual-in_err-from_str-in-Some-newest_vsn.result _ (λ past v done.
    let name = c.args.name.now in
    let known : option_or (version_in name (listed_in c.args.progress.now.fetched)) (version_in name (listed_in c.args.progress.now.next)) ≡ option_or (version_in name past.run.fetched) (version_in name past.run.modules) =
    λ j. option_or (version_in name (done.fetched j)) (version_in name (done.next j)) in
    let vsn = c.in-Some-newest_vsn.ensures ∙ known in
    subst (λ (d : Direction). is_some (old_version (site_of c.args.sources.now) d name past.run) ≡ true) (sym c.in-Down.is) (sym (ap (λ (o : Option (List ℕ)). is_some (option_map down o)) vsn)))

pub returns-in_ok-from_str-in-Some-clause-found : goal.returns-in_ok-from_str-in-Some-clause-found
returns-in_ok-from_str-in-Some-clause-found c = λ past v done.
    let vsn = ap Some c.in_ok-from_str-in-Some.ensures.ok ∙ (c.in-Some.ensures ∙ ap (option_map (λ (m : Module). m.vsn)) (found_as_listed c.args.sources.now.loaded.now c.args.name.now)) in
    subst (λ (d : Direction). Some (up (string_bytes c.in_ok-from_str-in-Some.field-0)) ≡ old_version (site_of c.args.sources.now) d c.args.name.now past.run) (sym c.in-Up.is) (ap (option_map up) vsn)

pub returns-in-None-clause-found : goal.returns-in-None-clause-found
returns-in-None-clause-found c = λ past v done.
    let vsn = c.in-None.ensures ∙ ap (option_map (λ (m : Module). m.vsn)) (found_as_listed c.args.sources.now.loaded.now c.args.name.now) in
    subst (λ (d : Direction). None ≡ old_version (site_of c.args.sources.now) d c.args.name.now past.run) (sym c.in-Up.is) (ap (option_map up) vsn)

pub returns-in_ok-from_str-in-Some-newest_vsn-clause-found : goal.returns-in_ok-from_str-in-Some-newest_vsn-clause-found
returns-in_ok-from_str-in-Some-newest_vsn-clause-found c = λ past v done.
    let name = c.args.name.now in
    let known : option_or (version_in name (listed_in c.args.progress.now.fetched)) (version_in name (listed_in c.args.progress.now.next)) ≡ option_or (version_in name past.run.fetched) (version_in name past.run.modules) =
    λ j. option_or (version_in name (done.fetched j)) (version_in name (done.next j)) in
    let vsn = ap Some c.in_ok-from_str-in-Some-newest_vsn.ensures.ok ∙ (c.in-Some-newest_vsn.ensures ∙ known) in
    subst (λ (d : Direction). Some (down (string_bytes c.in_ok-from_str-in-Some-newest_vsn.field-0)) ≡ old_version (site_of c.args.sources.now) d name past.run) (sym c.in-Down.is) (ap (option_map down) vsn)

pub returns-in-None-newest_vsn-clause-found : goal.returns-in-None-newest_vsn-clause-found
returns-in-None-newest_vsn-clause-found c = λ past v done.
    let name = c.args.name.now in
    let known : option_or (version_in name (listed_in c.args.progress.now.fetched)) (version_in name (listed_in c.args.progress.now.next)) ≡ option_or (version_in name past.run.fetched) (version_in name past.run.modules) =
    λ j. option_or (version_in name (done.fetched j)) (version_in name (done.next j)) in
    subst (λ (d : Direction). None ≡ old_version (site_of c.args.sources.now) d name past.run) (sym c.in-Down.is) (ap (option_map down) (c.in-None-newest_vsn.ensures ∙ known))
