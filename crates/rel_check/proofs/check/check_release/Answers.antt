use Rattle.std.proofs.Common.{◌≡◌, ◌∙◌, map, None, Some, true, false, if◌then◌else◌, sym, ap}
use Rattle.std.specs.Option.{option_map, option_or}
use Rattle.rel_files.specs.Release.{application_of}
use Rattle.library.specs.InMemory.{shared_of}
use Rattle.rel_check.specs.InMemory.{part_of, module_of, named_of}
use Rattle.rel_check.specs.Modules.{parts, modules_in}
use Rattle.rel_check.specs.Fault.Fault.{module_twice, id_twice, no_table, too_many}
use Rattle.rel_check.specs.Summary.{summary_of, limits_kept}
use Rattle.rel_check.proofs.Faults.{reported}
use Rattle.rel_check.proofs.check.check_release.Goals as goal

pub returns-in-Some-missing : goal.returns-in-Some-missing
returns-in-Some-missing c =
    let ps = map part_of c.as_slice-parts.result.now in
    let ms = map module_of c.as_slice-modules.result.now in
    let all = parts (map application_of c.args.apps.now) (map shared_of c.args.libraries.now) in
    let are : ps ≡ all = ap (map part_of) c.as_slice-parts.ensures.value ∙ c.in_ok-found_parts.ensures in
    let modules : ms ≡ modules_in ps = ap (map module_of) c.as_slice-modules.ensures.value ∙ c.in_ok-found_modules.ensures in
    let first : option_map named_of c.in_ok-named.field-0 ≡ None = ap (option_map named_of) c.in_default.is in
    let second : option_map named_of c.in_ok-named-2.field-0 ≡ None = ap (option_map named_of) c.in_default-2.is in
    let s = summary_of c.in_ok-walk.walk in
    let is = reported all ps ms _ _ s are modules c.in_ok-named.ensures c.in_ok-named-2.ensures c.in_ok-walk.ensures in
    let third : s.missing ≡ Some c.in-Some-missing.name.now = ap (option_map (λ n. n.now)) c.in-Some-missing.is in
    λ ne. is
    ∙ (λ j. option_or (option_map module_twice (first j)) (option_or (option_map id_twice (second j)) (option_or (option_map no_table (third j)) (if limits_kept ps ms s then None else Some too_many))))

pub returns-then-keeps_limits : goal.returns-then-keeps_limits
returns-then-keeps_limits c =
    let ps = map part_of c.as_slice-parts.result.now in
    let ms = map module_of c.as_slice-modules.result.now in
    let all = parts (map application_of c.args.apps.now) (map shared_of c.args.libraries.now) in
    let are : ps ≡ all = ap (map part_of) c.as_slice-parts.ensures.value ∙ c.in_ok-found_parts.ensures in
    let modules : ms ≡ modules_in ps = ap (map module_of) c.as_slice-modules.ensures.value ∙ c.in_ok-found_modules.ensures in
    let first : option_map named_of c.in_ok-named.field-0 ≡ None = ap (option_map named_of) c.in_default.is in
    let second : option_map named_of c.in_ok-named-2.field-0 ≡ None = ap (option_map named_of) c.in_default-2.is in
    let s = summary_of c.in_ok-walk.walk in
    let is = reported all ps ms _ _ s are modules c.in_ok-named.ensures c.in_ok-named-2.ensures c.in_ok-walk.ensures in
    let third : s.missing ≡ None = ap (option_map (λ n. n.now)) c.in_default-missing.is in
    let fourth : limits_kept ps ms s ≡ true = sym c.keeps_limits.ensures ∙ c.if-keeps_limits.true in
    is
    ∙ (λ j. option_or (option_map module_twice (first j)) (option_or (option_map id_twice (second j)) (option_or (option_map no_table (third j)) (if fourth j then None else Some too_many))))

pub returns : goal.returns
returns c =
    let ps = map part_of c.as_slice-parts.result.now in
    let ms = map module_of c.as_slice-modules.result.now in
    let all = parts (map application_of c.args.apps.now) (map shared_of c.args.libraries.now) in
    let are : ps ≡ all = ap (map part_of) c.as_slice-parts.ensures.value ∙ c.in_ok-found_parts.ensures in
    let modules : ms ≡ modules_in ps = ap (map module_of) c.as_slice-modules.ensures.value ∙ c.in_ok-found_modules.ensures in
    let first : option_map named_of c.in_ok-named.field-0 ≡ None = ap (option_map named_of) c.in_default.is in
    let second : option_map named_of c.in_ok-named-2.field-0 ≡ None = ap (option_map named_of) c.in_default-2.is in
    let s = summary_of c.in_ok-walk.walk in
    let is = reported all ps ms _ _ s are modules c.in_ok-named.ensures c.in_ok-named-2.ensures c.in_ok-walk.ensures in
    let third : s.missing ≡ None = ap (option_map (λ n. n.now)) c.in_default-missing.is in
    let fourth : limits_kept ps ms s ≡ false = sym c.keeps_limits.ensures ∙ c.if-keeps_limits.false in
    λ ne. is
    ∙ (λ j. option_or (option_map module_twice (first j)) (option_or (option_map id_twice (second j)) (option_or (option_map no_table (third j)) (if fourth j then None else Some too_many))))
