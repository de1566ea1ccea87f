use Rattle.std.proofs.Common.{◌≡◌, ◌≤◌, List, [], Bor, String, map, length, string_bytes, ap, ◌∙◌, arith}
use Rattle.std.specs.declared.alloc.Global.{Global}
use Rattle.std.specs.Option.{option_map, is_some, unwrap_or}
use Rattle.std.proofs.lemmas.List.{take_all}
use Rattle.relup_lint.specs.Names.{first_under}
use Rattle.relup_lint.proofs.ModuleLemmas.{app_row, modules_found, app_found}
use Rattle.relup_lint.proofs.modules.Modules.new.Goals as goal

pub invariant_of-result : goal.invariant_of-result
invariant_of-result c =
    let target = c.args.target.now in
    let at = c.loop-app.app-index in
    let past : length target ≤ at = omega arith in
    let all : c.deref.result.now ≡ map app_row target =
    c.deref.ensures.value ∙ (c.loop-app.invariant ∙ ap (map app_row) (take_all at target past)) in
    record {
      modules = λ name. ap (λ o. unwrap_or (option_map (λ (ms : Bor (List (String Global))). map string_bytes ms.now) o) []) (c.in_ok-by_name.ensures name ∙ ap (first_under name) all)
          ∙ modules_found name target;
      has = λ name. ap is_some (c.in_ok-by_name.ensures name ∙ ap (first_under name) all) ∙ app_found name target;
    }
