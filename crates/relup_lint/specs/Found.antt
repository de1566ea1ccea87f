-- What is found by the names of applications.
use Rattle.std.specs.Prelude.{◌≡◌, ℕ, List, [], map, string_bytes, Option, String}
use Rattle.std.specs.BTreeMap.{BTreeMap}
use Rattle.std.specs.Borrow.{Bor}
use Rattle.std.specs.Option.{option_map, is_some, unwrap_or}
use Rattle.relup_lint.specs.Names.{found_under}
use Rattle.relup_lint.specs.Script.{TargetForm, modules_of, has_app}

-- the modules that are found under a name
abbrev pub named_modules : {Y : Type 0} → List ℕ → BTreeMap (Bor (List ℕ)) (Bor (List (String Y))) → Option (List (List ℕ))
named_modules {Y} name m = option_map (λ (ms : Bor (List (String Y))). map string_bytes ms.now) (found_under name m)

-- The applications of a target are found by their names.
pub record IsFoundByName {Y : Type 0} (m : BTreeMap (Bor (List ℕ)) (Bor (List (String Y)))) (ts : List TargetForm) : Type 0 where
  pub modules : (name : List ℕ) → unwrap_or (named_modules name m) [] ≡ modules_of name ts
  pub has : (name : List ℕ) → is_some (found_under name m) ≡ has_app name ts
