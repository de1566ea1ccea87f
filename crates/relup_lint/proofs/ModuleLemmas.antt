-- The applications of a target, and their modules, as they are found by names.
use Rattle.std.proofs.Common.{◌≡◌, ◌||◌, ℕ, Bool, true, false, cond, List, [], ◌∷◌, map, Some, Bor, String, string_bytes, refl}
use Rattle.std.specs.declared.alloc.Global.{Global}
use Rattle.std.specs.Option.{option_map, is_some, unwrap_or}
use Rattle.std.specs.Str.{bytes_eq}
use Rattle.relup_lint.specs.declared.script.TargetApp.{TargetApp}
use Rattle.relup_lint.specs.Names.{first_under}
use Rattle.relup_lint.specs.Script.{all_targets, modules_of, has_app}

-- the row under which the modules of an application are kept
abbrev pub app_row : TargetApp → Bor (List ℕ) × Bor (List (String Global))
app_row t = (t.name, t.modules)

abbrev texts_of : Bor (List (String Global)) → List (List ℕ)
texts_of ms = map string_bytes ms.now

pub modules_found : (name : List ℕ) (ts : List TargetApp)
    → unwrap_or (option_map texts_of (first_under name (map app_row ts))) [] ≡ modules_of name (all_targets ts)
modules_found name [] = refl
modules_found name (t ∷ ts) = go (bytes_eq name t.name.now) (modules_found name ts)
  where
    go : (b : Bool) → unwrap_or (option_map texts_of (first_under name (map app_row ts))) [] ≡ modules_of name (all_targets ts)
        → unwrap_or (option_map texts_of (cond b (Some t.modules) (first_under name (map app_row ts)))) [] ≡ cond b (map string_bytes t.modules.now) (modules_of name (all_targets ts))
    go true later = refl
    go false later = later

pub app_found : (name : List ℕ) (ts : List TargetApp) → is_some (first_under name (map app_row ts)) ≡ has_app name (all_targets ts)
app_found name [] = refl
app_found name (t ∷ ts) = go (bytes_eq name t.name.now) (app_found name ts)
  where
    go : (b : Bool) → is_some (first_under name (map app_row ts)) ≡ has_app name (all_targets ts)
        → is_some (cond b (Some t.modules) (first_under name (map app_row ts))) ≡ (b || has_app name (all_targets ts))
    go true later = refl
    go false later = later
