-- The script between two releases, from its parts.
use Rattle.std.proofs.Common.{◌≡◌, ap, ap₂, ◌∙◌, List, [], ◌++◌, map}
use Rattle.std.specs.List.{flat_map}
use Rattle.relup_instruction.specs.declared.instruction.Direction.{Direction}
use Rattle.relup_lint.specs.Script.{PlacedForm, TargetForm, ScriptForm, placed}
use Rattle.relup_row.specs.Release.{RelupReleaseForm, WayForm, way_between}
use Rattle.release_relup.specs.Scripts.{all_coming, app_placed, target_app, script_between}

-- the script of these instructions for this target
abbrev pub script_in : List PlacedForm → List TargetForm → ScriptForm
script_in is ts = record { instrs = is; target = ts }

pub same_script : (d : Direction) (new other : RelupReleaseForm) (w : WayForm) (instrs first : List PlacedForm) (target : List TargetForm) → w ≡ way_between d new other
    → target ≡ map target_app w.target.apps → first ≡ placed [] 1 (all_coming w) → instrs ≡ first ++ flat_map (app_placed d other) new.apps
    → script_in instrs target ≡ script_between d new other
same_script d new other w instrs first target way targets coming all =
    ap₂ script_in (all ∙ ap (λ (f : List PlacedForm). f ++ flat_map (app_placed d other) new.apps) (coming ∙ ap (λ (v : WayForm). placed [] 1 (all_coming v)) way))
    (targets ∙ ap (λ (v : WayForm). map target_app v.target.apps) way)
