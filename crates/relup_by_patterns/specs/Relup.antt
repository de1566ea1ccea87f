-- The relup of a release, by patterns.
use Rattle.std.specs.Prelude.{◌≡◌, List, Ok}
use Rattle.relup_file.specs.Relup.{RelupForm}
use Rattle.relup_row.specs.Release.{RelupReleaseForm}
use Rattle.relup_translate.specs.Translation.{translation, Refuses}
use Rattle.relup_by_patterns.specs.declared.error.ByPatternsError.{ByPatternsError}
use Rattle.relup_by_patterns.specs.declared.error.ByPatternsError.TheVariants.{Patterns, Translation}
use Rattle.relup_by_patterns.specs.Plain.{IfBad, IsPlainRelease, AppsHaveFault}

-- The relup is the translation of the release with its appups made plain.
abbrev pub IsMadeByPatterns : RelupReleaseForm → List RelupReleaseForm → List RelupReleaseForm → RelupForm → Type 0
IsMadeByPatterns new ups downs relup =
    (plain : RelupReleaseForm) × IsPlainRelease ups downs new plain × (translation plain ups downs ≡ Ok relup)

-- The first pattern with a fault is reported, and else the translation's fault. Out of memory says nothing of the releases.
abbrev pub IsRefusal : RelupReleaseForm → List RelupReleaseForm → List RelupReleaseForm → ByPatternsError → Type 0
IsRefusal new ups downs (Patterns e) = IfBad e (AppsHaveFault ups downs new.apps)
IsRefusal new ups downs (Translation e) =
    (plain : RelupReleaseForm) × IsPlainRelease ups downs new plain × Refuses (translation plain ups downs) e
