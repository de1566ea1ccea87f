-- What a relup's making needs to know of releases, without where it lies in memory.
use Rattle.std.specs.Prelude.{ℕ, List, Option, map, string_bytes}
use Rattle.std.specs.Option.{option_map}
use Rattle.std.specs.List.{find}
use Rattle.std.specs.Str.{bytes_eq}
use Rattle.rel_files.specs.declared.release.StartType.{StartType}
use Rattle.relup_instruction.specs.declared.instruction.Direction.{Direction}
use Rattle.relup_instruction.specs.declared.instruction.Direction.TheVariants.{Up, Down}
use Rattle.appup_file.specs.Instruction.{AppupForm, appup_of}
use Rattle.relup_block.specs.Order.{is_among}
use Rattle.relup_row.specs.declared.release.RelupApp.{RelupApp}
use Rattle.relup_row.specs.declared.release.RelupRelease.{RelupRelease}
use Rattle.relup_row.specs.declared.release.Way.{Way}

-- an application of a release, with its modules and its appup
pub record RelupAppForm : Type 0 where
  pub name : List ℕ
  pub vsn : List ℕ
  pub start : StartType
  pub modules : List (List ℕ)
  pub appup : Option AppupForm

pub record RelupReleaseForm : Type 0 where
  pub vsn : List ℕ
  pub erts : List ℕ
  pub apps : List RelupAppForm

-- from the release that is left to the target
pub record WayForm : Type 0 where
  pub direction : Direction
  pub left : RelupReleaseForm
  pub target : RelupReleaseForm

abbrev pub relup_app_of : RelupApp → RelupAppForm
relup_app_of a = record {
  name = string_bytes a.name;
  vsn = string_bytes a.vsn;
  start = a.start;
  modules = a.modules;
  appup = option_map appup_of a.appup;
}

abbrev pub relup_release_of : RelupRelease → RelupReleaseForm
relup_release_of r = record { vsn = string_bytes r.vsn; erts = string_bytes r.erts; apps = map relup_app_of r.apps.items }

abbrev pub way_of : Way → WayForm
way_of w = record { direction = w.direction; left = relup_release_of w.left.now; target = relup_release_of w.target.now }

-- the way between a release and another one: up from that one, or down to it
abbrev pub way_between : Direction → RelupReleaseForm → RelupReleaseForm → WayForm
way_between Up new other = record { direction = Up; left = other; target = new }
way_between Down new other = record { direction = Down; left = new; target = other }

-- the application of a name
abbrev pub app_named : List ℕ → RelupReleaseForm → Option RelupAppForm
app_named s r = find (λ (a : RelupAppForm). bytes_eq a.name s) r.apps

-- the first application that has a module
abbrev pub owner : List ℕ → RelupReleaseForm → Option RelupAppForm
owner m r = find (λ (a : RelupAppForm). is_among m a.modules) r.apps
