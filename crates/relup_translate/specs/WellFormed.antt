-- What is well formed of the releases that a relup is made of: their names are names, and their versions are versions.
use Rattle.std.specs.Prelude.{List, IfSome}
use Rattle.std.specs.List.{AllByRecursion}
use Rattle.rel_files.specs.Name.{IsName, IsVersion}
use Rattle.appup_file.specs.Form.{IsAppupInstruction}
use Rattle.appup_file.specs.Instruction.{AppupEntryForm, AppupForm}
use Rattle.relup_row.specs.Release.{RelupAppForm, RelupReleaseForm}

-- an application, whatever its appup is
abbrev pub IsWellFormedApp : RelupAppForm → Type 0
IsWellFormedApp a = IsName a.name × IsVersion a.vsn × AllByRecursion IsName a.modules

-- a release, whatever its appups are
abbrev pub IsWellFormedRelease : RelupReleaseForm → Type 0
IsWellFormedRelease r = IsVersion r.vsn × AllByRecursion IsWellFormedApp r.apps

abbrev pub AreWellFormedEntries : List AppupEntryForm → Type 0
AreWellFormedEntries = AllByRecursion (λ (e : AppupEntryForm). AllByRecursion IsAppupInstruction e.instrs)

-- the instructions of an appup
abbrev pub IsWellFormedAppup : AppupForm → Type 0
IsWellFormedAppup p = AreWellFormedEntries p.ups × AreWellFormedEntries p.downs

-- the appups of a release
abbrev pub HasWellFormedAppups : RelupReleaseForm → Type 0
HasWellFormedAppups r = AllByRecursion (λ (a : RelupAppForm). IfSome a.appup IsWellFormedAppup) r.apps
