-- Which script an installation runs, where it runs, and why it isn't begun (OTP: release_handler:install_release/1).
use Rattle.std.specs.Prelude.{◌≡◌, ℕ, List, [], not, Option, None, Some, Ok, Err, Bool, if◌then◌else◌}
use Rattle.std.specs.Option.{option_map}
use Rattle.std.specs.Str.{bytes_eq}
use Rattle.library.specs.Library.{Library}
use Rattle.rel_files.specs.Release.{Release}
use Rattle.rel_list.specs.Releases.{Releases, release_at, running, libraries_at}
use Rattle.relup_file.specs.Script.{IsRunnable, script_fault}
use Rattle.relup_file.specs.Search.{FoundForm}
use Rattle.node_command.specs.Installing.{installation}
use Rattle.relup_exec.specs.Script.{Site}
use Rattle.loaded_modules.specs.Loaded.{NamedModules}
use Rattle.node_upgrade.specs.declared.error.InstallError.{InstallError}
use Rattle.node_upgrade.specs.declared.error.InstallError.TheVariants.{Command, Refused, MustReboot}
use Rattle.node_upgrade.specs.Failure.{Failure, failure, failure_of, fault_failure}
use Rattle.node_upgrade.specs.Failure.Why.{new_emulator}

-- the version of the runtime system that a release asks for
abbrev pub erts_of : Option Release → List ℕ
erts_of None = []
erts_of (Some r) = r.erts

-- the release of this version asks for another one than the release that runs
abbrev pub changes_emulator : List ℕ → Releases → Bool
changes_emulator vsn es = not (bytes_eq (erts_of (release_at vsn es)) (erts_of (running es)))

-- why the script isn't begun
abbrev pub script_failure : List ℕ → Releases → FoundForm → Option Failure
script_failure vsn es f =
    if changes_emulator vsn es then Some (failure 0 new_emulator) else option_map fault_failure (script_fault f.script)

-- A script that may begin: where its modules are fetched from, and the libraries of the release to which it leads.
pub record UpgradeForm : Type 0 where
  pub found : FoundForm
  pub releases : Releases
  pub target : List Library

-- where an upgrade runs, with what is loaded as it begins
abbrev pub site_for : UpgradeForm → NamedModules → Site
site_for u modules = record { releases = u.releases; target = u.target; loaded = modules }

-- the one by which the release of this version is installed
abbrev pub upgrade_to : List ℕ → Releases → FoundForm → UpgradeForm
upgrade_to vsn es f = record { found = f; releases = es; target = libraries_at vsn es }

-- The upgrade is the one by which the release of this version is installed.
pub record IsUpgrade (vsn : List ℕ) (es : Releases) (u : UpgradeForm) : Type 0 where
  pub found : installation vsn es ≡ Ok u.found
  pub is : u ≡ upgrade_to vsn es u.found
  pub begins : script_failure vsn es u.found ≡ None
  pub runnable : IsRunnable u.found.script

-- Why there is none: what the list or the relups refuse, or what is wrong with the script.
abbrev pub IsNoUpgrade : List ℕ → Releases → InstallError → Type 0
IsNoUpgrade vsn es (Command why) = installation vsn es ≡ Err why
IsNoUpgrade vsn es (Refused f) = (found : FoundForm) × (installation vsn es ≡ Ok found) × (script_failure vsn es found ≡ Some (failure_of f))
IsNoUpgrade vsn es (MustReboot f) = ⊥
