-- What a script makes of the processes of a node, and of what is loaded and started there.
use Rattle.std.specs.Prelude.{◌≡◌, ◌≢◌, ◌⊎◌, ℕ, List, string_bytes}
use Rattle.erl_term.specs.Value.{value_of}
use Rattle.proc_table.specs.declared.view.View.{View}
use Rattle.relup_exec.specs.Following.{AreUntouched}
use Rattle.relup_exec.specs.Outcome.{IsBroken, IsFinished, IsRefused, Start}
use Rattle.relup_exec.specs.Fault.{Cause}
use Rattle.relup_exec.specs.Fault.Cause.{no_memory}
use Rattle.relup_exec.specs.declared.site.Site.{Site}
use Rattle.relup_exec.specs.Sites.{view_in}
use Rattle.loaded_modules.specs.Loaded.{NamedModules, listed_in}
use Rattle.relup_exec.specs.Tree.{App}
use Rattle.node_command.specs.declared.error.HandlerError.TheVariants as command
use Rattle.node_upgrade.specs.declared.error.InstallError.{InstallError}
use Rattle.node_upgrade.specs.declared.error.InstallError.TheVariants.{Command, Refused, MustReboot}
use Rattle.node_upgrade.specs.declared.upgrade.Installed.{Installed}
use Rattle.node_upgrade.specs.Failure.{failure, failure_of}
use Rattle.node_upgrade.specs.Failure.Why.{fails}
use Rattle.node_upgrade.specs.Stale.{stale_modules}
use Rattle.node_upgrade.specs.Upgrade.{UpgradeForm, site_for}

-- what the handler has seen of the processes, which applications are started, and what is loaded
pub record NodeState : Type 0 where
  pub view : View
  pub apps : List App
  pub modules : NamedModules

abbrev pub state : View → List App → NamedModules → NodeState
state v apps modules = record { view = v; apps = apps; modules = modules }

-- the processes of a site, what is started there and what is loaded
abbrev pub state_in : Site → NodeState
state_in s = state (view_in s) s.tree.now (listed_in s.loaded.now)

abbrev pub start_in : NodeState → Start
start_in n = record { first = n.view; apps = n.apps }

-- The handler added nothing, and nothing was loaded, started or stopped.
pub record IsUntouched (old new : NodeState) : Type 0 where
  pub view : AreUntouched old.view new.view
  pub apps : new.apps ≡ old.apps
  pub modules : new.modules ≡ old.modules

-- the whole script was carried out
abbrev pub IsCarriedOut : UpgradeForm → NodeState → NodeState → Type 0
IsCarriedOut u old new = IsFinished (site_for u old.modules) (start_in old) u.found.script new.modules new.apps new.view

-- The whole script was carried out. Reported are the version and the description of its entry, and the stale modules.
pub record IsInstalled (u : UpgradeForm) (old : NodeState) (i : Installed) (new : NodeState) : Type 0 where
  pub finished : IsCarriedOut u old new
  pub other : string_bytes i.other ≡ u.found.other
  pub descr : value_of i.descr ≡ u.found.descr
  pub stale : i.stale.items ≡ stale_modules new.modules u.target

-- An instruction after the point of no return is the first that fails. What is loaded and which applications are started is as it
-- was.
pub record BreaksOff (u : UpgradeForm) (old : NodeState) (n : ℕ) (c : Cause) (new : NodeState) : Type 0 where
  pub broken : IsBroken (site_for u old.modules) (start_in old) u.found.script n c new.view
  pub apps : new.apps ≡ old.apps
  pub modules : new.modules ≡ old.modules

-- Memory was refused before anything was tried, or to an instruction before the point of no return that asks for memory, after those
-- in front of it were carried out.
abbrev pub LacksMemory : UpgradeForm → NodeState → NodeState → Type 0
LacksMemory u old new =
    (new.view ≡ old.view) ⊎ ((n : ℕ) × IsRefused (site_for u old.modules) (start_in old) u.found.script n no_memory new.view)

-- What is reported of an instruction before the point of no return that fails. Out of memory is reported as `NoMemory`.
abbrev pub ReportsRefusal : ℕ → Cause → InstallError → Type 0
ReportsRefusal n c (Command command.NoMemory) = c ≡ no_memory
ReportsRefusal n c (Command why) = ⊥
ReportsRefusal n c (Refused f) = (c ≢ no_memory) × (failure_of f ≡ failure n (fails c))
ReportsRefusal n c (MustReboot f) = ⊥

-- Why a script that has begun isn't carried out to its end, and what it leaves.
abbrev pub RunRefused : UpgradeForm → NodeState → NodeState → InstallError → Type 0
RunRefused u old new (Command command.NoMemory) = LacksMemory u old new × IsUntouched old new
RunRefused u old new (Command why) = ⊥
RunRefused u old new (Refused f) =
    (c : Cause) × (c ≢ no_memory) × (failure_of f ≡ failure f.instr (fails c))
    × IsRefused (site_for u old.modules) (start_in old) u.found.script f.instr c new.view × IsUntouched old new
RunRefused u old new (MustReboot f) =
    (c : Cause) × (failure_of f ≡ failure f.instr (fails c)) × BreaksOff u old f.instr c new
