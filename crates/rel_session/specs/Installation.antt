-- What a node that runs replies to an installation (OTP: release_handler:install_release/1).
use Rattle.std.specs.Prelude.{◌≡◌, ◌⊎◌, ℕ, Bool, true, false, List, [], ◌∷◌, ◌++◌, Option, None, Some, Result, Ok, Err}
use Rattle.rel_list.specs.Releases.{Releases, libraries_at}
use Rattle.rel_list.specs.Event.Event.{installed, restart_installed}
use Rattle.rel_handler.specs.Installing.{install_event, install_room, install_size, needs_restart}
use Rattle.node_command.specs.declared.error.HandlerError.{HandlerError}
use Rattle.node_processes.specs.Processes.{Processes}
use Rattle.node_processes.specs.Scripts.{behind_run, run_on}
use Rattle.node_upgrade.specs.Failure.{Failure, failure}
use Rattle.node_upgrade.specs.Failure.Why.{fails}
use Rattle.script_progress.specs.Fault.Cause.{no_memory}
use Rattle.node_upgrade.specs.Stale.{stale_modules}
use Rattle.node_upgrade.specs.Upgrade.{script_failure, site_for, upgrade_to}
use Rattle.node_store.specs.Events.{Events, StoreState, store_without_doubt, store_with_doubt}
use Rattle.node_store.specs.Compaction.{MayReach}
use Rattle.node_store.specs.Image.{Extent, extent_after, HasSpace}
use Rattle.relup_instruction.specs.Instruction.{Instruction}
use Rattle.relup_exec.specs.Outcome.{IsInstructionAt, still_early}
use Rattle.relup_exec.specs.Alone as script
use Rattle.relup_exec.specs.Alone.{outcome}
use Rattle.relup_exec.specs.Alone.Outcome.{ends, refuses, breaks}
use Rattle.relup_file.specs.Search.{FoundForm}
use Rattle.rel_session.specs.Booting.{BootsStore, store_behind}
use Rattle.rel_session.specs.Node.{Reply, releases_after, reply, refusal_reply, failure_reply, commit_outcome, after_commit, with_text}
use Rattle.rel_session.specs.Node.DiskState.{running, dead}
use Rattle.node_answer.specs.Lines.{installed_line}
use Rattle.node_answer.specs.Refusals.{refusal_of}
use Rattle.node_answer.specs.Refusals.NodeRefusal.{full, script_refused, must_reboot}

-- what comes of its script on these processes
abbrev pub upgrade_outcome : List ℕ → Releases → FoundForm → Processes → script.Outcome
upgrade_outcome vsn list f ps =
    let s = site_for (upgrade_to vsn list f) ps.modules in
    outcome s (run_on s ps) f.script

-- The release is installed: the store reaches so far then, and these are the processes after its script.
abbrev pub installed_reply : Events → Extent → List ℕ → Releases → FoundForm → Processes → Reply
installed_reply events extent vsn list f ps =
    reply (installed_line f (stale_modules ps.modules (libraries_at vsn list))) (commit_outcome (installed vsn ∷ []))
    (running (events ++ installed vsn ∷ []) extent ps)

-- the store of a node with these events after an installation of this version that ends with a restart
abbrev pub store_after_restart : Events → Extent → List ℕ → StoreState
store_after_restart events extent vsn = store_behind events (restart_installed vsn) extent

-- The reply to an installation that ends with a restart: the node boots, and the answer of the boot stands after that of the
-- installation.
abbrev pub restarted_reply : List ℕ → Releases → FoundForm → Processes → Reply → Reply
restarted_reply vsn list f ps b =
    with_text (installed_line f (stale_modules ps.modules (libraries_at vsn list))) (after_commit (restart_installed vsn) b)

-- What is replied after the commit, by whether there is a restart: the store reaches so far then, and these are the processes
-- after the script.
abbrev pub IsInstallationReply : Bool → Events → Extent → List ℕ → Releases → FoundForm → Processes → Reply → Type 0
IsInstallationReply false events extent vsn list f ps a = a ≡ installed_reply events extent vsn list f ps
IsInstallationReply true events extent vsn list f ps a =
    (b : Reply) × BootsStore (store_after_restart events extent vsn) b × (a ≡ restarted_reply vsn list f ps b)

-- A script that fails before its point of no return changes nothing. One that fails after it leaves the node dead, without an
-- event. After one that was carried out the event is committed, or the device fails.
abbrev pub RepliesTo : Events → Extent → Processes → List ℕ → Releases → FoundForm → script.Outcome → Reply → Type 0
RepliesTo events extent ps vsn list f (refuses n c) a =
    a ≡ refusal_reply (script_refused (failure n (fails c))) (running events extent ps)
RepliesTo events extent ps vsn list f (breaks n c) a =
    a ≡ refusal_reply (must_reboot (failure n (fails c))) (dead (store_without_doubt events extent))
RepliesTo events extent ps vsn list f (ends r) a =
    let e = install_event vsn list in
    ((x : Extent) × MayReach (extent_after extent (install_size vsn list)) (releases_after (events ++ e ∷ [])) x
    × IsInstallationReply (needs_restart vsn list) events x vsn list f (behind_run r) a)
    ⊎ (a ≡ failure_reply (Some e) (dead (store_with_doubt events extent e (install_size vsn list))))

-- The instruction with this number stands after the point of no return of a script.
abbrev pub IsAfterPoint : List Instruction → ℕ → Type 0
IsAfterPoint script n =
    (front : List Instruction) × (i : Instruction) × IsInstructionAt script n front i × (still_early true front ≡ false)

-- Memory was refused to an instruction of a script after the point of no return: the node is dead, without an event.
abbrev pub BreaksForMemory : Events → Extent → FoundForm → Reply → Type 0
BreaksForMemory events extent f a =
    (n : ℕ) × IsAfterPoint f.script n
    × (a ≡ refusal_reply (must_reboot (failure n (fails no_memory))) (dead (store_without_doubt events extent)))

-- A script that isn't run is refused; one that may begin does, where the record of its event fits, and with a restart that of
-- the next boot after it.
abbrev pub RunsUnless : Events → Extent → Processes → List ℕ → Releases → FoundForm → Option Failure → Reply → Type 0
RunsUnless events extent ps vsn list f (Some why) a = a ≡ refusal_reply (script_refused why) (running events extent ps)
RunsUnless events extent ps vsn list f None a =
    (HasSpace extent (install_room vsn list)
    × (RepliesTo events extent ps vsn list f (upgrade_outcome vsn list f ps) a ⊎ BreaksForMemory events extent f a))
    ⊎ ((HasSpace extent (install_room vsn list) → ⊥) × (a ≡ refusal_reply full (running events extent ps)))

-- The list or the relups refuse the installation, or there is a script for it.
abbrev pub Installs : Events → Extent → Processes → List ℕ → Releases → Result FoundForm HandlerError → Reply → Type 0
Installs events extent ps vsn list (Err why) a = a ≡ refusal_reply (refusal_of why) (running events extent ps)
Installs events extent ps vsn list (Ok f) a = RunsUnless events extent ps vsn list f (script_failure vsn list f) a
