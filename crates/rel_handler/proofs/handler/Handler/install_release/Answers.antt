use Rattle.std.proofs.Common.{◌≡◌, ◌+◌, Ok, inl, length, refl, sym, ap, subst, ◌∙◌}
use Rattle.rel_disk.specs.Moments.{HasFailed}
use Rattle.rel_list.specs.Event.Event.{installed}
use Rattle.rel_list.specs.Laws.{leaves_permanent}
use Rattle.rel_list.specs.Refusal.{brings_release}
use Rattle.rel_list.specs.Releases.{Releases}
use Rattle.rel_store.specs.State.{records_in}
use Rattle.loaded_modules.specs.Loaded.{listed_in}
use Rattle.node_command.specs.Taking.{change_size, commanded}
use Rattle.node_command.specs.declared.error.HandlerError.TheVariants.{NoMemory}
use Rattle.node_command.proofs.Refusals.{refuses_with}
use Rattle.node_upgrade.specs.declared.error.InstallError.TheVariants.{Command}
use Rattle.node_upgrade.specs.InMemory.{upgrade_of}
use Rattle.node_upgrade.specs.Running.{NodeState, state}
use Rattle.node_upgrade.proofs.RunLemmas.{nothing_done}
use Rattle.node_store.specs.declared.node_store.NodeStore.{NodeStore}
use Rattle.node_store.specs.Commits.{IsRecordFor}
use Rattle.node_store.specs.Image.{HasSpace, LeavesBootSpace, start_bytes}
use Rattle.rel_handler.specs.Installing.{InstallRefused, install_event, install_size, installation_event}
use Rattle.node_store.specs.Refusals.{HasNoRoom}
use Rattle.node_store.specs.State.{disk_in, extent_in, list_in, store_extent}
use Rattle.node_store.proofs.Commits.{all_same, extent_kept, have_versions, rested, same_with, unchanged}
use Rattle.node_store.proofs.CompactionLemmas.{with_dead}
use Rattle.rel_handler.proofs.InstallLemmas.{committed, dead_reported, done_behind, event_brings_none, event_stays, event_reported, written_reported, installation_is_commanded, no_room_for, no_upgrade, not_run, not_run_commits, room_for_body, room_left, room_reported, script_allows, size_reported}
use Rattle.rel_handler.proofs.handler.Handler.install_release.Goals as goal

-- there is no script that may begin
pub returns-in_err-upgrade-clause-refused : goal.returns-in_err-upgrade-clause-refused
returns-in_err-upgrade-clause-refused g c =
    rw (← c.self.view_is)
    (let h = c.self.inside.node in
    let n : NodeState = state c.args.seat.now.view c.args.tree.now (listed_in c.args.loaded.now) in
    refuses_with (InstallRefused g.D.Disk.failures c.args.vsn.now h h n n) c.from_residual.result c.in_err-upgrade.field-0.0 c.from_residual.ensures
    (no_upgrade g.D.Disk.failures c.args.vsn.now h c.if-self.false n c.in_err-upgrade.field-0.0 (nothing_done n c.requires.free) c.in_err-upgrade.ensures.refused))

pub returns-in_err-upgrade-clause-commits : goal.returns-in_err-upgrade-clause-commits
returns-in_err-upgrade-clause-commits g c =
    rw (← c.self.view_is)
    (let es = list_in c.self.inside.node in
    unchanged g.D.Disk c.self.inside.node (rw (← c.self.view_is) at c.requires.sound) (g.met.D.Disk.only_now _) (install_event c.args.vsn.now es) (install_size c.args.vsn.now es))

-- no memory is left before the script
pub returns-in_err-event-clause-commits : goal.returns-in_err-event-clause-commits
returns-in_err-event-clause-commits g c =
    rw (← c.self.view_is)
    (let es = list_in c.self.inside.node in
    unchanged g.D.Disk c.self.inside.node (rw (← c.self.view_is) at c.requires.sound) (g.met.D.Disk.only_now _) (install_event c.args.vsn.now es) (install_size c.args.vsn.now es))

pub returns-in_err-event-clause-refused : goal.returns-in_err-event-clause-refused
returns-in_err-event-clause-refused g c =
    rw (← c.self.view_is)
    (let h = c.self.inside.node in
    let n : NodeState = state c.args.seat.now.view c.args.tree.now (listed_in c.args.loaded.now) in
    refuses_with (InstallRefused g.D.Disk.failures c.args.vsn.now h h n n) c.from_residual-in_err-event.result (Command NoMemory) c.from_residual-in_err-event.ensures
    (c.if-self.false, inl refl, (all_same h, nothing_done n c.requires.free)))

pub of-requires-clause-allowed : goal.of-requires-clause-allowed
of-requires-clause-allowed g c = script_allows c.args.vsn.now (list_in c.self.inside.node) (upgrade_of c.in_ok-upgrade.upgrade).found c.in_ok-upgrade.ensures.found.found

pub of-requires-clause-versions : goal.of-requires-clause-versions
of-requires-clause-versions g c = have_versions c.self.inside.node.store.format (records_in c.self.inside.node.store) (list_in c.self.inside.node) ((rw (← c.self.view_is) at c.requires.sound).ready c.if-self.false).list

pub make_room-requires-clause-works : goal.make_room-requires-clause-works
make_room-requires-clause-works g c = ((rw (← c.self.view_is) at c.requires.sound).ready c.if-self.false).store.works

-- There is no room for the record of the installation and that of the next boot.
pub returns-in_err-make_room-clause-commits : goal.returns-in_err-make_room-clause-commits
returns-in_err-make_room-clause-commits g c =
    rw (← c.self.view_is)
    (let h = c.self.inside.node in
    rested g.D.Disk h (rw (← c.self.view_is) at c.requires.sound) (g.met.D.Disk.only_now _) (install_event c.args.vsn.now (list_in h)) (install_size c.args.vsn.now (list_in h)) c.make_room.new.store c.make_room.ensures.sound c.make_room.ensures.kept)

pub returns-in_err-make_room-clause-refused : goal.returns-in_err-make_room-clause-refused
returns-in_err-make_room-clause-refused g c =
    rw (← c.self.view_is)
    (let h = c.self.inside.node in
    let n : NodeState = state c.args.seat.now.view c.args.tree.now (listed_in c.args.loaded.now) in
    let mid : NodeStore _ = record { store = c.make_room.new.store; list = h.list; dead = h.dead } in
    let u = upgrade_of c.in_ok-upgrade.upgrade in
    let why = c.in_err-make_room.field-0.0 in
    let size : length c.as_str-text.result.now ≡ change_size (installation_event c.restarts.result c.args.vsn.now) (list_in h) = ap length c.as_str-text.ensures.value ∙ c.in_ok-event.ensures.size in
    let room = room_reported c.args.vsn.now (list_in h) u.found c.in_ok-upgrade.ensures.found.found c.restarts.result c.restarts.ensures _ c.in_ok-event.field-0.room size c.in_ok-event.ensures.room in
    refuses_with (InstallRefused g.D.Disk.failures c.args.vsn.now h mid n n) c.from_residual-in_err-make_room.result (Command why) c.from_residual-in_err-make_room.ensures
    (no_room_for g.D.Disk.failures c.args.vsn.now h c.if-self.false mid (same_with h c.make_room.new.store c.make_room.ensures.kept) u c.in_ok-upgrade.ensures.found n why
    (nothing_done n c.requires.free) (subst (λ size. HasNoRoom (extent_in h) size why) room c.in_err-make_room.ensures.refused)))

-- the event may be committed
pub commit_installation-requires-clause-sound : goal.commit_installation-requires-clause-sound
commit_installation-requires-clause-sound g c =
    let h = c.self.inside.node in
    (rested g.D.Disk h (rw (← c.self.view_is) at c.requires.sound) (g.met.D.Disk.only_now _) (installed c.args.vsn.now) 0 c.make_room.new.store c.make_room.ensures.sound c.make_room.ensures.kept).sound

pub commit_installation-requires-clause-allowed : goal.commit_installation-requires-clause-allowed
commit_installation-requires-clause-allowed g c =
    let es = list_in c.self.inside.node in (
      c.if-self.false,
      subst (λ e. (next : Releases) × (commanded e es ≡ Ok next)) (sym c.in_ok-event.ensures.event)
          (installation_is_commanded c.restarts.result c.args.vsn.now es (upgrade_of c.in_ok-upgrade.upgrade).found c.in_ok-upgrade.ensures.found.found),
    )

pub commit_installation-requires-clause-reported : goal.commit_installation-requires-clause-reported
commit_installation-requires-clause-reported g c =
    let es = list_in c.self.inside.node in
    subst (λ e. IsRecordFor c.as_str-text.result.now e es) (sym c.in_ok-event.ensures.event)
    (subst (λ b. IsRecordFor b (installation_event c.restarts.result c.args.vsn.now) es) (sym c.as_str-text.ensures.value) c.in_ok-event.ensures.reported)

pub commit_installation-requires-clause-behind : goal.commit_installation-requires-clause-behind
commit_installation-requires-clause-behind g c =
    let es = list_in c.self.inside.node in
    let x = store_extent c.make_room.new.store in
    let size = length c.as_str-text.result.now in
    let space = subst (λ y. HasSpace y (size + c.in_ok-event.field-0.room)) (sym (extent_kept c.self.inside.node.store c.make_room.new.store c.make_room.ensures.kept)) c.in_ok-make_room.ensures.space in
    subst (λ e. LeavesBootSpace e size x es) (sym c.in_ok-event.ensures.event)
    (room_left c.restarts.result c.args.vsn.now es x size (subst (λ n. HasSpace x (size + n)) c.in_ok-event.ensures.room space))

pub commit_installation-requires-clause-space : goal.commit_installation-requires-clause-space
commit_installation-requires-clause-space g c =
    let size = length c.as_str-text.result.now in
    let space = subst (λ y. HasSpace y (size + c.in_ok-event.field-0.room)) (sym (extent_kept c.self.inside.node.store c.make_room.new.store c.make_room.ensures.kept)) c.in_ok-make_room.ensures.space in
    room_for_body (store_extent c.make_room.new.store) size c.in_ok-event.field-0.room space

pub commit_installation-requires-clause-stays : goal.commit_installation-requires-clause-stays
commit_installation-requires-clause-stays g c = ap leaves_permanent c.in_ok-event.ensures.event ∙ event_stays c.restarts.result c.args.vsn.now

pub commit_installation-requires-clause-listed : goal.commit_installation-requires-clause-listed
commit_installation-requires-clause-listed g c = ap brings_release c.in_ok-event.ensures.event ∙ event_brings_none c.restarts.result c.args.vsn.now

-- the device failed after the script
pub returns-in_err-commit_installation-clause-commits : goal.returns-in_err-commit_installation-clause-commits
returns-in_err-commit_installation-clause-commits g c =
    rw (← c.self.view_is)
    (let h = c.self.inside.node in
    let u = upgrade_of c.in_ok-upgrade.upgrade in
    let mid : NodeStore _ = record { store = c.make_room.new.store; list = h.list; dead = h.dead } in
    let size : length c.as_str-text.result.now ≡ change_size (installation_event c.restarts.result c.args.vsn.now) (list_in h) = ap length c.as_str-text.ensures.value ∙ c.in_ok-event.ensures.size in
    committed g.D.Disk h mid c.commit_installation.new.self (same_with h c.make_room.new.store c.make_room.ensures.kept) _ _
    (event_reported c.args.vsn.now (list_in h) u.found c.in_ok-upgrade.ensures.found.found c.restarts.result c.restarts.ensures _ c.in_ok-event.ensures.event) _ _
    (size_reported c.args.vsn.now (list_in h) u.found c.in_ok-upgrade.ensures.found.found c.restarts.result c.restarts.ensures _ size) c.in_err-commit_installation.ensures.commits)

pub returns-in_err-commit_installation-clause-refused : goal.returns-in_err-commit_installation-clause-refused
returns-in_err-commit_installation-clause-refused g c =
    rw (← c.self.view_is)
    (let h = c.self.inside.node in
    let w = c.commit_installation.new.self in
    let old : NodeState = state c.args.seat.now.view c.args.tree.now (listed_in c.args.loaded.now) in
    let new : NodeState = state c.run.new.seat.view c.run.new.tree (listed_in c.run.new.loaded) in
    let u = upgrade_of c.in_ok-upgrade.upgrade in
    let why = c.in_err-commit_installation.field-0.0 in
    let size : length c.as_str-text.result.now ≡ change_size (installation_event c.restarts.result c.args.vsn.now) (list_in h) = ap length c.as_str-text.ensures.value ∙ c.in_ok-event.ensures.size in
    let room = room_reported c.args.vsn.now (list_in h) u.found c.in_ok-upgrade.ensures.found.found c.restarts.result c.restarts.ensures _ c.in_ok-event.field-0.room size c.in_ok-event.ensures.room in
    let failed = subst (λ d. HasFailed (g.D.Disk.failures d) (g.D.Disk.failures (disk_in w))) c.make_room.ensures.kept.disk c.in_err-commit_installation.ensures.failed in
    refuses_with (InstallRefused g.D.Disk.failures c.args.vsn.now h w old new) c.from_residual-in_err-commit_installation.result (Command why) c.from_residual-in_err-commit_installation.ensures
    (subst (λ e. InstallRefused g.D.Disk.failures c.args.vsn.now h w old new (Command e)) (sym c.in_err-commit_installation.ensures.device) (
      c.if-self.false,
      (u, (c.in_ok-upgrade.ensures.found, subst (λ n. HasSpace (extent_in h) n) room c.in_ok-make_room.ensures.space), c.in-Ok.ensures.installed.finished),
      failed,
      c.in_err-commit_installation.ensures.lost,
    )))

-- The installation is done.
pub returns-clause-commits : goal.returns-clause-commits
returns-clause-commits g c =
    rw (← c.self.view_is)
    (let h = c.self.inside.node in
    let u = upgrade_of c.in_ok-upgrade.upgrade in
    let mid : NodeStore _ = record { store = c.make_room.new.store; list = h.list; dead = h.dead } in
    let size : length c.as_str-text.result.now ≡ change_size (installation_event c.restarts.result c.args.vsn.now) (list_in h) = ap length c.as_str-text.ensures.value ∙ c.in_ok-event.ensures.size in
    committed g.D.Disk h mid c.commit_installation.new.self (same_with h c.make_room.new.store c.make_room.ensures.kept) _ _
    (event_reported c.args.vsn.now (list_in h) u.found c.in_ok-upgrade.ensures.found.found c.restarts.result c.restarts.ensures _ c.in_ok-event.ensures.event) _ _
    (size_reported c.args.vsn.now (list_in h) u.found c.in_ok-upgrade.ensures.found.found c.restarts.result c.restarts.ensures _ size) c.in_ok-commit_installation.ensures.commits)

pub returns-clause-done : goal.returns-clause-done
returns-clause-done g c =
    rw (← c.self.view_is)
    (let h = c.self.inside.node in
    let u = upgrade_of c.in_ok-upgrade.upgrade in
    let mid : NodeStore _ = record { store = c.make_room.new.store; list = h.list; dead = h.dead } in
    let size : length c.as_str-text.result.now ≡ change_size (installation_event c.restarts.result c.args.vsn.now) (list_in h) = ap length c.as_str-text.ensures.value ∙ c.in_ok-event.ensures.size in
    done_behind g.D.Disk h mid c.commit_installation.new.self (same_with h c.make_room.new.store c.make_room.ensures.kept) _ _
    (event_reported c.args.vsn.now (list_in h) u.found c.in_ok-upgrade.ensures.found.found c.restarts.result c.restarts.ensures _ c.in_ok-event.ensures.event) _ _
    (size_reported c.args.vsn.now (list_in h) u.found c.in_ok-upgrade.ensures.found.found c.restarts.result c.restarts.ensures _ size) c.in_ok-commit_installation.ensures.done)

pub returns-clause-room : goal.returns-clause-room
returns-clause-room g c =
    rw (← c.self.view_is)
    (let h = c.self.inside.node in
    let u = upgrade_of c.in_ok-upgrade.upgrade in
    let size : length c.as_str-text.result.now ≡ change_size (installation_event c.restarts.result c.args.vsn.now) (list_in h) = ap length c.as_str-text.ensures.value ∙ c.in_ok-event.ensures.size in
    let room = room_reported c.args.vsn.now (list_in h) u.found c.in_ok-upgrade.ensures.found.found c.restarts.result c.restarts.ensures _ c.in_ok-event.field-0.room size c.in_ok-event.ensures.room in
    subst (λ n. HasSpace (extent_in h) n) room c.in_ok-make_room.ensures.space)

pub returns-clause-dead : goal.returns-clause-dead
returns-clause-dead g c =
    rw (← c.self.view_is)
    (c.in_ok-commit_installation.ensures.dead
    ∙ dead_reported c.args.vsn.now (list_in c.self.inside.node) (upgrade_of c.in_ok-upgrade.upgrade).found c.in_ok-upgrade.ensures.found.found c.restarts.result c.restarts.ensures _ c.in_ok-event.ensures.event)

pub returns-clause-start : goal.returns-clause-start
returns-clause-start g c =
    rw (← c.self.view_is)
    (c.in_ok-commit_installation.ensures.start ∙ ap (λ d. start_bytes (g.D.Disk.seen d)) c.make_room.ensures.kept.disk)

-- the script wasn't carried out to its end
pub returns-in-Err-clause-commits : goal.returns-in-Err-clause-commits
returns-in-Err-clause-commits g c =
    rw (← c.self.view_is)
    (let h = c.self.inside.node in
    let e = install_event c.args.vsn.now (list_in h) in
    let size = install_size c.args.vsn.now (list_in h) in
    let mid : NodeStore _ = record { store = c.make_room.new.store; list = h.list; dead = h.dead } in
    not_run_commits g.D.Disk e size h mid c.must_boot-self-inside.result c.if-self.false
    (rested g.D.Disk h (rw (← c.self.view_is) at c.requires.sound) (g.met.D.Disk.only_now _) e size c.make_room.new.store c.make_room.ensures.sound c.make_room.ensures.kept))

pub returns-in-Err-clause-refused : goal.returns-in-Err-clause-refused
returns-in-Err-clause-refused g c =
    rw (← c.self.view_is)
    (let h = c.self.inside.node in
    let mid : NodeStore _ = record { store = c.make_room.new.store; list = h.list; dead = h.dead } in
    let old : NodeState = state c.args.seat.now.view c.args.tree.now (listed_in c.args.loaded.now) in
    let new : NodeState = state c.run.new.seat.view c.run.new.tree (listed_in c.run.new.loaded) in
    let u = upgrade_of c.in_ok-upgrade.upgrade in
    let size : length c.as_str-text.result.now ≡ change_size (installation_event c.restarts.result c.args.vsn.now) (list_in h) = ap length c.as_str-text.ensures.value ∙ c.in_ok-event.ensures.size in
    let room = room_reported c.args.vsn.now (list_in h) u.found c.in_ok-upgrade.ensures.found.found c.restarts.result c.restarts.ensures _ c.in_ok-event.field-0.room size c.in_ok-event.ensures.room in
    subst (λ d. InstallRefused g.D.Disk.failures c.args.vsn.now h (with_dead mid d) old new c.in-Err.error) (sym c.must_boot-self-inside.ensures)
    (not_run g.D.Disk.failures c.args.vsn.now h c.if-self.false mid (same_with h c.make_room.new.store c.make_room.ensures.kept) u c.in_ok-upgrade.ensures.found old new c.in-Err.error
    (subst (λ n. HasSpace (extent_in h) n) room c.in_ok-make_room.ensures.space) c.in-Err.ensures.refused))

pub returns-clause-installed : goal.returns-clause-installed
returns-clause-installed g c =
    rw (← c.self.view_is)
    (upgrade_of c.in_ok-upgrade.upgrade, c.in_ok-upgrade.ensures.found, c.in-Ok.ensures.installed)

-- the format
pub returns-clause-format : goal.returns-clause-format
returns-clause-format g c =
    rw (← c.self.view_is)
    (λ writes. c.in_ok-commit_installation.ensures.format
    (written_reported c.args.vsn.now (list_in c.self.inside.node) (upgrade_of c.in_ok-upgrade.upgrade).found c.in_ok-upgrade.ensures.found.found c.restarts.result c.restarts.ensures _ c.in_ok-event.ensures.event ∙ writes))
