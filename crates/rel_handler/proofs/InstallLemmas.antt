-- What an installation owes, wherever it ends.
use Rattle.std.proofs.Common.{◌≡◌, inl, inr, ℕ, ◌+◌, Bool, true, false, List, Option, Some, None, Result, Ok, Err, refl, sym, ap, subst, ◌∙◌, arith, if◌then◌else◌}
use Rattle.rel_disk.specs.declared.disk.Disk.{Ghosts}
use Rattle.rel_list.specs.declared.fault.ListError.{ListError}
use Rattle.rel_list.specs.declared.fault.ListError.TheVariants as of_list
use Rattle.rel_list.specs.Event.{Event, list_restarted, may_be_installed}
use Rattle.rel_list.specs.Event.Event.{installed, restart_installed}
use Rattle.rel_list.specs.Laws.{leaves_permanent, makes_one_shot}
use Rattle.rel_list.specs.Refusal.{brings_release, refusal}
use Rattle.rel_list.specs.Releases.{Releases, has_current, has_one_shot, status_of}
use Rattle.rel_list.proofs.OwnRules.{own_of_step}
use Rattle.rel_records.specs.Format.{writes_one_shot}
use Rattle.rel_records.specs.Writing.{IsOfListed, record_of}
use Rattle.relup_file.specs.Script.{restarts}
use Rattle.relup_file.specs.Search.{FoundForm}
use Rattle.node_command.specs.Installing.{installation, script_to, unless_listed_refusal}
use Rattle.node_command.specs.Taking.{change_size, commanded}
use Rattle.node_command.specs.declared.error.HandlerError.{HandlerError}
use Rattle.node_command.specs.declared.error.HandlerError.TheVariants.{Dead, Device, Full, NoMemory}
use Rattle.node_command.proofs.CommandLemmas.{list_allows}
use Rattle.node_upgrade.specs.declared.error.InstallError.{InstallError}
use Rattle.node_upgrade.specs.declared.error.InstallError.TheVariants.{Command, Refused, MustReboot}
use Rattle.node_upgrade.specs.Running.{IsUntouched, NodeState, RunRefused}
use Rattle.node_upgrade.specs.Upgrade.{IsNoUpgrade, IsUpgrade, UpgradeForm}
use Rattle.node_store.specs.Image.{boot_size, Extent, extent_after, HasSpace, LeavesBootSpace}
use Rattle.node_store.specs.Compaction.{MayReach}
use Rattle.rel_handler.specs.Installing.{InstallRefused, ends_with_restart, install_event, install_room, install_size, installs_one_shot, installation_event, must_boot, needs_restart, room_behind}
use Rattle.node_store.specs.Commits.{Commits, IsDone}
use Rattle.node_store.specs.Refusals.{HasNoRoom}
use Rattle.node_store.specs.State.{extent_in, is_dead, list_in, IsSame}
use Rattle.node_store.specs.declared.node_store.NodeStore.{NodeStore}
use Rattle.node_store.proofs.Commits.{all_same, commits_behind, lost_commits, revived_is_sound}
use Rattle.node_store.proofs.CompactionLemmas.{with_dead}
use Rattle.node_store.proofs.Images.{leaves_boot_space}
use Rattle.rel_files.proofs.Options.{passed}

-- An installation has these refusals.
abbrev IsOfInstallation : HandlerError → Type 0
IsOfInstallation Dead = ⊥
IsOfInstallation Full = ⊥
IsOfInstallation Device = ⊥
IsOfInstallation why = Unit {0}

abbrev IsAnswer : Result FoundForm HandlerError → Type 0
IsAnswer (Ok f) = Unit {0}
IsAnswer (Err why) = IsOfInstallation why

is_answer : (o : Option ListError) (found : Option FoundForm) → IsAnswer (unless_listed_refusal o found)
is_answer None None = tt
is_answer None (Some f) = tt
is_answer (Some of_list.NoSuchRelease) found = tt
is_answer (Some of_list.ExistingRelease) found = tt
is_answer (Some of_list.LibDiffers) found = tt
is_answer (Some of_list.AlreadyInstalled) found = tt
is_answer (Some (of_list.BadStatus s)) found = tt
is_answer (Some of_list.Permanent) found = tt
is_answer (Some of_list.Running) found = tt
is_answer (Some of_list.NoMemory) found = tt

-- Where a release has a script to be installed by, the list allows its installation.
pub script_allows : (vsn : List ℕ) (es : Releases) (f : FoundForm) → installation vsn es ≡ Ok f → refusal (installed vsn) es ≡ None
script_allows vsn es f is = go (refusal (installed vsn) es) is
  where
    go : (o : Option ListError) → unless_listed_refusal o (script_to vsn es) ≡ Ok f → o ≡ None
    go None e = refl
    go (Some why) e = absurd cc

-- Whether its script ends with a restart, its event is allowed where an installation is.
event_allowed : (restarts : Bool) (vsn : List ℕ) (es : Releases) → refusal (installed vsn) es ≡ None → refusal (installation_event restarts vsn) es ≡ None
event_allowed true vsn es allowed = allowed
event_allowed false vsn es allowed = allowed

event_of_listed : (restarts : Bool) (vsn : List ℕ) → IsOfListed (installation_event restarts vsn)
event_of_listed true vsn = tt
event_of_listed false vsn = tt

pub event_stays : (restarts : Bool) (vsn : List ℕ) → leaves_permanent (installation_event restarts vsn) ≡ true
event_stays true vsn = refl
event_stays false vsn = refl

pub event_brings_none : (restarts : Bool) (vsn : List ℕ) → brings_release (installation_event restarts vsn) ≡ false
event_brings_none true vsn = refl
event_brings_none false vsn = refl

pub event_makes_one_shot : (restarts : Bool) (vsn : List ℕ) → makes_one_shot (installation_event restarts vsn) ≡ restarts
event_makes_one_shot true vsn = refl
event_makes_one_shot false vsn = refl

pub installation_is_commanded : (restarts : Bool) (vsn : List ℕ) (es : Releases) (f : FoundForm) → installation vsn es ≡ Ok f → (next : Releases) × (commanded (installation_event restarts vsn) es ≡ Ok next)
installation_is_commanded restarts vsn es f is = list_allows (installation_event restarts vsn) es (event_of_listed restarts vsn) (event_allowed restarts vsn es (script_allows vsn es f is))

-- Where the bytes of its record's body and those after it fit, there is room for the next boot.
pub room_left : (restarts : Bool) (vsn : List ℕ) (es : Releases) (x : Extent) (size : ℕ) → HasSpace x (size + room_behind restarts vsn es) → LeavesBootSpace (installation_event restarts vsn) size x es
room_left false vsn es x size fits = leaves_boot_space (installed vsn) refl size x es
room_left true vsn es x size fits = λ next is one.
    let (may, made) = passed (may_be_installed (has_current es) (status_of vsn es)) (Some (list_restarted vsn es)) next (own_of_step (restart_installed vsn) es next is).1 in
    let same : list_restarted vsn es ≡ next = cc in
    let leaves : has_one_shot (list_restarted vsn es) ≡ true = ap has_one_shot same ∙ one in
    let (short, ends) = subst (λ b. HasSpace x (size + (if b then 5 + boot_size (list_restarted vsn es) else 0))) leaves fits in
    subst (λ l. HasSpace (extent_after x size) (boot_size l)) same (omega (arith, short), omega (arith, ends))

pub room_for_body : (x : Extent) (size behind : ℕ) → HasSpace x (size + behind) → HasSpace x size
room_for_body x size behind (short, ends) = (omega (arith, short), omega (arith, ends))

-- What is appended after a script is what its installation owes.
module _ (vsn : List ℕ) (es : Releases) (f : FoundForm) (found : installation vsn es ≡ Ok f) (asks : Bool) (reported : asks ≡ restarts f.script) where
  reported_so : asks ≡ needs_restart vsn es
  reported_so = reported ∙ sym (ap ends_with_restart found)

  pub event_reported : (event : Event) → event ≡ installation_event asks vsn → event ≡ install_event vsn es
  event_reported event is = is ∙ ap (λ b. installation_event b vsn) reported_so

  pub size_reported : (size : ℕ) → size ≡ change_size (installation_event asks vsn) es → size ≡ install_size vsn es
  size_reported size is = is ∙ ap (λ b. change_size (installation_event b vsn) es) reported_so

  pub room_reported : (size room : ℕ) → size ≡ change_size (installation_event asks vsn) es → room ≡ room_behind asks vsn es → size + room ≡ install_room vsn es
  room_reported size room is room_is = ap (λ n. n + room) (size_reported size is) ∙ ap (λ n. install_size vsn es + n) (room_is ∙ ap (λ b. room_behind b vsn es) reported_so)

  pub written_reported : (event : Event) → event ≡ installation_event asks vsn → writes_one_shot (record_of event es) ≡ installs_one_shot vsn es
  written_reported event is = ap (λ e. writes_one_shot (record_of e es)) (event_reported event is)

  pub dead_reported : (event : Event) → event ≡ installation_event asks vsn → makes_one_shot event ≡ needs_restart vsn es
  dead_reported event is = ap makes_one_shot is ∙ (event_makes_one_shot asks vsn ∙ reported_so)

module _ {D : Type 0} (failures : D → ℕ) (vsn : List ℕ) (h : NodeStore D) (alive : is_dead h ≡ false) where
  -- there is no script that may begin
  pub no_upgrade : (n : NodeState) (error : InstallError) → IsUntouched n n → IsNoUpgrade vsn (list_in h) error → InstallRefused failures vsn h h n n error
  no_upgrade n (Command why) same barred = by_why why (subst IsAnswer barred (is_answer (refusal (installed vsn) (list_in h)) (script_to vsn (list_in h)))) barred
    where
      by_why : (why : HandlerError) → IsOfInstallation why → installation vsn (list_in h) ≡ Err why → InstallRefused failures vsn h h n n (Command why)
      by_why Dead of is = absurd of
      by_why Full of is = absurd of
      by_why Device of is = absurd of
      by_why NoMemory of is = (alive, inl refl, (all_same h, same))
      by_why why of is = (alive, is, (all_same h, same))
  no_upgrade n (Refused f) same barred = (alive, inl barred, (all_same h, same))
  no_upgrade n (MustReboot f) same barred = absurd barred

  module _ (mid : NodeStore D) (same : IsSame h mid) (u : UpgradeForm) (is : IsUpgrade vsn (list_in h) u) where
    -- There is no room for the record of the installation.
    pub no_room_for : (n : NodeState) (why : HandlerError) → IsUntouched n n → HasNoRoom (extent_in h) (install_room vsn (list_in h)) why → InstallRefused failures vsn h mid n n (Command why)
    no_room_for n Full untouched lacks = (alive, (u, is), lacks, (same, untouched))
    no_room_for n NoMemory untouched lacks = (alive, inl refl, (same, untouched))
    no_room_for n why untouched lacks = absurd lacks

    -- The script isn't carried out to its end.
    pub not_run : (old new : NodeState) (error : InstallError) → HasSpace (extent_in h) (install_room vsn (list_in h)) → RunRefused u old new error
        → InstallRefused failures vsn h (record { store = mid.store; list = mid.list; dead = must_boot error }) old new error
    not_run old new (Command NoMemory) space (lacks, untouched) =
        (alive, inr (u, (is, space), lacks), (record { disk = same.disk; list = same.list; dead = sym alive; extent = same.extent }, untouched))
    not_run old new (Command why) space r = absurd r
    not_run old new (Refused f) space r = (alive, inr (u, (is, space), r), (record { disk = same.disk; list = same.list; dead = sym alive; extent = same.extent }, r.4))
    not_run old new (MustReboot f) space r = (alive, (u, (is, space), r), record { disk = same.disk; list = same.list; extent = same.extent; dead = refl })

-- A script that is not carried out leaves what was committed, where its disk wasn't written.
pub not_run_commits : {D : Type 0} (v : Ghosts D) (e : Event) (size : ℕ) (h mid : NodeStore D) (dead : Bool) → is_dead mid ≡ false → Commits v e size h mid → Commits v e size h (with_dead mid dead)
not_run_commits v e size h mid true alive c = lost_commits v e size h mid c
not_run_commits v e size h mid false alive c = record { sound = revived_is_sound v mid (c.sound.ready alive) (c.sound.started alive) (c.sound.free alive); any_moment = c.any_moment; counted = c.counted }

-- Its event is committed after the script: it is that of the release that was asked for.
module _ {D : Type 0} (v : Ghosts D) (h mid w : NodeStore D) (same : IsSame h mid) (e event : Event) (is : e ≡ event) (size size' : ℕ) (long : size ≡ size') where
  pub committed : Commits v e size mid w → Commits v event size' h w
  committed c = subst (λ f. Commits v f size' h w) is (subst (λ n. Commits v e n h w) long (commits_behind v h mid same e size w c))

  pub done_behind : IsDone v e size mid w → IsDone v event size' h w
  done_behind d =
      subst (λ f. IsDone v f size' h w) is
      (subst (λ n. IsDone v e n h w) long (record {
        worked = sym same.dead ∙ d.worked;
        accepted = ap (commanded e) (sym same.list) ∙ d.accepted;
        acknowledged = d.acknowledged;
        fits = subst (λ x. HasSpace x size) same.extent d.fits;
        reaches = subst (λ x. MayReach (extent_after x size) (list_in w) (extent_in w)) same.extent d.reaches;
      }))
