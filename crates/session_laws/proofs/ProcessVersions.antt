-- After each reply the modules of processes have versions.
use Rattle.std.proofs.Common.{◌≡◌, inl, inr, ℕ, Bool, true, false, List, [], ◌∷◌, ◌++◌, Option, Some, None, Result, Ok, Err, refl, sym, subst}
use Rattle.std.specs.List.{AllByRecursion}
use Rattle.library.specs.Library.{IsLibrary}
use Rattle.rel_list.specs.Releases.{Bundle, Releases}
use Rattle.rel_list.specs.Event.{Event, booted, list_after, entry}
use Rattle.rel_list.specs.declared.status.Status.TheVariants.{Permanent}
use Rattle.rel_list.specs.Event.Event.{restart_installed, reboot_old as rebooting, boot as booting}
use Rattle.rel_records.proofs.CompletionLemmas.{of_applications}
use Rattle.node_store.specs.Events.{Events, StoreState, store_without_doubt}
use Rattle.node_store.specs.Image.{Extent, holds_a_store}
use Rattle.rel_unpack.specs.Refusal.{Refusal}
use Rattle.rel_unpack.specs.Source.{Source}
use Rattle.rel_unpack.specs.Unpacking.{Brought}
use Rattle.rel_unpack.proofs.BroughtLibraries.{brought_libraries}
use Rattle.node_command.specs.declared.error.HandlerError.{HandlerError}
use Rattle.node_command.specs.Files.{Brings, bundle_brought, made_size}
use Rattle.node_command.specs.Place.{own_refusal}
use Rattle.node_command.proofs.ReleaseLemmas.{free_so}
use Rattle.node_command.specs.Taking.{commanded}
use Rattle.node_processes.specs.Fresh.{fresh_processes}
use Rattle.node_processes.specs.Processes.{Processes}
use Rattle.session_input.specs.Commands.{Command}
use Rattle.session_input.specs.Commands.Command.{file, create, set_unpacked, check, install, permanent, remove, reboot_old, boot, start, releases, procs, modules, peek, call, flood, relup, quit, bad}
use Rattle.session_laws.specs.AnswerLaws.{AreFromFiles, HasVersionsAt, HasModuleVersionsAt}
use Rattle.rel_session.specs.Installation.{store_after_restart}
use Rattle.rel_session.specs.Node.{DiskState, Reply, releases_after, list_or_none}
use Rattle.rel_session.specs.Node.DiskState.{unknown_bytes, not_booted, running, dead}
use Rattle.rel_session.specs.Transition
use Rattle.rel_session.specs.Transition.Action.{answers, makes_node, changes_node, installs, reboots_node, boots_node, reports_start, calls}
use Rattle.node_processes.specs.ModuleVersions.{HaveModuleVersions}
use Rattle.node_processes.proofs.ModuleVersions.{AreWithLibraries, fresh_versions, left_versions, script_versions}
use Rattle.node_upgrade.specs.Upgrade.{site_for, upgrade_to}
use Rattle.session_laws.proofs.InstallationLemmas.{each_reply}
use Rattle.rel_session.proofs.ListLemmas.{list_after-push}
use Rattle.session_laws.proofs.Versions.{OfList, of_image, list_versions, listed_versions, stored_versions, certain_versions}

-- the place after a reply has such versions
abbrev KeepsVersions : Reply → Type 0
KeepsVersions a = HasModuleVersionsAt a.after

versions_as : (a b : Reply) → a ≡ b → KeepsVersions b → KeepsVersions a
versions_as a b is of = subst KeepsVersions (sym is) of

libraries_of : (es : Releases) → AreFromFiles es → AreWithLibraries es
libraries_of [] all = tt
libraries_of (e ∷ es) all = (all.0.1, libraries_of es all.1)

-- a node that has just booted
booted_versions : (events : Events) (list : Releases) → list_after events ≡ Some list → AreWithLibraries list → HaveModuleVersions (fresh_processes (releases_after events))
booted_versions events list after have = subst (λ o. HaveModuleVersions (fresh_processes (list_or_none o))) (sym after) (fresh_versions list have)

boots_to : (events : Events) (extent : Extent) → OfList events → (a : Reply) → Transition.AnswersBoot events extent a → KeepsVersions a
boots_to events extent all a (list, after, is) =
    let grown = list_after-push events booting list (booted list) after refl in
    versions_as a _ is (booted_versions (events ++ booting ∷ []) (booted list) grown (libraries_of (booted list) (list_versions events booting tt all (booted list) grown)))

boots_store : (s : StoreState) → HasVersionsAt (not_booted s) → (a : Reply) → Transition.BootsStore s a → KeepsVersions a
boots_store s all a (inl (events, extent, has, is)) = boots_to events extent (stored_versions s all events extent has) a is
boots_store s all a (inr (lack, inl is)) = versions_as a _ is tt
boots_store s all a (inr (lack, inr (events, extent, has, is))) = versions_as a _ is tt

boots : (p : DiskState) → HasVersionsAt p → (a : Reply) → Transition.Boots p a → KeepsVersions a
boots (unknown_bytes x) all a (inl (events, list, extent, after, image, is)) =
    let of = of_image x list image.image_of in
    boots_to events extent (λ l e. let same : list ≡ l = cc in subst AreFromFiles same of) a is
boots (unknown_bytes x) all a (inr (inl (why, refusal, is))) = versions_as a _ is tt
boots (unknown_bytes x) all a (inr (inr (lack, torn, left, is))) = versions_as a _ is tt
boots (not_booted s) all a is = boots_store s all a is
boots (running events extent ps) all a is = boots_store (store_without_doubt events extent) (certain_versions events extent all) a is
boots (dead s) all a is = boots_store s all a is

-- a commit
commits : (events : Events) (extent : Extent) (ps : Processes) (e : Event) (size : ℕ) (o : Result Releases HandlerError) (P : Extent → Reply → Type 0) → ((x : Extent) (a : Reply) → P x a → KeepsVersions a) → HaveModuleVersions ps → (a : Reply)
    → Transition.IsCommit events extent ps e size o P a → KeepsVersions a
commits events extent ps e size (Err why) P done versions a is = versions_as a _ is versions
commits events extent ps e size (Ok next) P done versions a (inl (fits, inl (x, reach, is))) = done x a is
commits events extent ps e size (Ok next) P done versions a (inl (fits, inr is)) = versions_as a _ is tt
commits events extent ps e size (Ok next) P done versions a (inr (over_it, is)) = versions_as a _ is versions

changes : (events : Events) (extent : Extent) (ps : Processes) (c : Transition.ListChange) (list : Releases) (f : Option Refusal) (o : Result Releases HandlerError) → HaveModuleVersions ps → (a : Reply)
    → Transition.RepliesToChange events extent ps c list f o a → KeepsVersions a
changes events extent ps c list (Some why) o versions a is = versions_as a _ is versions
changes events extent ps c list None o versions a is = commits events extent ps c.event (c.size list) o _ (λ x a is. versions_as a _ is versions) versions a is

reboots : (events : Events) (extent : Extent) (ps : Processes) (vsn : List ℕ) (list : Releases) (o : Result Releases HandlerError) → OfList events → HaveModuleVersions ps → (a : Reply)
    → Transition.Reboots events extent ps vsn list o a → KeepsVersions a
reboots events extent ps vsn list o all versions =
    let e = rebooting vsn in
    commits events extent ps e _ o _ (λ x a (b, done, is). versions_as a _ is (boots_store (Transition.store_after_reboot events x vsn) (certain_versions (events ++ e ∷ []) x (list_versions events e tt all)) b done)) versions

-- What is brought has libraries, where it isn't refused.
abbrev BringsLibraries : Brought → Type 0
BringsLibraries b = own_refusal b ≡ None → AllByRecursion IsLibrary b.libraries

makes_with : (x : List ℕ) (p : Bundle) (size : ℕ) (why : Option Refusal) → (why ≡ None → AllByRecursion IsLibrary p.libraries) → (a : Reply) → Transition.MakesWith x p size why a → KeepsVersions a
makes_with x p size (Some why) of a is = versions_as a _ is tt
makes_with x p size None of a (inl (fits, inr is)) = versions_as a _ is tt
makes_with x p size None of a (inl (fits, inl is)) = versions_as a _ is (fresh_versions (entry p Permanent ∷ []) (of refl, tt))
makes_with x p size None of a (inr (over_it, is)) = versions_as a _ is tt

makes_on : (x : List ℕ) (b : Brought) (there : Bool) → BringsLibraries b → (a : Reply) → Transition.MakesOn x b there a → KeepsVersions a
makes_on x b true of a is = versions_as a _ is tt
makes_on x b false of a is = makes_with x (bundle_brought b) (made_size b) (own_refusal b) of a is

makes_fails : (x : List ℕ) (p : Bundle) (why : Option Refusal) (a : Reply) → Transition.FailsToMake x p why a → KeepsVersions a
makes_fails x p (Some why) a is = versions_as a _ is tt
makes_fails x p None a (torn, kept, is) = versions_as a _ is tt

makes : (p : DiskState) (b : Brought) → BringsLibraries b → HasModuleVersionsAt p → (a : Reply) → Transition.MakesNode p b a → KeepsVersions a
makes (unknown_bytes x) b of versions a (inl is) = makes_on x b (holds_a_store x) of a is
makes (unknown_bytes x) b of versions a (inr is) = makes_fails x (bundle_brought b) (own_refusal b) a is
makes (not_booted s) b of versions a (inl is) = versions_as a _ is tt
makes (not_booted s) b of versions a (inr is) = versions_as a _ is tt
makes (running events extent ps) b of versions a is = versions_as a _ is versions
makes (dead s) b of versions a is = versions_as a _ is tt

-- An action brings libraries where it makes a node.
abbrev MakesOfLibraries : Transition.Action → Type 0
MakesOfLibraries (makes_node b) = BringsLibraries b
MakesOfLibraries does = Unit {0}

of_creation : (source : Source) (path : List ℕ) (brought : Result Brought Refusal) → Brings source path brought → MakesOfLibraries (Transition.creation brought)
of_creation source path (Err why) brings = tt
of_creation source path (Ok b) brings = λ free. of_applications b.found.release.apps b.libraries (brought_libraries source path b brings (free_so true b free)).0

of_unpacking : (brought : Result Brought Refusal) → MakesOfLibraries (Transition.unpack_action brought)
of_unpacking (Err why) = tt
of_unpacking (Ok b) = tt

of_telling : (found : Result (List ℕ) Refusal) → MakesOfLibraries (Transition.relup_telling found)
of_telling (Err why) = tt
of_telling (Ok text) = tt

of_as : (x y : Transition.Action) → x ≡ y → MakesOfLibraries y → MakesOfLibraries x
of_as x y is of = subst MakesOfLibraries (sym is) of

comes_of : (source : Source) (p : DiskState) (c : Command) (does : Transition.Action) → Transition.MeansAction source p c does → MakesOfLibraries does
comes_of source p (create path) does (found, there, is) = of_as does _ is (of_creation source path found there)
comes_of source (running events extent ps) (set_unpacked path) does (found, there, is) = of_as does _ is (of_unpacking found)
comes_of source (unknown_bytes x) (set_unpacked path) does is = of_as does _ is tt
comes_of source (not_booted s) (set_unpacked path) does is = of_as does _ is tt
comes_of source (dead s) (set_unpacked path) does is = of_as does _ is tt
comes_of source p (relup new ups downs) does (found, there, is) = of_as does _ is (of_telling found)
comes_of source p (file path f) does is = of_as does _ is tt
comes_of source p (check vsn) does is = of_as does _ is tt
comes_of source p (install vsn) does is = of_as does _ is tt
comes_of source p (permanent vsn) does is = of_as does _ is tt
comes_of source p (remove vsn) does is = of_as does _ is tt
comes_of source p (reboot_old vsn) does is = of_as does _ is tt
comes_of source p boot does is = of_as does _ is tt
comes_of source p start does is = of_as does _ is tt
comes_of source p releases does is = of_as does _ is tt
comes_of source p procs does is = of_as does _ is tt
comes_of source p modules does is = of_as does _ is tt
comes_of source p (peek app id) does is = of_as does _ is tt
comes_of source p (call app id input) does is = of_as does _ is tt
comes_of source p (flood app id input times) does is = of_as does _ is tt
comes_of source p bad does is = of_as does _ is tt
comes_of source p quit does is = absurd is

acts : (p : DiskState) (does : Transition.Action) → MakesOfLibraries does → HasVersionsAt p → HasModuleVersionsAt p → (a : Reply) → Transition.NodeReplies p does a → KeepsVersions a
acts p (answers text) of all versions a is = versions_as a _ is versions
acts p (makes_node b) of all versions a is = makes p b of versions a is
acts (running events extent ps) (changes_node c) of all versions a is = changes events extent ps c (releases_after events) (c.files (releases_after events)) (commanded c.event (releases_after events)) versions a is
acts (unknown_bytes x) (changes_node c) of all versions a is = versions_as a _ is tt
acts (not_booted s) (changes_node c) of all versions a is = versions_as a _ is tt
acts (dead s) (changes_node c) of all versions a is = versions_as a _ is tt
acts (running events extent ps) (installs vsn) of all versions a is =
    let list = releases_after events in
    each_reply KeepsVersions events extent ps vsn list (record {
      listed = λ why. versions;
      unmatched = versions;
      not_run = λ f. versions;
      over_full = versions;
      broken = λ f. tt;
      done_so = λ f r reach found comes.
          script_versions (site_for (upgrade_to vsn list f) ps.modules) ps f.script r (libraries_of list (listed_versions events all)) refl versions comes;
      restarted_so = λ f r reach b found comes boot.
          boots_store (store_after_restart events reach vsn) (certain_versions (events ++ restart_installed vsn ∷ []) reach (list_versions events (restart_installed vsn) tt all)) b boot;
      doubted_so = λ f restart found. tt;
    }) a is
acts (unknown_bytes x) (installs vsn) of all versions a is = versions_as a _ is tt
acts (not_booted s) (installs vsn) of all versions a is = versions_as a _ is tt
acts (dead s) (installs vsn) of all versions a is = versions_as a _ is tt
acts (running events extent ps) (reboots_node vsn) of all versions a is = reboots events extent ps vsn (releases_after events) (commanded (rebooting vsn) (releases_after events)) all versions a is
acts (unknown_bytes x) (reboots_node vsn) of all versions a is = versions_as a _ is tt
acts (not_booted s) (reboots_node vsn) of all versions a is = versions_as a _ is tt
acts (dead s) (reboots_node vsn) of all versions a is = versions_as a _ is tt
acts p boots_node of all versions a is = boots p all a is
acts (running events extent ps) reports_start of all versions a (inl is) = versions_as a _ is versions
acts (running events extent ps) reports_start of all versions a (inr is) = versions_as a _ is tt
acts (unknown_bytes x) reports_start of all versions a is = versions_as a _ is tt
acts (not_booted s) reports_start of all versions a is = versions_as a _ is tt
acts (dead s) reports_start of all versions a is = versions_as a _ is tt
acts (running events extent ps) (calls c) of all versions a is = versions_as a _ is (left_versions c ps versions)
acts (unknown_bytes x) (calls c) of all versions a is = versions_as a _ is tt
acts (not_booted s) (calls c) of all versions a is = versions_as a _ is tt
acts (dead s) (calls c) of all versions a is = versions_as a _ is tt

pub keeps_versions_of_modules : (source : Source) (p : DiskState) (c : Command) (a : Reply) → HasVersionsAt p → HasModuleVersionsAt p → Transition.Transition source p c a → HasModuleVersionsAt a.after
keeps_versions_of_modules source p c a all versions (does, inl comes, is) = acts p does (comes_of source p c does comes) all versions a is
keeps_versions_of_modules source p c a all versions (does, inr (line, told, answered), is) = acts p does (of_as does _ answered tt) all versions a is
