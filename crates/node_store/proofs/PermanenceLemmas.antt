-- An event that makes a listed release the permanent one: the list is committed, and then the start record.
use Rattle.std.proofs.Common.{◌≡◌, inl, inr, List, Some, sym, ap, ◌∙◌, subst, false, ℕ}
use Rattle.rel_disk.specs.declared.disk.Disk.{Ghosts}
use Rattle.rel_disk.specs.Moments.{HasFailed}
use Rattle.rel_files.specs.Release.{Release}
use Rattle.rel_list.specs.Event.{Event}
use Rattle.rel_list.specs.Laws.{makes_one_shot}
use Rattle.rel_list.specs.Releases.{has_one_shot, permanent, release_at}
use Rattle.rel_records.specs.Writing.{IsOfListed}
use Rattle.rel_store.specs.Layout.{slot_with}
use Rattle.rel_store.specs.State.{records_in}
use Rattle.start_record.specs.Text.{Versions, AreVersions, start_text}
use Rattle.node_store.specs.Commits.{Commits, IsAppended, Keeps, MakesPermanent}
use Rattle.node_store.specs.Start.{start_of_release}
use Rattle.node_store.specs.Image.{IsImageWithExtent, start_bytes}
use Rattle.node_store.specs.Refusals.{CommandRefused, IsStartRefusal}
use Rattle.node_store.specs.State.{disk_in, extent_in, list_in, is_dead, start_in, HasStarted, IsReady, IsSound}
use Rattle.node_command.specs.Taking.{change_size}
use Rattle.node_command.specs.declared.error.HandlerError.{HandlerError}
use Rattle.node_command.specs.declared.error.HandlerError.TheVariants.{Device, NoMemory}
use Rattle.node_store.specs.declared.node_store.NodeStore.{NodeStore}
use Rattle.node_command.proofs.CommandLemmas.{commanded_step}
use Rattle.node_store.proofs.CommandLemmas.{permanent_behind, listed_versions, unlisted}
use Rattle.node_store.proofs.Commits.{all_same, have_versions, commits_then, is_started_then, is_appended_then, fails_then}

-- it brings no release
pub brings_none : (vsn : List ℕ) (e : Event) → MakesPermanent vsn e → IsOfListed e
brings_none vsn e (inl is) = subst IsOfListed (sym is) tt
brings_none vsn e (inr is) = subst IsOfListed (sym is) tt

-- and makes no release a one-shot
pub makes_none : (vsn : List ℕ) (e : Event) → MakesPermanent vsn e → makes_one_shot e ≡ false
makes_none vsn e (inl is) = ap makes_one_shot is
makes_none vsn e (inr is) = ap makes_one_shot is

-- no start was found for it, and nothing has changed
pub no_start : {D : Type 0} (failures : D → ℕ) (h : NodeStore D) → is_dead h ≡ false → has_one_shot (list_in h) ≡ false → (vsn : List ℕ) (e : Event) → MakesPermanent vsn e → (size : ℕ) (why : HandlerError) → IsStartRefusal vsn (list_in h) why → CommandRefused failures e size h h why
no_start failures h alive free vsn e moves size NoMemory refused = (alive, all_same h)
no_start failures h alive free vsn e moves size why (none, is) = subst (CommandRefused failures e size h h) (sym is) ((alive, unlisted vsn e (list_in h) free moves none), all_same h)

-- the versions of the release that a list has at this version
abbrev pub AreOf : {D : Type 0} → NodeStore D → List ℕ → Versions → Type 0
AreOf h vsn versions = (r : Release) × (release_at vsn (list_in h) ≡ Some r) × (versions ≡ start_of_release r)

module _ {D : Type 0} (v : Ghosts D) (h : NodeStore D) (s : IsSound v.seen v.may_leave h) (alive : is_dead h ≡ false) (vsn : List ℕ) (versions : Versions) (found : AreOf h vsn versions) where
  -- they are texts of versions
  pub are_versions : AreVersions versions
  are_versions =
      let has = listed_versions vsn (list_in h) found.0 (have_versions h.store.format (records_in h.store) (list_in h) (s.ready alive).list) found.1 in
      subst AreVersions (sym found.2) (has.erts, has.own)

  -- The event was appended, and the start record is being written.
  module _ (e : Event) (moves : MakesPermanent vsn e) (mid : NodeStore D) (commits : Commits v e (change_size e (list_in h)) h mid) (appended : IsAppended v e (change_size e (list_in h)) h mid)
      (ready : IsReady v.seen v.may_leave mid) (stays : start_in v.seen mid ≡ start_in v.seen h) (reads : (d : D) → v.may_leave d (v.seen d)) (new : NodeStore D) (keeps : Keeps v (start_text versions) mid new) where
    listed : permanent (list_in mid) ≡ Some found.0
    listed = permanent_behind vsn e (list_in h) (list_in mid) moves (commanded_step e (list_in h) (list_in mid) appended.accepted) ∙ found.1

    pub moving : Commits v e (change_size e (list_in h)) h new
    moving = commits_then v h s alive e _ mid commits appended ready stays reads versions found.0 are_versions found.2 listed new keeps

    -- the device failed
    pub not_moved : HasFailed (v.failures (disk_in mid)) (v.failures (disk_in new)) → CommandRefused v.failures e (change_size e (list_in h)) h new Device
    not_moved = fails_then v h s alive e _ mid commits appended ready stays reads versions found.0 are_versions found.2 listed new keeps

    -- each crash leaves the new start record
    module _ (images : (c : List ℕ) → v.may_leave (disk_in new) c → IsImageWithExtent c (list_in new) (extent_in new) × (start_bytes c ≡ slot_with (start_text versions))) where
      pub moved_start : HasStarted v.may_leave new
      moved_start = is_started_then v h s alive e _ mid commits appended ready stays reads versions found.0 are_versions found.2 listed new keeps images

      pub is_moved : IsAppended v e (change_size e (list_in h)) h new
      is_moved = is_appended_then v h s alive e _ mid commits appended ready stays reads versions found.0 are_versions found.2 listed new keeps images
