-- What a call answers that commits an event, from what its parts leave.
use Rattle.std.proofs.Common.{◌≡◌, inl, inr, ℕ, Bool, true, false, List, Result, Ok, Err, refl, sym, ap, ◌∙◌, subst, true≢false}
use Rattle.std.specs.Prelude.{IsErr, IsErrAnd}
use Rattle.rel_disk.specs.declared.disk.Disk.{Ghosts}
use Rattle.rel_disk.specs.Moments.{HasFailed}
use Rattle.rel_list.specs.Event.{Event}
use Rattle.rel_list.specs.Event.Event.{made, unpacked, removed, boot, installed, restart_installed, made_permanent, reboot_old}
use Rattle.rel_list.specs.Laws.{leaves_permanent, makes_one_shot}
use Rattle.node_command.specs.declared.error.HandlerError.{HandlerError}
use Rattle.node_command.specs.declared.error.HandlerError.TheVariants.{Dead, Device, Exists, Full, NoMemory}
use Rattle.node_store.specs.Commands.{AppendsEvent, CommitsEvent, asks_for_boot}
use Rattle.node_command.specs.Taking.{commanded}
use Rattle.node_store.specs.Commits.{Commits, Compacts, IsCompacted, MakesPermanent}
use Rattle.node_store.specs.Image.{extent_after, HasSpace}
use Rattle.node_store.specs.Refusals.{CommandRefused}
use Rattle.node_store.specs.State.{disk_in, format_in, list_in, start_in, IsSame, IsSound}
use Rattle.node_store.specs.declared.node_store.NodeStore.{NodeStore}
use Rattle.node_store.proofs.Commits.{commits_behind, lost_commits, revived, unchanged}
use Rattle.node_store.proofs.CompactionLemmas.{commits_alive, commits_compacting, fails_compacting, is_done_with, right_still, with_dead, HasCommitted}

-- A call that answers this error appended no record.
pub refused_append : {D X : Type 0} (v : Ghosts D) (e : Event) (size : ℕ) (old new : NodeStore D) → Commits v e size old new → format_in new ≡ format_in old
    → (r : Result X HandlerError) (why : HandlerError) → IsErr r × IsErrAnd r (λ f. f ≡ why) → CommandRefused v.failures e size old new why → AppendsEvent v e size r old new
refused_append v e size old new commits format (Ok x) why is refused = absurd is.1
refused_append v e size old new commits format (Err f) why is refused =
    record { commits = commits; appended = tt; ready = tt; dead = tt; format = format; refused = subst (CommandRefused v.failures e size old new) (sym is.1) refused }

-- A command that answers this error committed nothing, or the device failed.
pub refused_command : {D X : Type 0} (v : Ghosts D) (e : Event) (size : ℕ) (old new : NodeStore D) → Commits v e size old new → format_in new ≡ format_in old
    → (r : Result X HandlerError) (why : HandlerError) → IsErr r × IsErrAnd r (λ f. f ≡ why) → CommandRefused v.failures e size old new why → CommitsEvent v e size r old new
refused_command v e size old new commits format (Ok x) why is refused = absurd is.1
refused_command v e size old new commits format (Err f) why is refused =
    record { commits = commits; done = tt; started = tt; start = tt; dead = tt; format = format; refused = subst (CommandRefused v.failures e size old new) (sym is.1) refused }

-- A command was refused before it did anything.
pub refused_at_once : {D X : Type 0} (v : Ghosts D) (h : NodeStore D) → IsSound v.seen v.may_leave h → ((c : List ℕ) → v.left_since (disk_in h) (v.moment (disk_in h)) c → v.may_leave (disk_in h) c)
    → (e : Event) (size : ℕ) (r : Result X HandlerError) (why : HandlerError) → IsErr r × IsErrAnd r (λ f. f ≡ why) → CommandRefused v.failures e size h h why → CommitsEvent v e size r h h
refused_at_once v h sound only e size r why is refused = refused_command v e size h h (unchanged v h sound only e size) refl r why is refused

-- Nothing has changed in two steps.
same_then : {D : Type 0} (h mid new : NodeStore D) → IsSame h mid → IsSame mid new → IsSame h new
same_then h mid new first second =
    record { disk = second.disk ∙ first.disk; list = second.list ∙ first.list; dead = second.dead ∙ first.dead; extent = second.extent ∙ first.extent }

-- What is refused after memory alone was taken is refused so of the node before.
refused_after : {D : Type 0} (failures : D → ℕ) (e : Event) (size : ℕ) (h mid new : NodeStore D) → IsSame h mid → (why : HandlerError) → CommandRefused failures e size mid new why → CommandRefused failures e size h new why
refused_after failures e size h mid new same Dead refused = (sym same.dead ∙ refused.0, same_then h mid new same refused.1)
refused_after failures e size h mid new same Full refused =
    ((sym same.dead ∙ refused.0.0, (refused.0.1.0, subst (λ l. commanded e l ≡ Ok refused.0.1.0) same.list refused.0.1.1)), (λ fits. refused.1 (subst (λ x. HasSpace x size) (sym same.extent) fits)), same_then h mid new same refused.2)
refused_after failures e size h mid new same NoMemory refused = (sym same.dead ∙ refused.0, same_then h mid new same refused.1)
refused_after failures e size h mid new same Device refused = (
  (sym same.dead ∙ refused.0.0, (refused.0.1.0, subst (λ l. commanded e l ≡ Ok refused.0.1.0) same.list refused.0.1.1), subst (λ x. HasSpace x size) same.extent refused.0.2),
  subst (λ d. HasFailed (failures d) (failures (disk_in new))) same.disk refused.1,
  refused.2,
)
refused_after failures e size h mid new same Exists refused = absurd refused
refused_after failures e size h mid new same why refused = ((sym same.dead ∙ refused.0.0, subst (λ l. commanded e l ≡ Err why) same.list refused.0.1), same_then h mid new same refused.1)

-- A call appends a record after memory alone was taken.
pub appends_after : {D X : Type 0} (v : Ghosts D) (e : Event) (size : ℕ) (h mid new : NodeStore D) → IsSame h mid → format_in mid ≡ format_in h → (r : Result X HandlerError) → AppendsEvent v e size r mid new → AppendsEvent v e size r h new
appends_after v e size h mid new same format (Ok x) a =
    record {
      commits = commits_behind v h mid same e size new a.commits;
      appended = record {
        worked = sym same.dead ∙ a.appended.worked;
        accepted = subst (λ l. commanded e l ≡ Ok (list_in new)) same.list a.appended.accepted;
        acknowledged = a.appended.acknowledged;
        fits = subst (λ x. HasSpace x size) same.extent a.appended.fits;
        reaches = a.appended.reaches ∙ ap (λ x. extent_after x size) same.extent;
      };
      ready = a.ready;
      dead = a.dead;
      format = a.format ∙ format;
      refused = tt;
    }
appends_after v e size h mid new same format (Err why) a =
    record {
      commits = commits_behind v h mid same e size new a.commits;
      appended = tt;
      ready = tt;
      dead = tt;
      format = a.format ∙ format;
      refused = refused_after v.failures e size h mid new same why a.refused;
    }

-- An event that makes no one-shot and leaves the permanent release asks for no boot.
pub asks_for_none : (e : Event) → makes_one_shot e ≡ false → leaves_permanent e ≡ true → asks_for_boot e ≡ false
asks_for_none (made p) other leaves = refl
asks_for_none (unpacked p) other leaves = refl
asks_for_none (removed vsn) other leaves = refl
asks_for_none boot other leaves = refl
asks_for_none (installed vsn) other leaves = refl
asks_for_none (restart_installed vsn) other leaves = absurd (true≢false other)
asks_for_none (made_permanent vsn) other leaves = refl
asks_for_none (reboot_old vsn) other leaves = absurd (true≢false (sym leaves))

-- An event that makes a release the permanent one doesn't leave the permanent release.
pub moves_start : (vsn : List ℕ) (e : Event) → MakesPermanent vsn e → leaves_permanent e ≡ false
moves_start vsn e (inl is) = ap leaves_permanent is
moves_start vsn e (inr is) = ap leaves_permanent is

-- A command committed its event, and then had the store compacted.
module _ {D X : Type 0} (v : Ghosts D) (old : NodeStore D) (e : Event) (size : ℕ) (mid : NodeStore D) (committed : HasCommitted v e size old mid) (reads : (d : D) → v.may_leave d (v.seen d)) (new : NodeStore D) (compacts : Compacts v mid new) (format : format_in new ≡ format_in old) where
  -- The device failed in the compaction.
  pub failed_command : (r : Result X HandlerError) (why : HandlerError) → IsErr r × IsErrAnd r (λ f. f ≡ why) → why ≡ Device → HasFailed (v.failures (disk_in mid)) (v.failures (disk_in new)) → CommitsEvent v e size r old new
  failed_command r why is device failed =
      refused_command v e size old new (commits_compacting v old e size mid committed reads new compacts) format r why is (fails_compacting v old e size mid committed reads new compacts why device failed)

  module _ (done : IsCompacted v mid new) (start : leaves_permanent e ≡ true → start_in v.seen mid ≡ start_in v.seen old) (x : X) where
    -- The node works again.
    pub done_command : makes_one_shot e ≡ false → asks_for_boot e ≡ false → CommitsEvent v e size (Ok x) old (revived new)
    done_command other none =
        record {
          commits = commits_alive v old e size mid committed reads new compacts done other;
          done = is_done_with v old e size mid committed reads new compacts done false;
          started = right_still v old e size mid committed reads new compacts done;
          start = λ leaves. done.start ∙ start leaves;
          dead = sym none;
          format = format;
          refused = tt;
        }

    -- The node works again, or is dead where the command asks for a boot.
    pub settled_command : makes_one_shot e ≡ false → (dead : Bool) → dead ≡ asks_for_boot e → CommitsEvent v e size (Ok x) old (with_dead new dead)
    settled_command other false is = done_command other (sym is)
    settled_command other true is =
        record {
          commits = lost_commits v e size old new (commits_compacting v old e size mid committed reads new compacts);
          done = is_done_with v old e size mid committed reads new compacts done true;
          started = right_still v old e size mid committed reads new compacts done;
          start = λ leaves. done.start ∙ start leaves;
          dead = is;
          format = format;
          refused = tt;
        }
