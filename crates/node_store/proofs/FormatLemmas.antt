-- The format of a node's store is changed before its first one-shot is written.
use Rattle.std.proofs.Common.{◌≡◌, ◌⊎◌, inl, inr, ℕ, ◌≤◌, Bool, true, false, List, length, Some, Result, Ok, Err, refl, sym, ap, ◌∙◌, subst, arith}
use Rattle.std.specs.Prelude.{is_err, IfErr, OnOk}
use Rattle.rel_disk.specs.declared.disk.Disk.{Ghosts}
use Rattle.rel_disk.specs.Moments.{LeavesOnly, HasFailed}
use Rattle.rel_disk.proofs.Moments.{joined, weakened, both}
use Rattle.rel_list.specs.Event.{Event, list_after, recorded}
use Rattle.rel_list.specs.Releases.{Releases, has_one_shot, permanent}
use Rattle.rel_records.proofs.FormatLemmas.{made_in_2}
use Rattle.rel_store.specs.Changed.{LeavesOthers, IsFormat}
use Rattle.rel_store.specs.Layout.{base_of, format_of}
use Rattle.rel_store.specs.Records.{Stands}
use Rattle.rel_store.specs.State as store
use Rattle.rel_store.specs.declared.error.StoreError.{StoreError}
use Rattle.rel_store.specs.declared.error.StoreError.TheVariants as fault
use Rattle.rel_store.specs.declared.store.Store.{Store}
use Rattle.rel_store.proofs.Moments as stores
use Rattle.node_command.specs.declared.error.HandlerError.{HandlerError}
use Rattle.node_command.specs.declared.error.HandlerError.TheVariants.{Device}
use Rattle.node_store.specs.Commits.{Commits, Reformats}
use Rattle.node_store.specs.Events.{Events, store_with_doubt, IsCrashImageOf}
use Rattle.node_store.specs.Image.{AreRecordsOf, HasBootSpace, IsImageWithExtent, IsStarted, start_bytes}
use Rattle.node_store.specs.Refusals.{CommandRefused}
use Rattle.node_store.specs.State.{disk_in, extent_in, list_in, is_dead, start_in, store_extent, IsReady, IsSound}
use Rattle.node_store.specs.declared.node_store.NodeStore.{NodeStore}
use Rattle.node_store.proofs.Commits.{dead_is_sound}
use Rattle.node_store.proofs.Images.{extent_so, image_at, in_same_format, same_extent, same_records, settled_so, started_by, stored_before}

-- a call that takes no memory and writes no record failed by the device
pub failed_by_device : {D : Type 0} (failures : D → ℕ) (old new : Store D) (r : Result (Unit {0}) StoreError) → true ≡ is_err r → IfErr r (store.Refused failures ⊥ ⊥ old new) → store.has_failed old ≡ false
    → HasFailed (failures (store.disk_in old)) (failures (store.disk_in new))
failed_by_device failures old new (Ok v) err refused works = cc err
failed_by_device failures old new (Err fault.Full) err refused works = absurd refused.0
failed_by_device failures old new (Err fault.NoMemory) err refused works = absurd refused.0
failed_by_device failures old new (Err fault.Device) err refused works = refused.0
failed_by_device failures old new (Err fault.MustReopen) err refused works = cc (works, refused.0)
failed_by_device failures old new (Err fault.NotAStore) err refused works = absurd refused
failed_by_device failures old new (Err (fault.Damaged at)) err refused works = absurd refused
failed_by_device failures old new (Err fault.Exists) err refused works = absurd refused

-- and so did a command whose event brings no release
pub failed_by_it : {D : Type 0} (failures : D → ℕ) (e : Event) (size : ℕ) (old new : NodeStore D) (r : Result (Unit {0}) HandlerError) → IfErr r (CommandRefused failures e size old new) → IfErr r (λ why. why ≡ Device)
    → IfErr r (λ _. HasFailed (failures (disk_in old)) (failures (disk_in new)))
failed_by_it failures e size old new (Ok x) refused device = tt
failed_by_it failures e size old new (Err why) refused device = (subst (CommandRefused failures e size old new) device refused).1

-- and it has left the node dead, if it does so where it succeeds
pub dead_by_it : {D : Type 0} (failures : D → ℕ) (e : Event) (size : ℕ) (old new : NodeStore D) (r : Result (Unit {0}) HandlerError) → IfErr r (CommandRefused failures e size old new) → IfErr r (λ why. why ≡ Device)
    → OnOk r (is_dead new ≡ true) → is_dead new ≡ true
dead_by_it failures e size old new (Ok x) refused device dead = dead
dead_by_it failures e size old new (Err why) refused device dead = (subst (CommandRefused failures e size old new) device refused).2

-- The records of a list are those of one in a store of format 2.
in_format_2 : (format : ℕ) (bodies : List (List ℕ)) (es : Releases) → AreRecordsOf format bodies es → AreRecordsOf 2 bodies es
in_format_2 format bodies es are = record { makes = made_in_2 format bodies (recorded es) are.makes; alone = are.alone }

module _ {D : Type 0} (v : Ghosts D) (h : NodeStore D) (ready : IsReady v.seen v.may_leave h) (new : Store D) (dead : Bool)
    (records : store.records_in new ≡ store.records_in h.store) (base : store.base_in new ≡ store.base_in h.store) (end : store.end_in new ≡ store.end_in h.store) where
  in_either_format : (c : List ℕ) → (format_of c ≡ h.store.format) ⊎ (format_of c ≡ 2) → AreRecordsOf (format_of c) (store.records_in h.store) (list_in h)
  in_either_format c (inl same) = in_same_format c h.store.format (store.records_in h.store) (list_in h) same ready.list
  in_either_format c (inr two) = in_same_format c 2 (store.records_in h.store) (list_in h) two (in_format_2 h.store.format (store.records_in h.store) (list_in h) ready.list)

  unchanged_image : (c : List ℕ) → Stands (store.records_in h.store) (start_in v.seen h) c × LeavesOthers (IsFormat h.store.format) (v.seen (disk_in h)) c → IsImageWithExtent c (list_in h) (extent_in h) × (start_bytes c ≡ start_in v.seen h)
  unchanged_image c (stands, leaves) = (
    image_at c (store.records_in h.store) (list_in h) (extent_in h) stands.records (in_either_format c (stores.format_kept_or_2 v.moment v.left_since v.seen v.may_leave h.store ready.store c leaves)) ready.room
        (extent_so c (store.records_in h.store) (base_of (v.seen (disk_in h))) stands.records (stores.base_kept_by_format v.moment v.left_since v.seen v.may_leave h.store ready.store c leaves)
        ∙ settled_so v.seen v.may_leave h.store ready.store),
    stands.start,
  )

  same_reach : store_extent new ≡ extent_in h
  same_reach = same_extent (store_extent new) (extent_in h) base end (ap (λ bodies. length bodies) records)

  -- whatever it was answered
  pub reformats : LeavesOnly v.moment v.left_since (disk_in h) (store.disk_in new) (Stands (store.records_in h.store) (start_in v.seen h))
      → LeavesOnly v.moment v.left_since (disk_in h) (store.disk_in new) (LeavesOthers (IsFormat h.store.format) (v.seen (disk_in h)))
      → v.failures (disk_in h) ≤ v.failures (store.disk_in new) → Reformats v h (record { store = new; list = h.list; dead = dead })
  reformats leaves others counted = record {
    list = refl;
    extent = same_reach;
    any_moment = weakened v.moment v.left_since (disk_in h) (store.disk_in new) _ _ unchanged_image (both v.moment v.left_since (disk_in h) (store.disk_in new) _ _ leaves others);
    counted = counted;
  }

  -- After its change to format 2 the store is ready.
  pub ready_in_format_2 : store.IsSettled v.seen v.may_leave new → store.format_in new ≡ 2 → IsReady v.seen v.may_leave (record { store = new; list = h.list; dead = dead })
  ready_in_format_2 settled two = record {
    store = settled;
    list = same_records 2 new.format (store.records_in h.store) (store.records_in new) h.list two records (in_format_2 h.store.format (store.records_in h.store) h.list ready.list);
    room = subst (λ x. HasBootSpace x h.list) (sym same_reach) ready.room;
  }

-- A command goes on after it.
module _ {D : Type 0} (v : Ghosts D) (h mid : NodeStore D) (changed : Reformats v h mid) (s : IsSound v.seen v.may_leave h) (alive : is_dead h ≡ false) (reads : (d : D) → v.may_leave d (v.seen d)) where
  old_start : IsStarted (list_in h) (v.seen (disk_in h))
  old_start = s.started alive (v.seen (disk_in h)) (reads (disk_in h))

  -- up to there a crash leaves what was there before the command
  stored_until : (e : Event) (size : ℕ) (events : Events) → list_after events ≡ Some (list_in h) → LeavesOnly v.moment v.left_since (disk_in h) (disk_in mid) (IsCrashImageOf (store_with_doubt events (extent_in h) e size))
  stored_until e size events after =
      weakened v.moment v.left_since (disk_in h) (disk_in mid) _ (IsCrashImageOf (store_with_doubt events (extent_in h) e size))
      (λ c image. stored_before events (extent_in h) e size (list_in h) c after image.0 (started_by (list_in h) (list_in h) (v.seen (disk_in h)) c refl image.1 old_start)) changed.any_moment

  -- the device failed in it
  pub commits_nothing : (e : Event) (size : ℕ) → is_dead mid ≡ true → Commits v e size h mid
  commits_nothing e size dead = record { sound = dead_is_sound v mid dead; any_moment = λ living. stored_until e size; counted = changed.counted }

  module _ (works : is_dead mid ≡ is_dead h) (start : start_in v.seen mid ≡ start_in v.seen h) (ready : IsReady v.seen v.may_leave mid) where
    pub sound_in_format_2 : IsSound v.seen v.may_leave mid
    sound_in_format_2 = record {
      ready = λ living. ready;
      started = λ living c now. started_by (list_in h) (list_in mid) (v.seen (disk_in h)) c (ap permanent changed.list) (ap (λ l. start_bytes l) (ready.store.durable c now) ∙ start) old_start;
      free = λ living. ap has_one_shot changed.list ∙ s.free alive;
    }

    module _ (e : Event) (size : ℕ) (new : NodeStore D) where
      pub commits_in_format_2 : Commits v e size mid new → Commits v e size h new
      commits_in_format_2 c = record {
        sound = c.sound;
        any_moment = λ living events after.
            joined v.moment v.left_since (disk_in h) (disk_in mid) (disk_in new) (IsCrashImageOf (store_with_doubt events (extent_in h) e size)) (stored_until e size events after)
            (subst (λ x. LeavesOnly v.moment v.left_since (disk_in mid) (disk_in new) (IsCrashImageOf (store_with_doubt events x e size))) changed.extent
            (c.any_moment (works ∙ living) events (after ∙ ap (λ l. Some l) (sym changed.list))));
        counted = omega (arith, changed.counted, c.counted);
      }
