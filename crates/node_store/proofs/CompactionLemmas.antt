-- A store that is compacted after a commit.
use Rattle.std.proofs.Common.{◌≡◌, ◌⊎◌, inl, inr, ⊎_elim, ℕ, ◌+◌, ◌≤◌, Bool, true, false, ◌&&◌, nat_le, List, [], ◌∷◌, length, Option, Some, Result, Ok, Err, true≢false, refl, sym, ap, ◌∙◌, subst, arith}
use Rattle.std.proofs.lemmas.Bool.Decides.{nat_tests}
use Rattle.std.specs.Prelude.{◌↔◌, not, if◌then◌else◌, IfErr, IsErrOf, OnOk}
use Rattle.rel_disk.specs.declared.disk.Disk.{Ghosts}
use Rattle.rel_disk.specs.Moments.{LeavesOnly, HasFailed}
use Rattle.rel_disk.proofs.Moments.{both, started, joined, weakened}
use Rattle.rel_list.specs.Event.{Event, recorded, list_after}
use Rattle.rel_list.specs.Laws.{leaves_permanent, makes_one_shot}
use Rattle.rel_list.specs.Releases.{Releases, has_one_shot, permanent}
use Rattle.rel_list.proofs.OneShotLaws.{none_recorded}
use Rattle.rel_records.specs.Format.{allows}
use Rattle.rel_records.specs.Image.{image_of, image_record}
use Rattle.rel_records.specs.Lists.{Makes}
use Rattle.rel_records.proofs.FormatLemmas.{allows_without, images_write_them}
use Rattle.rel_store.specs.Changed.{KeepsOthers, IsInCompaction}
use Rattle.rel_store.specs.Compaction.{EndsEither, FitsImage, image_end, image_place}
use Rattle.rel_store.specs.Layout.{base_of, format_of}
use Rattle.rel_store.specs.Records.{Stands, end_of, space}
use Rattle.rel_store.specs.State as store
use Rattle.rel_store.specs.declared.error.StoreError.{StoreError}
use Rattle.rel_store.specs.declared.error.StoreError.TheVariants as fault
use Rattle.rel_store.specs.declared.store.Store.{Store}
use Rattle.rel_store.proofs.Moments as stores
use Rattle.node_command.specs.declared.error.HandlerError.{HandlerError}
use Rattle.node_command.specs.declared.error.HandlerError.TheVariants.{Device}
use Rattle.node_command.proofs.CommandLemmas.{commanded_step}
use Rattle.node_store.specs.Commits.{Commits, Compacts, IsAppended, IsCompacted, IsDone, IsOldOrCompacted}
use Rattle.node_store.specs.Compaction.{compacted_extent, extent_with, fits_image, is_long, may_be_compacted, with_image, MayReach}
use Rattle.node_store.specs.Events.{Events, store_with_doubt, IsCrashImageOf}
use Rattle.node_store.specs.Image.{AreRecordsOf, Extent, extent_after, extent_of, HasBootSpace, start_bytes}
use Rattle.node_store.specs.Refusals.{CommandRefused, reported_compaction}
use Rattle.node_store.specs.State.{disk_in, extent_in, list_in, is_dead, start_in, store_extent, HasStarted, IsReady, IsSound}
use Rattle.node_store.specs.declared.node_store.NodeStore.{NodeStore}
use Rattle.node_store.proofs.Commits.{dead_is_sound, extent_kept, image_now, lost_commits, none_behind, revived, revived_is_sound, start_is_right}
use Rattle.node_store.proofs.Images.{extent_by_end, extent_with_records, in_same_format, no_boot_space, same_extent, same_records, settled_so, started_by, stored_after}
use Rattle.rel_store.proofs.Scan.{failed_since}

-- a short store stays as it is, and so does that of a list with a one-shot
pub short_stays : (x : Extent) (es : Releases) → may_be_compacted x es ≡ false → compacted_extent x es ≡ x
short_stays x es short = ap (λ (b : Bool). if b then with_image x (image_of (recorded es)) else x) short

-- one that may be compacted is long, and its list has no one-shot
pub free_and_long : (x : Extent) (es : Releases) → may_be_compacted x es ≡ true → (has_one_shot es ≡ false) × (is_long x ≡ true)
free_and_long x es may = go (has_one_shot es) (is_long x) may
  where
    go : (one long : Bool) → (not one && long) ≡ true → (one ≡ false) × (long ≡ true)
    go false true may = (refl, refl)
    go false false may = absurd cc
    go true long may = absurd cc

-- it reaches as far as with this image, where it has this one or none
pub long_reaches : (x : Extent) (es : Releases) (image : Option (List ℕ)) → may_be_compacted x es ≡ true → image_of (recorded es) ≡ image → compacted_extent x es ≡ with_image x image
long_reaches x es image may is = ap (λ (b : Bool). if b then with_image x (image_of (recorded es)) else x) may ∙ ap (λ o. with_image x o) is

image_reaches : (x : Extent) (es : Releases) (image : List ℕ) → may_be_compacted x es ≡ true → image_of (recorded es) ≡ Some image → fits_image x (length image) ≡ true → compacted_extent x es ≡ extent_with x (length image)
image_reaches x es image may is fits = long_reaches x es (Some image) may is ∙ ap (λ (b : Bool). if b then extent_with x (length image) else x) fits

-- an image that doesn't fit by the test doesn't fit
both_within : (a b c d : ℕ) → a ≤ b → c ≤ d → (nat_le a b && nat_le c d) ≡ false → ⊥
both_within a b c d first second is = grind (arith, nat_tests)

fits_not : (x : Extent) (n : ℕ) → fits_image x n ≡ false → FitsImage x.base x.end n → ⊥
fits_not x n is (short, ends) = both_within n 16777216 (image_end x.base x.end n) 67108864 short ends is

-- A store of each format may have the image of a list without a one-shot.
pub image_allowed : (format : ℕ) (es : Releases) → has_one_shot es ≡ false → allows format (image_record (recorded es)) ≡ true
image_allowed format es none = allows_without format (image_record (recorded es)) (images_write_them (recorded es) ∙ none_recorded es none)

-- where a store with one record ends
one_record : (place : ℕ) (body : List ℕ) → place + (6 + length body) ≡ (place + space (body ∷ [])) + 1
one_record place body = omega arith

module _ {D : Type 0} (v : Ghosts D) (h : NodeStore D) (ready : IsReady v.seen v.may_leave h) where
  -- each image of its disk is that of the store that is there
  old_now : (c : List ℕ) → v.may_leave (disk_in h) c → IsOldOrCompacted v.seen h c
  old_now c now =
      let image = image_now v h ready c now in
      (image.image_of, inl image.reaches, ap (λ l. start_bytes l) (ready.store.durable c now))

  -- A compaction that has changed nothing, or has taken memory alone.
  module _ (kept : Store D) (same : store.IsSame h.store kept) where
    pub not_compacted : is_dead h ≡ true → ((c : List ℕ) → v.left_since (disk_in h) (v.moment (disk_in h)) c → v.may_leave (disk_in h) c) → Compacts v h (record { store = kept; list = h.list; dead = h.dead })
    not_compacted dead only_now = record {
      dead = dead;
      list = refl;
      any_moment =
          subst (λ d. LeavesOnly v.moment v.left_since (disk_in h) d (IsOldOrCompacted v.seen h)) (sym same.disk)
          (started v.moment v.left_since (disk_in h) (IsOldOrCompacted v.seen h) (λ c left. old_now c (only_now c left)));
      counted = subst (λ d. v.failures (disk_in h) ≤ v.failures d) (sym same.disk) (omega arith);
    }

    pub stays : store.IsSoundStore v.seen v.may_leave kept → MayReach (extent_in h) (list_in h) (extent_in h) → IsCompacted v h (record { store = kept; list = h.list; dead = h.dead })
    stays sound reaches = record {
      ready = record {
        store = sound.settled (same.failed ∙ ready.store.works);
        list = same_records h.store.format kept.format (store.records_in h.store) (store.records_in kept) h.list same.format same.records ready.list;
        room = subst (λ x. HasBootSpace x (list_in h)) (sym (extent_kept h.store kept same)) ready.room;
      };
      start = ap (λ d. start_bytes (v.seen d)) same.disk;
      reaches = subst (λ x. MayReach (extent_in h) (list_in h) x) (sym (extent_kept h.store kept same)) reaches;
    }

  -- A store is compacted to an image of its list.
  module _ (image : List ℕ) (may : may_be_compacted (extent_in h) (list_in h) ≡ true) (is : image_of (recorded (list_in h)) ≡ Some image) (makes : Makes (store.format_in h.store) (image ∷ []) (recorded (list_in h))) (new : Store D) where
    free : has_one_shot (list_in h) ≡ false
    free = (free_and_long (extent_in h) (list_in h) may).0

    long : is_long (extent_in h) ≡ true
    long = (free_and_long (extent_in h) (list_in h) may).1

    by_the_image : AreRecordsOf h.store.format (image ∷ []) (list_in h)
    by_the_image = record { makes = makes; alone = ready.list.alone }

    with_records : (c : List ℕ) → format_of c ≡ h.store.format → Stands (store.records_in h.store) (start_in v.seen h) c × (end_of c ≡ store.end_in h.store) → IsOldOrCompacted v.seen h c
    with_records c same (stands, ends) = (
      record { bodies = store.records_in h.store; store = stands.records; list = in_same_format c h.store.format (store.records_in h.store) (list_in h) same ready.list; room = no_boot_space (extent_of c) (list_in h) free },
      inl (
          extent_by_end c (store.records_in h.store) (base_of (v.seen (disk_in h))) (store.end_in h.store) stands.records ends (ap (λ g. g + 1) ready.store.end)
          ∙ settled_so v.seen v.may_leave h.store ready.store
          ),
      stands.start,
    )

    with_the_image : fits_image (extent_in h) (length image) ≡ true → (c : List ℕ) → format_of c ≡ h.store.format → Stands (image ∷ []) (start_in v.seen h) c × (end_of c ≡ image_end (store.base_in h.store) (store.end_in h.store) (length image))
        → IsOldOrCompacted v.seen h c
    with_the_image fits c same (stands, ends) =
        let place = image_place (store.base_in h.store) (store.end_in h.store) (length image) in
        let far : extent_with_records place (image ∷ []) ≡ extent_with (extent_in h) (length image) = same_extent (extent_with_records place (image ∷ [])) (extent_with (extent_in h) (length image)) refl (sym (one_record place image)) refl in (
          record { bodies = image ∷ []; store = stands.records; list = in_same_format c h.store.format (image ∷ []) (list_in h) same by_the_image; room = no_boot_space (extent_of c) (list_in h) free },
          inr (
              extent_by_end c (image ∷ []) place (image_end (store.base_in h.store) (store.end_in h.store) (length image)) stands.records ends (one_record place image)
              ∙ far ∙ sym (image_reaches (extent_in h) (list_in h) image may is fits)
              ),
          stands.start,
        )

    -- that was answered so
    abbrev IsFull : Type 0
    IsFull = FitsImage (store.base_in h.store) (store.end_in h.store) (length image) → ⊥

    abbrev Refuses : StoreError → Type 0
    Refuses = store.Refused v.failures IsFull (store.HasRoom (length image) h.store → ⊥) h.store new

    abbrev AnswersFull : Result (Unit {0}) StoreError → Type 0
    AnswersFull r = IsErrOf r fault.Full ↔ ((store.has_failed h.store ≡ false) × IsFull)

    kept_as_full : (r : Result (Unit {0}) StoreError) → AnswersFull r → IfErr r Refuses → fits_image (extent_in h) (length image) ≡ false → store.IsSame h.store new
    kept_as_full r full refused unfit =
        let reported : r ≡ Err fault.Full = full.1 (ready.store.works, fits_not (extent_in h) (length image) unfit) in
        (subst (λ a. IfErr a Refuses) reported refused).2

    -- no bytes but its own change
    abbrev KeepsOtherBytes : List ℕ → Type 0
    KeepsOtherBytes = KeepsOthers (IsInCompaction (v.seen (disk_in h)) (image_place (store.base_in h.store) (store.end_in h.store) (length image)) (length image)) (v.seen (disk_in h))

    -- whatever it was answered
    pub compacts_so : (r : Result (Unit {0}) StoreError) → AnswersFull r → IfErr r Refuses → is_dead h ≡ true → ((c : List ℕ) → v.left_since (disk_in h) (v.moment (disk_in h)) c → v.may_leave (disk_in h) c)
        → (store.has_failed h.store ≡ false
        → LeavesOnly v.moment v.left_since (disk_in h) (store.disk_in new) (EndsEither (store.records_in h.store) (store.end_in h.store) image (image_end (store.base_in h.store) (store.end_in h.store) (length image)) (start_in v.seen h)))
        → (store.has_failed h.store ≡ false → LeavesOnly v.moment v.left_since (disk_in h) (store.disk_in new) KeepsOtherBytes)
        → v.failures (disk_in h) ≤ v.failures (store.disk_in new) → Compacts v h (record { store = new; list = h.list; dead = h.dead })
    compacts_so r full refused dead only_now leaves kept counted = go (fits_image (extent_in h) (length image)) refl
      where
        go : (b : Bool) → fits_image (extent_in h) (length image) ≡ b → Compacts v h (record { store = new; list = h.list; dead = h.dead })
        go true fits = record {
          dead = dead;
          list = refl;
          any_moment =
              weakened v.moment v.left_since (disk_in h) (store.disk_in new) _ (IsOldOrCompacted v.seen h)
              (λ c now. let same = stores.format_kept_in_compaction v.moment v.left_since v.seen v.may_leave h.store ready.store (length image) c now.1 in ⊎_elim (with_records c same) (with_the_image fits c same) now.0)
              (both v.moment v.left_since (disk_in h) (store.disk_in new) _ _ (leaves ready.store.works) (kept ready.store.works));
          counted = counted;
        }
        go false unfit = not_compacted new (kept_as_full r full refused unfit) dead only_now

    -- After a compaction that was done the store has the image as its only record, and reaches as far as a compaction leaves
    -- it.
    reaches_image : AnswersFull (Ok tt) → store.records_in new ≡ image ∷ [] → store.base_in new ≡ image_place (store.base_in h.store) (store.end_in h.store) (length image)
        → store.end_in new ≡ image_end (store.base_in h.store) (store.end_in h.store) (length image) → store_extent new ≡ compacted_extent (extent_in h) (list_in h)
    reaches_image full records base end = go (fits_image (extent_in h) (length image)) refl
      where
        go : (b : Bool) → fits_image (extent_in h) (length image) ≡ b → store_extent new ≡ compacted_extent (extent_in h) (list_in h)
        go true fits =
            same_extent (store_extent new) (extent_with (extent_in h) (length image)) base end (ap (λ bodies. length bodies) records)
            ∙ sym (image_reaches (extent_in h) (list_in h) image may is fits)
        go false unfit = let reported = full.1 (ready.store.works, fits_not (extent_in h) (length image) unfit) in absurd cc

    pub done_so : (r : Result (Unit {0}) StoreError) → AnswersFull r → IfErr r Refuses → store.IsSoundStore v.seen v.may_leave new → OnOk r (store.IsSettled v.seen v.may_leave new)
        → OnOk r (store.records_in new ≡ image ∷ []) → OnOk r (store.text_in v.seen new ≡ start_in v.seen h) → OnOk r (store.base_in new ≡ image_place (store.base_in h.store) (store.end_in h.store) (length image))
        → OnOk r (store.end_in new ≡ image_end (store.base_in h.store) (store.end_in h.store) (length image)) → store.format_in new ≡ store.format_in h.store → OnOk (reported_compaction r) (IsCompacted v h (record { store = new; list = h.list; dead = h.dead }))
    done_so (Ok u) full refused sound settled records start base end format = record {
      ready = record { store = settled; list = same_records h.store.format new.format (image ∷ []) (store.records_in new) h.list format records by_the_image; room = no_boot_space (store_extent new) (list_in h) free };
      start = start;
      reaches = inl (reaches_image full records base end);
    }
    done_so (Err fault.Full) full refused sound settled records start base end format = stays new refused.2 sound (inr (long, refl))
    done_so (Err fault.NoMemory) full refused sound settled records start base end format = stays new refused.2 sound (inr (long, refl))
    done_so (Err fault.Device) full refused sound settled records start base end format = tt
    done_so (Err fault.MustReopen) full refused sound settled records start base end format = absurd (true≢false (sym refused.0 ∙ ready.store.works))
    done_so (Err e) full refused sound settled records start base end format = absurd refused

    -- or the device failed
    pub failed_reported : (r : Result (Unit {0}) StoreError) → IfErr r Refuses → IfErr (reported_compaction r) (λ _. HasFailed (v.failures (disk_in h)) (v.failures (store.disk_in new)))
    failed_reported (Err fault.Device) refused = refused.0
    failed_reported r refused = tt

-- nothing else is reported of it
pub device_reported : (r : Result (Unit {0}) StoreError) → IfErr (reported_compaction r) (λ e. e ≡ Device)
device_reported (Err fault.Device) = refl
device_reported r = tt

-- what holds after a compaction holds of a command that ends with it
pub done_then : {T E : Type 0} (r : Result T E) (P Q : Type 0) → (P → Q) → OnOk r P → OnOk r Q
done_then (Ok x) P Q so p = so p
done_then (Err e) P Q so p = tt

pub refused_then : {T : Type 0} (r : Result T HandlerError) (failed : Type 0) (Q : HandlerError → Type 0) → ((why : HandlerError) → why ≡ Device → failed → Q why) → IfErr r (λ e. e ≡ Device) → IfErr r (λ _. failed) → IfErr r Q
refused_then (Ok x) failed Q so device is = tt
refused_then (Err e) failed Q so device is = so e device is

-- A command has committed its event, and the start record is that of its list.
pub record HasCommitted {D : Type 0} (v : Ghosts D) (e : Event) (size : ℕ) (h mid : NodeStore D) : Type 0 where
  pub commits : Commits v e size h mid
  pub appended : IsAppended v e size h mid
  pub right : HasStarted v.may_leave mid

-- After a committed event that leaves the permanent release as it is, the start record is still that of the list.
pub committed_change : {D : Type 0} (v : Ghosts D) (h : NodeStore D) → IsSound v.seen v.may_leave h → is_dead h ≡ false → (e : Event) (size : ℕ) (mid : NodeStore D) → Commits v e size h mid → IsAppended v e size h mid
    → IsReady v.seen v.may_leave mid → start_in v.seen mid ≡ start_in v.seen h → ((d : D) → v.may_leave d (v.seen d)) → leaves_permanent e ≡ true → HasCommitted v e size h mid
committed_change v h s alive e size mid commits appended ready stays reads leaves =
    record { commits = commits; appended = appended; right = start_is_right v h s alive e size mid commits appended ready stays reads leaves }

-- Then it has the store compacted.
module _ {D : Type 0} (v : Ghosts D) (h : NodeStore D) (e : Event) (size : ℕ) (mid : NodeStore D) (committed : HasCommitted v e size h mid) (reads : (d : D) → v.may_leave d (v.seen d)) (new : NodeStore D) (compacts : Compacts v mid new) where
  each_stored : (events : Events) → list_after events ≡ Some (list_in h) → (c : List ℕ) → IsOldOrCompacted v.seen mid c → IsCrashImageOf (store_with_doubt events (extent_in h) e size) c
  each_stored events after c (image, reaches, slot) =
      stored_after events (extent_in h) e size (list_in h) (list_in mid) c after (commanded_step e (list_in h) (list_in mid) committed.appended.accepted) image
      (subst (λ x. (extent_of c ≡ x) ⊎ (extent_of c ≡ compacted_extent x (list_in mid))) committed.appended.reaches reaches)
      (inr (started_by (list_in mid) (list_in mid) (v.seen (disk_in mid)) c refl slot (committed.right (v.seen (disk_in mid)) (reads (disk_in mid)))))

  pub commits_compacting : Commits v e size h new
  commits_compacting = record {
    sound = dead_is_sound v new compacts.dead;
    any_moment = λ living events after.
        joined v.moment v.left_since (disk_in h) (disk_in mid) (disk_in new) (IsCrashImageOf (store_with_doubt events (extent_in h) e size)) (committed.commits.any_moment living events after)
        (weakened v.moment v.left_since (disk_in mid) (disk_in new) _ (IsCrashImageOf (store_with_doubt events (extent_in h) e size)) (each_stored events after) compacts.any_moment);
    counted = omega (arith, committed.commits.counted, compacts.counted);
  }

  -- the device failed when the event was committed already
  pub fails_compacting : (why : HandlerError) → why ≡ Device → HasFailed (v.failures (disk_in mid)) (v.failures (disk_in new)) → CommandRefused v.failures e size h new why
  fails_compacting why device failed =
      subst (CommandRefused v.failures e size h new) (sym device)
      ((committed.appended.worked, (list_in mid, committed.appended.accepted), committed.appended.fits), failed_since _ _ _ committed.commits.counted compacts.counted failed, compacts.dead)

  -- The compaction was done.
  module _ (done : IsCompacted v mid new) where
    pub right_still : HasStarted v.may_leave new
    right_still c now =
        started_by (list_in mid) (list_in new) (v.seen (disk_in mid)) c (ap permanent compacts.list) (ap (λ l. start_bytes l) (done.ready.store.durable c now) ∙ done.start) (committed.right (v.seen (disk_in mid)) (reads (disk_in mid)))

    -- The node works again, where the event makes no release a one-shot.
    module _ (other : makes_one_shot e ≡ false) where
      none_still : has_one_shot (list_in new) ≡ false
      none_still = ap has_one_shot compacts.list ∙ none_behind v e size h mid other committed.appended

      pub commits_alive : Commits v e size h (revived new)
      commits_alive = record { sound = revived_is_sound v new done.ready right_still none_still; any_moment = commits_compacting.any_moment; counted = commits_compacting.counted }

    pub is_done : IsDone v e size h new
    is_done = record {
      worked = committed.appended.worked;
      accepted = committed.appended.accepted ∙ ap (λ l. Ok l) (sym compacts.list);
      acknowledged = image_now v new done.ready;
      fits = committed.appended.fits;
      reaches =
          subst (λ l. MayReach (extent_after (extent_in h) size) l (extent_in new)) (sym compacts.list)
          (subst (λ x. MayReach x (list_in mid) (extent_in new)) committed.appended.reaches done.reaches);
    }

    pub is_done_with : (dead : Bool) → IsDone v e size h (record { store = new.store; list = new.list; dead = dead })
    is_done_with dead = record { worked = is_done.worked; accepted = is_done.accepted; acknowledged = is_done.acknowledged; fits = is_done.fits; reaches = is_done.reaches }

-- the node works on, or is dead
abbrev pub with_dead : {D : Type 0} → NodeStore D → Bool → NodeStore D
with_dead h dead = record { store = h.store; list = h.list; dead = dead }

-- After its commit the node works again, or is dead where a release is a one-shot.
pub commits_installation : {D : Type 0} (v : Ghosts D) (h : NodeStore D) (e : Event) (size : ℕ) (mid : NodeStore D) → HasCommitted v e size h mid → ((d : D) → v.may_leave d (v.seen d)) → (new : NodeStore D) → Compacts v mid new → IsCompacted v mid new
    → (dead : Bool) → dead ≡ makes_one_shot e → Commits v e size h (with_dead new dead)
commits_installation v h e size mid has reads new compacts done true is = lost_commits v e size h new (commits_compacting v h e size mid has reads new compacts)
commits_installation v h e size mid has reads new compacts done false is = commits_alive v h e size mid has reads new compacts done (sym is)
