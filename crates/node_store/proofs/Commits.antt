-- A node at rest, and one that commits an event.
use Rattle.std.proofs.Common.{◌≡◌, ◌⊎◌, inl, inr, ℕ, ◌+◌, ◌≤◌, true, false, List, [], ◌∷◌, ◌++◌, length, length-append, None, Some, Result, Ok, Err, true≢false, refl, sym, ap, ◌∙◌, subst, arith}
use Rattle.std.specs.Prelude.{is_err, IfErr, OnErr, OnOk}
use Rattle.std.specs.List.{AllByRecursion}
use Rattle.rel_disk.specs.declared.disk.Disk.{Ghosts}
use Rattle.rel_disk.specs.Moments.{LeavesOnly, HasFailed}
use Rattle.rel_disk.proofs.Moments.{started, joined, weakened, both}
use Rattle.rel_files.specs.File.{HasVersions}
use Rattle.rel_files.specs.Release.{Release}
use Rattle.library.specs.Library.{IsLibrary}
use Rattle.rel_list.specs.Releases.{Bundle, Entry, Releases, has_one_shot, permanent}
use Rattle.rel_list.specs.Event.{Event, recorded, step, list_after}
use Rattle.rel_list.specs.Event.Event.{unpacked}
use Rattle.rel_list.proofs.LibraryLaws.{libraries-recorded}
use Rattle.rel_list.proofs.OneShotLaws.{one_shots_come_from_restarts}
use Rattle.rel_records.specs.Lists.{HaveVersions, HaveLibraries}
use Rattle.rel_records.specs.Reading.{Spells}
use Rattle.rel_records.specs.Startable.{AreStartable}
use Rattle.rel_records.specs.Writing.{record_of, IsComplete}
use Rattle.rel_records.proofs.EachRelease.{each-of_recorded}
use Rattle.rel_records.proofs.EventRecords.{unpacked_reports}
use Rattle.rel_records.proofs.RecordLaws.{make_libraries, make_versions}
use Rattle.rel_records.proofs.StartableLemmas.{make_startable, startable-of_recorded}
use Rattle.rel_store.specs.Contents.{HasOnlyRead}
use Rattle.rel_store.specs.Changed.{LeavesOthers, IsInRecord, IsInOtherSlot}
use Rattle.rel_store.specs.Layout.{slot_with, base_of}
use Rattle.rel_store.proofs.Moments as stores
use Rattle.rel_store.specs.Records.{records_of, StandsEither, StandsWithEither}
use Rattle.rel_store.specs.State as store
use Rattle.rel_store.specs.declared.error.StoreError.{StoreError}
use Rattle.rel_store.specs.declared.error.StoreError.TheVariants as fault
use Rattle.rel_store.specs.declared.store.Store.{Store}
use Rattle.node_store.specs.Commits.{Commits, IsAppended, IsRecordFor, Keeps, HasOldStartOr}
use Rattle.node_store.specs.Events.{Events, store_with_doubt, IsCrashImageOf}
use Rattle.node_store.specs.Image.{AreRecordsOf, extent_after, HasBootSpace, HasSpace, IsImageWithExtent, IsStarted, start_bytes}
use Rattle.node_store.specs.Refusals.{CommandRefused, HasNoRoom, IsAllowed}
use Rattle.node_store.specs.State.{disk_in, extent_in, list_in, is_dead, start_in, store_extent, HasStarted, IsReady, IsSound, IsSame}
use Rattle.node_command.specs.Taking.{commanded}
use Rattle.start_record.specs.Text.{Versions, AreVersions, start_text as text_of_start}
use Rattle.rel_list.specs.declared.fault.ListError.{ListError}
use Rattle.rel_list.specs.declared.fault.ListError.TheVariants as of_list
use Rattle.rel_list.specs.Laws.{leaves_permanent, makes_one_shot}
use Rattle.rel_records.specs.Format.{writes_one_shot}
use Rattle.rel_records.specs.Writing.{record_of}
use Rattle.rel_list.specs.Refusal.{IsRefusedWith, brings_release, refusal}
use Rattle.rel_list.proofs.PermanentLaws.{permanent_stays}
use Rattle.node_store.specs.Start.{start_of_release}
use Rattle.node_command.specs.declared.error.HandlerError.{HandlerError}
use Rattle.node_command.specs.declared.error.HandlerError.TheVariants.{Device, Full, NoMemory}
use Rattle.node_store.specs.declared.node_store.NodeStore.{NodeStore}
use Rattle.node_command.proofs.CommandLemmas.{commanded_step, small_and_few}
use Rattle.node_store.proofs.Images.{each_image, either_behind, extent_so, image_at, in_same_format, same_extent, same_records, settled_so, stored_before, stored_after, started_by, started_by_text, while_committing, with_record}
use Rattle.rel_store.proofs.Scan.{failed_since}

-- what holds of a call that didn't fail
pub opened : {T E : Type 0} (r : Result T E) (P : Type 0) → false ≡ is_err r → OnOk r P → P
opened (Ok v) P ok p = p
opened (Err e) P ok p = cc ok

-- and what holds of one that did
pub left_so : {T E : Type 0} (r : Result T E) (P : Type 0) → true ≡ is_err r → OnErr r P → P
left_so (Ok v) P err p = cc err
left_so (Err e) P err p = p

-- nothing changed
pub all_same : {D : Type 0} (h : NodeStore D) → IsSame h h
all_same h = record { disk = refl; list = refl; dead = refl; extent = refl }

pub store_same : {D : Type 0} (s : Store D) → store.IsSame s s
store_same s = record { disk = refl; records = refl; base = refl; end = refl; format = refl; failed = refl }

-- it reaches as far as it did
pub extent_kept : {D : Type 0} (old new : Store D) → store.IsSame old new → store_extent new ≡ store_extent old
extent_kept old new same = same_extent (store_extent new) (store_extent old) same.base same.end (ap (λ bodies. length bodies) same.records)

-- nothing but the memory of its store
pub same_with : {D : Type 0} (h : NodeStore D) (s : Store D) → store.IsSame h.store s → IsSame h (record { store = s; list = h.list; dead = h.dead })
same_with h s same = record { disk = same.disk; list = refl; dead = refl; extent = extent_kept h.store s same }

-- the disk was not touched
pub read_nothing : {D : Type 0} (v : Ghosts D) (h : NodeStore D) → ((c : List ℕ) → v.left_since (disk_in h) (v.moment (disk_in h)) c → v.may_leave (disk_in h) c)
    → HasOnlyRead v.seen v.may_leave v.moment v.left_since (disk_in h) (disk_in h)
read_nothing v h only_now = record { same = refl; crash = λ c now. now; any_moment = started v.moment v.left_since (disk_in h) (v.may_leave (disk_in h)) only_now }

-- the releases of a list have the versions of files
pub have_versions : (format : ℕ) (bodies : List (List ℕ)) (es : Releases) → AreRecordsOf format bodies es → HaveVersions es
have_versions format bodies es are = each-of_recorded (λ (e : Entry). HasVersions e.release) (λ e s has. has) es (make_versions format bodies (recorded es) are.makes)

-- its libraries are what the files of applications say
pub have_libraries : (format : ℕ) (bodies : List (List ℕ)) (es : Releases) → AreRecordsOf format bodies es → HaveLibraries es
have_libraries format bodies es are = subst (AllByRecursion IsLibrary) (libraries-recorded es) (make_libraries format bodies (recorded es) are.makes)

-- a boot can start the releases of a node that is ready
pub releases_startable : {D : Type 0} {seen : D → List ℕ} {may_leave : D → List ℕ → Type 0} (h : NodeStore D) → IsReady seen may_leave h → AreStartable (list_in h)
releases_startable h ready = startable-of_recorded (list_in h) (make_startable h.store.format (store.records_in h.store) (recorded (list_in h)) ready.list.makes)

-- the record of a release that may come in
pub unpacked_reported : (p : Bundle) (es next : Releases) (body : List ℕ) → Spells body (record_of (unpacked p) es) → HaveLibraries es → IsComplete p → commanded (unpacked p) es ≡ Ok next → IsRecordFor body (unpacked p) es
unpacked_reported p es next body spelled have complete is =
    let (small, few) = small_and_few p es next is in
    record { spells = spelled; reports = unpacked_reports p es have (small, few, complete) }

-- an append that fails where there is room failed by the device
pub failed_so : {D : Type 0} (failures : D → ℕ) (old new : Store D) (n : ℕ) (r : Result (Unit {0}) StoreError) → true ≡ is_err r
    → IfErr r (store.Refused failures (store.Fits (store.end_in old) n → ⊥) (store.HasRoom n old → ⊥) old new) → store.Fits (store.end_in old) n → store.HasRoom n old → store.has_failed old ≡ false
    → HasFailed (failures (store.disk_in old)) (failures (store.disk_in new))
failed_so failures old new n (Ok v) err refused fits room works = cc err
failed_so failures old new n (Err fault.Full) err refused fits room works = absurd (refused.0 fits)
failed_so failures old new n (Err fault.NoMemory) err refused fits room works = absurd (refused.0 room)
failed_so failures old new n (Err fault.Device) err refused fits room works = refused.0
failed_so failures old new n (Err fault.MustReopen) err refused fits room works = cc (works, refused.0)
failed_so failures old new n (Err fault.NotAStore) err refused fits room works = absurd refused
failed_so failures old new n (Err (fault.Damaged at)) err refused fits room works = absurd refused
failed_so failures old new n (Err fault.Exists) err refused fits room works = absurd refused

-- there is no room for a record
pub no_room : {D : Type 0} (failures : D → ℕ) (e : Event) (size : ℕ) (h mid : NodeStore D) (why : HandlerError) → IsAllowed e h → IsSame h mid → HasNoRoom (extent_in h) size why
    → CommandRefused failures e size h mid why
no_room failures e size h mid Full allowed same lacks = (allowed, lacks, same)
no_room failures e size h mid NoMemory allowed same lacks = (allowed.0, same)
no_room failures e size h mid why allowed same lacks = absurd lacks

-- A command that comes after one that took memory alone.
module _ {D : Type 0} (v : Ghosts D) (h mid : NodeStore D) (same : IsSame h mid) (e : Event) (size : ℕ) (new : NodeStore D) where
  pub commits_behind : Commits v e size mid new → Commits v e size h new
  commits_behind c = record {
    sound = c.sound;
    any_moment = λ living events after.
        subst (λ d. LeavesOnly v.moment v.left_since d (disk_in new) (IsCrashImageOf (store_with_doubt events (extent_in h) e size))) same.disk
        (subst (λ x. LeavesOnly v.moment v.left_since (disk_in mid) (disk_in new) (IsCrashImageOf (store_with_doubt events x e size))) same.extent
        (c.any_moment (same.dead ∙ living) events (after ∙ ap (λ l. Some l) (sym same.list))));
    counted = subst (λ d. v.failures d ≤ v.failures (disk_in new)) same.disk c.counted;
  }

-- No release is a one-shot after an event that makes none one.
pub none_behind : {D : Type 0} (v : Ghosts D) (e : Event) (size : ℕ) (h mid : NodeStore D) → makes_one_shot e ≡ false → IsAppended v e size h mid → has_one_shot (list_in mid) ≡ false
none_behind v e size h mid other appended = one_shots_come_from_restarts e (list_in h) (list_in mid) other (commanded_step e (list_in h) (list_in mid) appended.accepted)

-- an event that the list allows, and that brings no release, is taken
pub taken_so : (e : Event) (es : Releases) (r : Result (Unit {0}) ListError) → true ≡ is_err r → IfErr r (IsRefusedWith e es) → refusal e es ≡ None → brings_release e ≡ false → ⊥
taken_so e es (Ok x) err refused none brings = cc err
taken_so e es (Err of_list.NoMemory) err refused none brings = let does : brings_release e ≡ true = refused.1 in true≢false (sym does ∙ brings)
taken_so e es (Err why) err refused none brings = cc (none, refused)

-- A node that is dead knows nothing.
pub dead_is_sound : {D : Type 0} (v : Ghosts D) (h : NodeStore D) → is_dead h ≡ true → IsSound v.seen v.may_leave h
dead_is_sound v h dead = record {
  ready = λ alive. absurd (true≢false (sym dead ∙ alive));
  started = λ alive. absurd (true≢false (sym dead ∙ alive));
  free = λ alive. absurd (true≢false (sym dead ∙ alive));
}

-- a node that is dead after what was read of its disk
abbrev pub lost : {D : Type 0} → NodeStore D → NodeStore D
lost h = record { store = h.store; list = h.list; dead = true }

pub lost_commits : {D : Type 0} (v : Ghosts D) (e : Event) (size : ℕ) (h mid : NodeStore D) → Commits v e size h mid → Commits v e size h (lost mid)
lost_commits v e size h mid c = record { sound = dead_is_sound v (lost mid) refl; any_moment = c.any_moment; counted = c.counted }

-- a node that works again
abbrev pub revived : {D : Type 0} → NodeStore D → NodeStore D
revived h = record { store = h.store; list = h.list; dead = false }

-- A node that works again is sound where it is ready, has the start record of its list, and no release of the list is a
-- one-shot.
pub revived_is_sound : {D : Type 0} (v : Ghosts D) (h : NodeStore D) → IsReady v.seen v.may_leave h → HasStarted v.may_leave h → has_one_shot (list_in h) ≡ false → IsSound v.seen v.may_leave (revived h)
revived_is_sound v h ready started free = record { ready = λ alive. record { store = ready.store; list = ready.list; room = ready.room }; started = λ alive. started; free = λ alive. free }

module _ {D : Type 0} (v : Ghosts D) (h : NodeStore D) (ready : IsReady v.seen v.may_leave h) where
  -- each image of its disk stands for its list
  pub image_now : (c : List ℕ) → v.may_leave (disk_in h) c → IsImageWithExtent c (list_in h) (extent_in h)
  image_now c now = each_image v.seen v.may_leave h.store (list_in h) ready.store ready.list ready.room c now

  -- The start record is being written, and the records stay.
  module _ (new : Store D) (words : List ℕ) (leaves : LeavesOnly v.moment v.left_since (disk_in h) (store.disk_in new) (StandsWithEither (store.records_in h.store) (start_in v.seen h) (slot_with words)))
      (kept : LeavesOnly v.moment v.left_since (disk_in h) (store.disk_in new) (LeavesOthers (IsInOtherSlot (v.seen (disk_in h))) (v.seen (disk_in h)))) where
    records_stay : (c : List ℕ) → StandsWithEither (store.records_in h.store) (start_in v.seen h) (slot_with words) c → records_of c ≡ Ok (store.records_in h.store)
    records_stay c (inl stands) = stands.records
    records_stay c (inr stands) = stands.records

    either_slot : (c : List ℕ) → StandsWithEither (store.records_in h.store) (start_in v.seen h) (slot_with words) c → (start_bytes c ≡ start_in v.seen h) ⊎ (start_bytes c ≡ slot_with words)
    either_slot c (inl stands) = inl stands.start
    either_slot c (inr stands) = inr stands.start

    starting : LeavesOnly v.moment v.left_since (disk_in h) (store.disk_in new) (HasOldStartOr v.seen h (λ c. start_bytes c ≡ slot_with words))
    starting =
        weakened v.moment v.left_since (disk_in h) (store.disk_in new) _ (HasOldStartOr v.seen h (λ c. start_bytes c ≡ slot_with words))
        (λ c either. (
          image_at c (store.records_in h.store) (list_in h) (extent_in h) (records_stay c either.0)
              (in_same_format c h.store.format (store.records_in h.store) (list_in h) (stores.format_kept_by_start v.moment v.left_since v.seen v.may_leave h.store ready.store c either.1) ready.list) ready.room
              (extent_so c (store.records_in h.store) (base_of (v.seen (disk_in h))) (records_stay c either.0) (stores.base_kept_by_start v.moment v.left_since v.seen v.may_leave h.store ready.store c either.1)
              ∙ settled_so v.seen v.may_leave h.store ready.store),
          either_slot c either.0,
        ))
        (both v.moment v.left_since (disk_in h) (store.disk_in new) _ _ leaves kept)

    pub keeps : store.base_in new ≡ store.base_in h.store → store.records_in new ≡ store.records_in h.store → store.end_in new ≡ store.end_in h.store → v.failures (disk_in h) ≤ v.failures (store.disk_in new)
        → Keeps v words h (record { store = new; list = h.list; dead = true })
    keeps base records end counted =
        record { dead = refl; list = refl; extent = same_extent (store_extent new) (extent_in h) base end (ap (λ bodies. length bodies) records); any_moment = starting; counted = counted }

  -- The start record was written, and the node is ready.
  module _ (new : Store D) (settled : store.IsSettled v.seen v.may_leave new) (records : store.records_in new ≡ store.records_in h.store) (base : store.base_in new ≡ store.base_in h.store) (end : store.end_in new ≡ store.end_in h.store) (format : store.format_in new ≡ store.format_in h.store) where
    pub ready_still : IsReady v.seen v.may_leave (record { store = new; list = h.list; dead = true })
    ready_still = record {
      store = settled;
      list = same_records h.store.format new.format (store.records_in h.store) (store.records_in new) h.list format records ready.list;
      room = subst (λ x. HasBootSpace x h.list) (sym (same_extent (store_extent new) (extent_in h) base end (ap (λ bodies. length bodies) records))) ready.room;
    }

    pub images_still : (words : List ℕ) → store.text_in v.seen new ≡ slot_with words → (c : List ℕ) → v.may_leave (store.disk_in new) c → IsImageWithExtent c h.list (store_extent new) × (start_bytes c ≡ slot_with words)
    images_still words written c now = (each_image v.seen v.may_leave new h.list settled ready_still.list ready_still.room c now, ap (λ l. start_bytes l) (settled.durable c now) ∙ written)

module _ {D : Type 0} (v : Ghosts D) (h : NodeStore D) (s : IsSound v.seen v.may_leave h) where
  module _ (only_now : (c : List ℕ) → v.left_since (disk_in h) (v.moment (disk_in h)) c → v.may_leave (disk_in h) c) (e : Event) (size : ℕ) where
    -- a command that hasn't touched the disk
    resting : (new : D) → new ≡ disk_in h → is_dead h ≡ false → (events : Events) → list_after events ≡ Some (list_in h)
        → LeavesOnly v.moment v.left_since (disk_in h) new (IsCrashImageOf (store_with_doubt events (extent_in h) e size))
    resting new same alive events after =
        subst (λ d. LeavesOnly v.moment v.left_since (disk_in h) d (IsCrashImageOf (store_with_doubt events (extent_in h) e size))) (sym same)
        (started v.moment v.left_since (disk_in h) (IsCrashImageOf (store_with_doubt events (extent_in h) e size))
        (λ c left. stored_before events (extent_in h) e size (list_in h) c after (image_now v h (s.ready alive) c (only_now c left)) (s.started alive c (only_now c left))))

    -- a command that has changed nothing
    pub unchanged : Commits v e size h h
    unchanged = record { sound = s; any_moment = resting (disk_in h) refl; counted = omega arith }

    -- one that has taken memory alone
    module _ (reserved : Store D) (sound : store.IsSoundStore v.seen v.may_leave reserved) (same : store.IsSame h.store reserved) where
      pub rested : Commits v e size h (record { store = reserved; list = h.list; dead = h.dead })
      rested = record {
        sound = record {
          ready = λ alive. record {
            store = sound.settled (same.failed ∙ (s.ready alive).store.works);
            list = same_records h.store.format reserved.format (store.records_in h.store) (store.records_in reserved) h.list same.format same.records (s.ready alive).list;
            room = subst (λ x. HasBootSpace x h.list) (sym (extent_kept h.store reserved same)) (s.ready alive).room;
          };
          started = λ alive. subst (λ d. (c : List ℕ) → v.may_leave d c → IsStarted (list_in h) c) (sym same.disk) (s.started alive);
          free = s.free;
        };
        any_moment = resting (store.disk_in reserved) same.disk;
        counted = subst (λ d. v.failures (disk_in h) ≤ v.failures d) (sym same.disk) (omega arith);
      }

  -- A record is appended after a reservation.
  module _ (alive : is_dead h ≡ false) (reserved : Store D) (same : store.IsSame h.store reserved) (e : Event) (next : Releases) (body : List ℕ) (reported : IsRecordFor body e (list_in h)) (needs : writes_one_shot (record_of e (list_in h)) ≡ true → store.format_in h.store ≡ 2) (is : step e (list_in h) ≡ Some next) (room_then : HasBootSpace (extent_after (extent_in h) (length body)) next) where
    pub reserved_works : store.has_failed reserved ≡ false
    reserved_works = same.failed ∙ (s.ready alive).store.works

    module _ (reads : (d : D) → v.may_leave d (v.seen d)) (new : Store D) (text : List ℕ) (leaves : LeavesOnly v.moment v.left_since (store.disk_in reserved) (store.disk_in new) (StandsEither (store.records_in reserved) body text))
        (kept : LeavesOnly v.moment v.left_since (store.disk_in reserved) (store.disk_in new) (LeavesOthers (IsInRecord (store.gate_in reserved) (length body)) (v.seen (store.disk_in reserved)))) (slot : text ≡ start_in v.seen h) where
      committing : (events : Events) → list_after events ≡ Some (list_in h) → LeavesOnly v.moment v.left_since (disk_in h) (store.disk_in new) (IsCrashImageOf (store_with_doubt events (extent_in h) e (length body)))
      committing events after =
          subst (λ d. LeavesOnly v.moment v.left_since d (store.disk_in new) (IsCrashImageOf (store_with_doubt events (extent_in h) e (length body)))) same.disk
          (weakened v.moment v.left_since (store.disk_in reserved) (store.disk_in new) _ (IsCrashImageOf (store_with_doubt events (extent_in h) e (length body)))
          (λ c either. while_committing h.store.format e (list_in h) next (store.records_in h.store) body text events (s.ready alive).list reported needs is after (base_of (v.seen (disk_in h))) (extent_in h) (settled_so v.seen v.may_leave h.store (s.ready alive).store) (s.ready alive).room room_then
          (v.seen (disk_in h)) (sym slot) (s.started alive (v.seen (disk_in h)) (reads (disk_in h))) c
          (either_behind v h.store reserved (s.ready alive).store same body text c either.0 either.1))
          (both v.moment v.left_since (store.disk_in reserved) (store.disk_in new) _ _ leaves kept))

      pub commits : v.failures (store.disk_in reserved) ≤ v.failures (store.disk_in new) → Commits v e (length body) h (record { store = new; list = next; dead = true })
      commits counted = record {
        sound = record { ready = λ living. cc living; started = λ living. cc living; free = λ living. cc living };
        any_moment = λ living. committing;
        counted = subst (λ d. v.failures d ≤ v.failures (store.disk_in new)) same.disk counted;
      }

    -- The record was appended.
    module _ (new : Store D) (settled : store.IsSettled v.seen v.may_leave new) (added : store.records_in new ≡ store.records_in reserved ++ body ∷ [])
        (base : store.base_in new ≡ store.base_in reserved) (end : store.end_in new ≡ store.end_in reserved + (5 + length body)) (format : store.format_in new ≡ store.format_in reserved) where
      reaches_behind : store_extent new ≡ extent_after (extent_in h) (length body)
      reaches_behind =
          same_extent (store_extent new) (extent_after (extent_in h) (length body)) (base ∙ same.base) (end ∙ ap (λ n. n + (5 + length body)) same.end)
          (ap (λ bodies. length bodies) (added ∙ ap (λ bodies. bodies ++ body ∷ []) same.records) ∙ omega (arith, length-append (store.records_in h.store) (body ∷ [])))

      pub ready_next : IsReady v.seen v.may_leave (record { store = new; list = next; dead = true })
      ready_next = record {
        store = settled;
        list =
            same_records h.store.format new.format (store.records_in h.store ++ body ∷ []) (store.records_in new) next (format ∙ same.format) (added ∙ ap (λ bodies. bodies ++ body ∷ []) same.records)
            (with_record h.store.format e (list_in h) next (store.records_in h.store) body (s.ready alive).list reported needs is);
        room = subst (λ x. HasBootSpace x next) (sym reaches_behind) room_then;
      }

      pub is_appended : commanded e (list_in h) ≡ Ok next → HasSpace (extent_in h) (length body) → IsAppended v e (length body) h (record { store = new; list = next; dead = true })
      is_appended accepted fits = record {
        worked = alive;
        accepted = accepted;
        acknowledged = λ c now. each_image v.seen v.may_leave new next settled ready_next.list ready_next.room c now;
        fits = fits;
        reaches = reaches_behind;
      }

  -- A committed event, after which the start slot is as it was.
  module _ (alive : is_dead h ≡ false) (e : Event) (size : ℕ) (mid : NodeStore D) (commits : Commits v e size h mid) (appended : IsAppended v e size h mid) (ready : IsReady v.seen v.may_leave mid) (stays : start_in v.seen mid ≡ start_in v.seen h) (reads : (d : D) → v.may_leave d (v.seen d)) where
    stepped : step e (list_in h) ≡ Some (list_in mid)
    stepped = commanded_step e (list_in h) (list_in mid) appended.accepted

    old_start : IsStarted (list_in h) (v.seen (disk_in h))
    old_start = s.started alive (v.seen (disk_in h)) (reads (disk_in h))

    -- The permanent release is the one that it was, so that the node may work again.
    module _ (leaves : leaves_permanent e ≡ true) where
      pub start_is_right : HasStarted v.may_leave mid
      start_is_right c now = started_by (list_in h) (list_in mid) (v.seen (disk_in h)) c (permanent_stays e (list_in h) (list_in mid) leaves stepped) (ap (λ l. start_bytes l) (ready.store.durable c now) ∙ stays) old_start

    -- The start record is written after it.
    module _ (versions : Versions) (release : Release) (are : AreVersions versions) (of : versions ≡ start_of_release release) (listed : permanent (list_in mid) ≡ Some release)
        (new : NodeStore D) (keeps : Keeps v (text_of_start versions) mid new) where
      either_started : (c : List ℕ) → (start_bytes c ≡ start_in v.seen mid) ⊎ (start_bytes c ≡ slot_with (text_of_start versions)) → IsStarted (list_in h) c ⊎ IsStarted (list_in mid) c
      either_started c (inl old) = inl (started_by (list_in h) (list_in h) (v.seen (disk_in h)) c refl (old ∙ stays) old_start)
      either_started c (inr slot) = inr (started_by_text (list_in mid) release versions c are of listed slot)

      pub commits_then : Commits v e size h new
      commits_then = record {
        sound = dead_is_sound v new keeps.dead;
        any_moment = λ living events after.
            joined v.moment v.left_since (disk_in h) (disk_in mid) (disk_in new) (IsCrashImageOf (store_with_doubt events (extent_in h) e size)) (commits.any_moment living events after)
            (weakened v.moment v.left_since (disk_in mid) (disk_in new) _ (IsCrashImageOf (store_with_doubt events (extent_in h) e size))
            (λ c image. stored_after events (extent_in h) e size (list_in h) (list_in mid) c after stepped image.0.image_of (inl (image.0.reaches ∙ appended.reaches)) (either_started c image.1))
            keeps.any_moment);
        counted = omega (arith, commits.counted, keeps.counted);
      }

      pub is_started_then : ((c : List ℕ) → v.may_leave (disk_in new) c → IsImageWithExtent c (list_in new) (extent_in new) × (start_bytes c ≡ slot_with (text_of_start versions))) → HasStarted v.may_leave new
      is_started_then images c now = started_by_text (list_in new) release versions c are of (ap permanent keeps.list ∙ listed) (images c now).1

      pub is_appended_then : ((c : List ℕ) → v.may_leave (disk_in new) c → IsImageWithExtent c (list_in new) (extent_in new) × (start_bytes c ≡ slot_with (text_of_start versions))) → IsAppended v e size h new
      is_appended_then images = record {
        worked = alive;
        accepted = appended.accepted ∙ ap (λ l. Ok l) (sym keeps.list);
        acknowledged = λ c now. (images c now).0;
        fits = appended.fits;
        reaches = keeps.extent ∙ appended.reaches;
      }

      -- the device failed when the event was committed already
      pub fails_then : HasFailed (v.failures (disk_in mid)) (v.failures (disk_in new)) → CommandRefused v.failures e size h new Device
      fails_then failed = ((alive, (list_in mid, appended.accepted), appended.fits), failed_since _ _ _ commits.counted keeps.counted failed, keeps.dead)
