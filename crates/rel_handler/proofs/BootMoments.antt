-- What a crash leaves at each moment of a boot, and the events that a store has then.
use Rattle.std.proofs.Common.{◌≡◌, ◌⊎◌, inl, inr, ⊎_elim, ℕ, ◌≤◌, Bool, true, List, [], ◌∷◌, ◌++◌, Some, refl, sym, ap, ◌∙◌, subst}
use Rattle.std.proofs.lemmas.List.{append-nil, append_assoc}
use Rattle.rel_disk.specs.declared.disk.Disk.{Ghosts}
use Rattle.rel_disk.specs.Moments.{LeavesOnly}
use Rattle.rel_disk.proofs.Moments.{joined, weakened}
use Rattle.rel_list.specs.Releases.{Releases, has_one_shot, permanent}
use Rattle.rel_list.specs.Event.{booted, recorded, list_after}
use Rattle.rel_list.specs.Event.Event.{boot}
use Rattle.rel_list.proofs.OneShotLaws.{none_recorded}
use Rattle.rel_list.proofs.PermanentLaws.{permanent-of_booted, permanent-of_recorded}
use Rattle.rel_records.specs.Lists.{Makes}
use Rattle.rel_store.specs.Changed.{LeavesOthers}
use Rattle.rel_store.specs.Layout.{format_of}
use Rattle.rel_store.specs.State as store
use Rattle.rel_store.specs.Records.{records_of}
use Rattle.rel_store.proofs.OnlyReads.{read_on}
use Rattle.rel_handler.specs.Booting.{IsOpened, IsBootOf, IsBooted, IsInBootRecord, IsOldOrBooted, Leaves, WritesNoStart, BootRecordRefused}
use Rattle.node_store.specs.Events.{Events, StartsAfter, BeginWith, HasRecentStart, StoreState, booted_or_same, store_with_boot_in_doubt, IsCrashImageOf}
use Rattle.node_store.specs.Image.{AreRecordsOf, Extent, booted_extent, extent_of, HasBootSpace, IsImageWithExtent, IsImageOf, IsLeftByBoot, IsStarted, start_bytes}
use Rattle.rel_handler.specs.Laws.{BootAlike}
use Rattle.rel_handler.specs.Moments.{KeepsStore, SettlesAt, SettlesStore}
use Rattle.node_store.specs.State.{disk_in, extent_in, list_in, IsReady}
use Rattle.node_store.specs.declared.node_store.NodeStore.{NodeStore}
use Rattle.rel_handler.proofs.BadRecords.{stands_for_one}
use Rattle.rel_handler.specs.Refusals.{BootRefused}
use Rattle.rel_handler.specs.declared.error.BootError.{BootError}
use Rattle.rel_handler.specs.declared.error.BootError.TheVariants as boot_error
use Rattle.rel_handler.proofs.BootLists.{booted_recorded, extent_recorded, space_of_recorded, space_recorded}
use Rattle.rel_handler.proofs.Boots.{IsLack}
use Rattle.node_store.proofs.Beginnings.{with_one_more, one_and_boots-push}
use Rattle.node_store.proofs.Images.{in_same_format, settled_extent, started_by}
use Rattle.node_store.proofs.Lists.{list_after-push}

-- A handler was read from a disk: it reaches as far as what a read gave.
pub extent_there : {D : Type 0} (v : Ghosts D) (disk : D) (h : NodeStore D) → IsOpened v disk h → extent_in h ≡ extent_of (v.seen disk)
extent_there v disk h opened = sym (ap (λ bytes. extent_of bytes) (sym opened.only_read.same) ∙ settled_extent v.seen v.may_leave h.store opened.read.store)

-- A handler was read from a disk: its store has the format that the bytes of the disk give.
format_there : {D : Type 0} (v : Ghosts D) (disk : D) (h : NodeStore D) → IsOpened v disk h → format_of (v.seen disk) ≡ h.store.format
format_there v disk h opened = ap (λ bytes. format_of bytes) (sym opened.only_read.same) ∙ sym opened.read.store.format

-- There is room for its boot.
module _ {D : Type 0} (v : Ghosts D) (disk : D) (h : NodeStore D) (opened : IsOpened v disk h) (room : HasBootSpace (extent_in h) (list_in h)) where
  far : extent_in h ≡ extent_of (v.seen disk)
  far = extent_there v disk h opened

  are_records : AreRecordsOf h.store.format (store.records_in h.store) (list_in h)
  are_records = record { makes = subst (Makes h.store.format (store.records_in h.store)) (sym opened.read.as_recorded) opened.read.makes; alone = λ one. opened.read.as_recorded }

  pub ready_now : IsReady v.seen v.may_leave h
  ready_now = record { store = opened.read.store; list = are_records; room = room }

  -- what a read gave stands for its list
  pub image_there : IsImageOf (v.seen disk) (list_in h)
  image_there = record {
    bodies = store.records_in h.store;
    store = ap records_of (sym opened.only_read.same) ∙ opened.read.store.records;
    list = in_same_format (v.seen disk) h.store.format (store.records_in h.store) (list_in h) (format_there v disk h opened) are_records;
    room = subst (λ x. HasBootSpace x (list_in h)) far room;
  }

  -- What it leaves has the boot of these bytes left.
  left_by_boot : (c : List ℕ) → IsOldOrBooted v.seen h c → IsLeftByBoot (v.seen disk) c
  left_by_boot c old = record { list = list_in h; was = image_there; left = by_image old }
    where
      slot_there : start_bytes (v.seen (disk_in h)) ≡ start_bytes (v.seen disk)
      slot_there = ap (λ l. start_bytes l) opened.only_read.same

      behind : IsImageWithExtent c (booted (list_in h)) (booted_extent (extent_in h) (list_in h)) → IsImageWithExtent c (booted (list_in h)) (booted_extent (extent_of (v.seen disk)) (list_in h))
      behind image = subst (λ x. IsImageWithExtent c (booted (list_in h)) (booted_extent x (list_in h))) far image

      by_image : IsOldOrBooted v.seen h c
          → (IsImageWithExtent c (list_in h) (extent_of (v.seen disk)) × (start_bytes c ≡ start_bytes (v.seen disk)))
          ⊎ (IsImageWithExtent c (booted (list_in h)) (booted_extent (extent_of (v.seen disk)) (list_in h)) × ((start_bytes c ≡ start_bytes (v.seen disk)) ⊎ IsStarted (list_in h) c))
      by_image (inl (inl image, slot)) = inl (subst (IsImageWithExtent c (list_in h)) far image, slot ∙ slot_there)
      by_image (inl (inr image, slot)) = inr (behind image, inl (slot ∙ slot_there))
      by_image (inr (image, right)) = inr (behind image, inr right)

  -- A boot is a reading of the node and what it writes.
  module _ (counts_now : (disk : D) (t : ℕ) (c : List ℕ) → t ≤ v.moment disk → v.may_leave disk c → v.left_since disk t c) (new : D) (leaves : Leaves v (IsOldOrBooted v.seen h) (disk_in h) new) where
    pub boot_moments : LeavesOnly v.moment v.left_since disk new (λ c. v.may_leave disk c ⊎ IsLeftByBoot (v.seen disk) c)
    boot_moments =
        joined v.moment v.left_since disk (disk_in h) new _ (weakened v.moment v.left_since disk (disk_in h) (v.may_leave disk) _ (λ c now. inl now) opened.only_read.any_moment)
        (weakened v.moment v.left_since (disk_in h) new _ (λ c. v.may_leave disk c ⊎ IsLeftByBoot (v.seen disk) c) (λ c old. inr (left_by_boot c old)) leaves.any_moment)

    pub boot_settles : (at : D) → SettlesAt v disk (disk_in h) at → SettlesAt v disk new at
    boot_settles at s = record {
      until = s.until;
      first_sync = s.first_sync;
      from =
          joined v.moment v.left_since at (disk_in h) new _ s.from
          (weakened v.moment v.left_since (disk_in h) new _ (λ c. (c ≡ v.seen disk) ⊎ IsLeftByBoot (v.seen disk) c) (λ c old. inr (left_by_boot c old)) leaves.any_moment);
    }

-- What is read is what the bytes stand for, as records report it.
module _ {D : Type 0} (v : Ghosts D) (disk : D) (h : NodeStore D) (opened : IsOpened v disk h) (es : Releases) (image : IsImageOf (v.seen disk) es) (only : list_in h ≡ recorded es) where
  -- The list after the boot is that of a boot of the bytes.
  pub boot_of : (new : NodeStore D) (dead : Bool) → IsBooted v h new → IsBootOf (v.seen disk) es (record { store = new.store; list = new.list; dead = dead })
  boot_of new dead is = record {
    list = is.list ∙ (ap booted only ∙ booted_recorded es image.list.alone);
    extent = is.extent ∙ ((λ i. booted_extent (extent_there v disk h opened i) (only i)) ∙ extent_recorded es image.list.alone (extent_of (v.seen disk)));
  }

  -- There is room for the record of the boot: where it is refused, that is for want of memory, or the device failed.
  pub record_lack : (e : BootError) → BootRecordRefused (extent_in h) (list_in h) e → IsLack e
  record_lack boot_error.NoMemory refused = inr refl
  record_lack (boot_error.BadRecord i) refused =
      absurd (refused.0 (subst (λ x. HasBootSpace x (list_in h)) (sym (extent_there v disk h opened)) (subst (HasBootSpace (extent_of (v.seen disk))) (sym only) (space_recorded (extent_of (v.seen disk)) es image.list.alone image.room))))
  record_lack boot_error.NotAStore refused = absurd refused
  record_lack (boot_error.Damaged at) refused = absurd refused
  record_lack boot_error.Device refused = absurd refused

  -- A start record that is right was read as one.
  pub right_there : IsStarted es (v.seen disk) → IsStarted (list_in h) (v.seen (disk_in h))
  right_there right = started_by es (list_in h) (v.seen disk) (v.seen (disk_in h)) (ap permanent only ∙ permanent-of_recorded es) (ap (λ l. start_bytes l) opened.only_read.same) right

  -- A boot that writes no start record after the handler was read has written none since before it was read.
  pub writes_no_start : (new : D) → WritesNoStart v (list_in h) (disk_in h) new → WritesNoStart v es disk new
  writes_no_start new then = record {
    free = λ none. read_on v.seen v.may_leave v.moment v.left_since disk (disk_in h) new opened.only_read (then.free (ap has_one_shot only ∙ none_recorded es none));
    any_moment = λ one.
        joined v.moment v.left_since disk (disk_in h) new _
        (weakened v.moment v.left_since disk (disk_in h) (v.may_leave disk) _ (λ c now. inl now) opened.only_read.any_moment)
        (weakened v.moment v.left_since (disk_in h) new _ (λ c. v.may_leave disk c ⊎ LeavesOthers (IsInBootRecord (v.seen disk) es) (v.seen disk) c)
        (λ c left. ⊎_elim (λ now. inl (opened.only_read.crash c now)) (λ kept. inr (there one c kept)) left) (then.any_moment (one_there one)));
    now = λ one. there one (v.seen new) (then.now (one_there one));
  }
    where
      one_there : has_one_shot es ≡ true → has_one_shot (list_in h) ≡ true
      one_there one = ap has_one_shot (only ∙ image.list.alone one) ∙ one

      there : has_one_shot es ≡ true → (c : List ℕ) → LeavesOthers (IsInBootRecord (v.seen (disk_in h)) (list_in h)) (v.seen (disk_in h)) c → LeavesOthers (IsInBootRecord (v.seen disk) es) (v.seen disk) c
      there one c kept =
          subst (λ bytes. LeavesOthers (IsInBootRecord bytes es) bytes c) opened.only_read.same
          (subst (λ list. LeavesOthers (IsInBootRecord (v.seen (disk_in h)) list) (v.seen (disk_in h)) c) (only ∙ image.list.alone one) kept)

-- Why there is no record of a boot is why the boot is refused.
pub record_refused : {D : Type 0} (v : Ghosts D) (disk now : D) (h : NodeStore D) → IsOpened v disk h → (e : BootError) → BootRecordRefused (extent_in h) (list_in h) e
    → BootRefused (v.seen disk) (v.failures disk) (v.failures now) e
record_refused v disk now h opened boot_error.NoMemory refused = tt
record_refused v disk now h opened (boot_error.BadRecord i) refused = (
  store.records_in h.store,
  ap records_of (sym opened.only_read.same) ∙ opened.read.store.records,
  inr (list_in h, subst (λ f. Makes f (store.records_in h.store) (list_in h)) (sym (format_there v disk h opened)) opened.read.makes, (λ space. refused.0 (subst (λ x. HasBootSpace x (list_in h)) (sym (extent_there v disk h opened)) space)), refused.1),
)
record_refused v disk now h opened boot_error.NotAStore refused = absurd refused
record_refused v disk now h opened (boot_error.Damaged at) refused = absurd refused
record_refused v disk now h opened boot_error.Device refused = absurd refused

-- A store of one list is one of another that records report alike.
pub image_alike : (c : List ℕ) (es fs : Releases) → recorded es ≡ recorded fs → (has_one_shot fs ≡ true → recorded fs ≡ fs) → IsImageOf c es → IsImageOf c fs
image_alike c es fs same alone image = record {
  bodies = image.bodies;
  store = image.store;
  list = record { makes = subst (Makes (format_of c) image.bodies) same image.list.makes; alone = alone };
  room = space_of_recorded (extent_of c) es fs alone same (space_recorded (extent_of c) es image.list.alone image.room);
}

-- The bytes were read of a store with these events, and this is left of them.
module _ (s : StoreState) (bytes : List ℕ) (of : IsCrashImageOf s bytes) where
  abbrev x : Extent
  x = extent_of bytes

  abbrev ran : Events
  ran = s.known.ran

  abbrev since : BeginWith ran of.events
  since = of.has.0

  -- with the boot's event
  since_with_boot : BeginWith ran (of.events ++ boot ∷ [])
  since_with_boot = with_one_more ran of.events boot since

  -- as they were read
  pub stored_read : IsCrashImageOf (store_with_boot_in_doubt ran of.events x) bytes
  stored_read = record { events = of.events; has = (since, inl (refl, refl)); list = of.list; after = of.after; image_of = of.image_of; start = of.start }

  all : list_after (of.events ++ boot ∷ []) ≡ Some (booted of.list)
  all = list_after-push of.events boot of.list (booted of.list) of.after refl

  module _ (c : List ℕ) where
    moved : start_bytes c ≡ start_bytes bytes → StartsAfter of.start.before bytes → StartsAfter of.start.before c
    moved slot (es, after, started) = (es, after, started_by es es bytes c refl slot started)

    same_start : start_bytes c ≡ start_bytes bytes → HasRecentStart ran of.events c
    same_start slot = record {
      before = of.start.before;
      later = of.start.later;
      is = of.start.is;
      last = of.start.last;
      since = of.start.since;
      starts = moved slot of.start.starts;
    }

    later_start : start_bytes c ≡ start_bytes bytes → HasRecentStart ran (of.events ++ boot ∷ []) c
    later_start slot = record {
      before = of.start.before;
      later = of.start.later ++ boot ∷ [];
      is = ap (λ (l : Events). l ++ boot ∷ []) of.start.is ∙ append_assoc of.start.before of.start.later (boot ∷ []);
      last = one_and_boots-push of.start.later of.start.last;
      since = of.start.since;
      starts = moved slot of.start.starts;
    }

    -- the boot wrote it
    new_start : IsStarted (booted of.list) c → HasRecentStart ran (of.events ++ boot ∷ []) c
    new_start started = record {
      before = of.events ++ boot ∷ [];
      later = [];
      is = sym (append-nil (of.events ++ boot ∷ []));
      last = tt;
      since = since_with_boot;
      starts = (booted of.list, all, started);
    }

    module _ (left : IsLeftByBoot bytes c) where
      alike : BootAlike left.list of.list
      alike = stands_for_one bytes left.list of.list left.was of.image_of

      pub stored_left : IsCrashImageOf (store_with_boot_in_doubt ran of.events x) c
      stored_left = by_image left.left
        where
          by_image : (IsImageWithExtent c left.list x × (start_bytes c ≡ start_bytes bytes)) ⊎ (IsImageWithExtent c (booted left.list) (booted_extent x left.list) × ((start_bytes c ≡ start_bytes bytes) ⊎ IsStarted left.list c)) → IsCrashImageOf (store_with_boot_in_doubt ran of.events x) c
          by_image (inl (image, slot)) = record {
            events = of.events;
            has = (since, inl (refl, image.reaches));
            list = of.list;
            after = of.after;
            image_of = image_alike c left.list of.list alike.recorded of.image_of.list.alone image.image_of;
            start = same_start slot;
          }
          by_image (inr (image, slot)) = record {
            events = of.events ++ boot ∷ [];
            has = (since_with_boot, inr (refl, inl (image.reaches ∙ (alike.extents x ∙ ap (booted_or_same x) (sym of.after)))));
            list = booted of.list;
            after = all;
            image_of = subst (IsImageOf c) alike.booted image.image_of;
            start = ⊎_elim later_start (λ new. new_start (started_by left.list (booted of.list) c c (ap permanent (sym alike.booted) ∙ permanent-of_booted left.list) refl new)) slot;
          }

-- A boot that has settled a store's events keeps them, with its own or without.
pub settles_store : {D : Type 0} (v : Ghosts D) → ((disk : D) → v.may_leave disk (v.seen disk)) → ((disk : D) (t : ℕ) (c : List ℕ) → t ≤ v.moment disk → v.may_leave disk c → v.left_since disk t c)
    → (disk new at : D) → SettlesAt v disk new at → (s : StoreState) → ((c : List ℕ) → v.may_leave disk c → IsCrashImageOf s c) → SettlesStore v s disk new
settles_store {D} v reads counts_now disk new at settles s here = record {
  events = of.events;
  extent = extent_of (v.seen disk);
  has = of.has;
  any_moment =
      joined v.moment v.left_since disk at new _ (weakened v.moment v.left_since disk at (v.may_leave disk) _ (λ c now. inl (here c now)) settles.until)
      (weakened v.moment v.left_since at new _ (λ c. IsCrashImageOf s c ⊎ IsCrashImageOf (store_with_boot_in_doubt s.known.ran of.events (extent_of (v.seen disk))) c) (λ c left. inr (from c left)) settles.from);
  now = λ c now. from c (settles.from.each c (counts_now new (v.moment at) c settles.from.later now));
}
  where
    of : IsCrashImageOf s (v.seen disk)
    of = here (v.seen disk) (reads disk)

    from : (c : List ℕ) → (c ≡ v.seen disk) ⊎ IsLeftByBoot (v.seen disk) c → IsCrashImageOf (store_with_boot_in_doubt s.known.ran of.events (extent_of (v.seen disk))) c
    from c (inl is) = subst (IsCrashImageOf (store_with_boot_in_doubt s.known.ran of.events (extent_of (v.seen disk)))) (sym is) (stored_read s (v.seen disk) of)
    from c (inr left) = stored_left s (v.seen disk) of c left

-- A boot keeps a store's events from its reading on.
pub keeps_store : {D : Type 0} (v : Ghosts D) → ((disk : D) → v.may_leave disk (v.seen disk)) → (counts_now : (disk : D) (t : ℕ) (c : List ℕ) → t ≤ v.moment disk → v.may_leave disk c → v.left_since disk t c)
    → (disk : D) (h : NodeStore D) (opened : IsOpened v disk h) (room : HasBootSpace (extent_in h) (list_in h)) (new : D) (leaves : Leaves v (IsOldOrBooted v.seen h) (disk_in h) new)
    → (at : D) → SettlesAt v disk (disk_in h) at → (s : StoreState) → ((c : List ℕ) → v.may_leave disk c → IsCrashImageOf s c) → KeepsStore v s disk new
keeps_store v reads counts_now disk h opened room new leaves at settles s here =
    inr (settles_store v reads counts_now disk new at (boot_settles v disk h opened room counts_now new leaves at settles) s here)
