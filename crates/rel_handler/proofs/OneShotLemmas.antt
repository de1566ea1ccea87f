-- A one-shot that a boot takes away.
use Rattle.std.proofs.Common.{◌≡◌, inl, inr, ⊎_elim, ℕ, ◌+◌, ◌-◌, ◌≤◌, Bool, true, false, List, [], ◌∷◌, ◌++◌, length, length-append, refl, sym, ap, ◌∙◌, subst, arith, true≢false}
use Rattle.rel_disk.specs.declared.disk.Disk.{Ghosts}
use Rattle.rel_disk.specs.Moments.{LeavesOnly}
use Rattle.rel_disk.proofs.Moments.{started, weakened, both}
use Rattle.rel_list.specs.Releases.{Releases, has_one_shot}
use Rattle.rel_list.specs.Event.{booted, recorded}
use Rattle.rel_list.specs.Event.Event.{boot}
use Rattle.rel_list.proofs.BootLaws.{boot_leaves_no_one_shot}
use Rattle.rel_records.proofs.FormatLemmas.{only_restarts_write_them}
use Rattle.rel_store.specs.Changed.{LeavesOthers, IsInRecord}
use Rattle.rel_store.specs.Layout.{base_of, format_of}
use Rattle.rel_store.specs.Records.{StandsEither, end_of}
use Rattle.rel_store.specs.State as store
use Rattle.rel_store.specs.declared.store.Store.{Store}
use Rattle.rel_store.proofs.Ownership.{at_rest}
use Rattle.rel_handler.specs.Booting.{IsBooted, IsInBootRecord, IsOldOrTaken, Leaves}
use Rattle.node_store.specs.Commits.{IsRecordFor}
use Rattle.node_store.specs.Image.{AreRecordsOf, Extent, boot_size, booted_extent, extent_after, HasSpace, IsImageWithExtent, start_bytes}
use Rattle.node_store.specs.State.{disk_in, extent_in, list_in, start_in, store_extent, IsReady}
use Rattle.node_store.specs.declared.node_store.NodeStore.{NodeStore}
use Rattle.rel_handler.proofs.BootLists.{booted_still, extent_of_none, extent_of_one}
use Rattle.node_store.proofs.Commits.{image_now}
use Rattle.node_store.proofs.Images.{either_behind, either_image, no_boot_space, same_extent, same_records, settled_extent, settled_so, with_record}

module _ {D : Type 0} (v : Ghosts D) (h : NodeStore D) (ready : IsReady v.seen v.may_leave h) where
  -- each image of its disk stands for its list
  pub old_taken : (c : List ℕ) → v.may_leave (disk_in h) c → IsOldOrTaken v.seen h c
  old_taken c now = (inl (image_now v h ready c now), ap (λ l. start_bytes l) (ready.store.durable c now))

  -- nothing was written
  module _ (only_now : (c : List ℕ) → v.left_since (disk_in h) (v.moment (disk_in h)) c → v.may_leave (disk_in h) c) where
    pub takes_nothing : (new : D) → new ≡ disk_in h → Leaves v (IsOldOrTaken v.seen h) (disk_in h) new
    takes_nothing new same = subst (λ d. Leaves v (IsOldOrTaken v.seen h) (disk_in h) d) (sym same) (record {
      any_moment = started v.moment v.left_since (disk_in h) (IsOldOrTaken v.seen h) (λ c left. old_taken c (only_now c left));
      counted = omega arith;
    })

    pub leaves_others : (new : D) → new ≡ disk_in h → LeavesOnly v.moment v.left_since (disk_in h) new (LeavesOthers (IsInBootRecord (v.seen (disk_in h)) (list_in h)) (v.seen (disk_in h)))
    leaves_others new same =
        subst (λ d. LeavesOnly v.moment v.left_since (disk_in h) d (LeavesOthers (IsInBootRecord (v.seen (disk_in h)) (list_in h)) (v.seen (disk_in h)))) (sym same)
        (at_rest v.moment v.left_since v.seen v.may_leave (IsInBootRecord (v.seen (disk_in h)) (list_in h)) (disk_in h) ready.store.durable only_now)

  -- there was nothing to write
  pub booted_so : recorded (list_in h) ≡ list_in h → has_one_shot (list_in h) ≡ false → IsBooted v h h
  booted_so still none = record { list = sym (booted_still (list_in h) none still); extent = sym (extent_of_none (extent_in h) (list_in h) none); ready = ready }

  -- The record of the boot is appended after a reservation.
  module _ (one : has_one_shot (list_in h) ≡ true) (reserved : Store D) (same : store.IsSame h.store reserved) (body : List ℕ) (reported : IsRecordFor body boot (list_in h)) (long : length body ≡ boot_size (list_in h)) where
    abbrev next : Releases
    next = booted (list_in h)

    none : has_one_shot next ≡ false
    none = boot_leaves_no_one_shot (list_in h)

    are_next : AreRecordsOf h.store.format (store.records_in h.store ++ body ∷ []) next
    are_next = with_record h.store.format boot (list_in h) next (store.records_in h.store) body ready.list reported (λ writes. absurd (true≢false (sym writes ∙ only_restarts_write_them boot (list_in h) refl))) refl

    far : extent_after (extent_in h) (length body) ≡ booted_extent (extent_in h) (list_in h)
    far = ap (extent_after (extent_in h)) long ∙ sym (extent_of_one (extent_in h) (list_in h) one)

    -- There is space for the record of the boot.
    pub fits_reserved : store.Fits (store.end_in reserved) (length body)
    fits_reserved = subst (λ e. store.Fits e (length body)) (sym same.end) (subst (λ n. HasSpace (extent_in h) n) (sym long) (ready.room one))

    taking : (text c : List ℕ) → text ≡ start_in v.seen h → StandsEither (store.records_in h.store) body text c × (base_of c ≡ base_of (v.seen (disk_in h))) × (format_of c ≡ h.store.format) → IsOldOrTaken v.seen h c
    taking text c slot either =
        let (image, at) = either_image h.store.format (list_in h) next (store.records_in h.store) body text ready.list are_next (base_of (v.seen (disk_in h))) (extent_in h) (settled_so v.seen v.may_leave h.store ready.store) ready.room (no_boot_space (extent_after (extent_in h) (length body)) next none) c either in
        (⊎_elim (λ old. inl old) (λ taken. inr (subst (IsImageWithExtent c next) far taken)) image, at ∙ slot)

    pub takes : (new : Store D) (text : List ℕ) → LeavesOnly v.moment v.left_since (store.disk_in reserved) (store.disk_in new) (StandsEither (store.records_in reserved) body text)
        → LeavesOnly v.moment v.left_since (store.disk_in reserved) (store.disk_in new) (LeavesOthers (IsInRecord (store.gate_in reserved) (length body)) (v.seen (store.disk_in reserved)))
        → text ≡ start_in v.seen h → v.failures (store.disk_in reserved) ≤ v.failures (store.disk_in new) → Leaves v (IsOldOrTaken v.seen h) (disk_in h) (store.disk_in new)
    takes new text leaves kept slot counted = record {
      any_moment =
          subst (λ d. LeavesOnly v.moment v.left_since d (store.disk_in new) (IsOldOrTaken v.seen h)) same.disk
          (weakened v.moment v.left_since (store.disk_in reserved) (store.disk_in new) _ (IsOldOrTaken v.seen h)
          (λ c either. taking text c slot (either_behind v h.store reserved ready.store same body text c either.0 either.1))
          (both v.moment v.left_since (store.disk_in reserved) (store.disk_in new) _ _ leaves kept));
      counted = subst (λ d. v.failures d ≤ v.failures (store.disk_in new)) same.disk counted;
    }

    -- All other bytes are as they were.
    pub takes_alone : (new : Store D) → LeavesOnly v.moment v.left_since (store.disk_in reserved) (store.disk_in new) (LeavesOthers (IsInRecord (store.gate_in reserved) (length body)) (v.seen (store.disk_in reserved)))
        → LeavesOnly v.moment v.left_since (disk_in h) (store.disk_in new) (LeavesOthers (IsInBootRecord (v.seen (disk_in h)) (list_in h)) (v.seen (disk_in h)))
    takes_alone new kept =
        subst (λ d. LeavesOnly v.moment v.left_since d (store.disk_in new) (LeavesOthers (IsInBootRecord (v.seen (disk_in h)) (list_in h)) (v.seen (disk_in h)))) same.disk
        (weakened v.moment v.left_since (store.disk_in reserved) (store.disk_in new) _ _ own kept)
      where
        gate : store.gate_in reserved ≡ end_of (v.seen (disk_in h)) - 1
        gate = omega (arith, same.end, ap (λ (x : Extent). x.end) (settled_extent v.seen v.may_leave h.store ready.store))

        own : (c : List ℕ) → LeavesOthers (IsInRecord (store.gate_in reserved) (length body)) (v.seen (store.disk_in reserved)) c → LeavesOthers (IsInBootRecord (v.seen (disk_in h)) (list_in h)) (v.seen (disk_in h)) c
        own c others =
            subst (λ d. LeavesOthers (IsInBootRecord (v.seen (disk_in h)) (list_in h)) (v.seen d) c) same.disk
            (subst (λ n. LeavesOthers (IsInRecord (end_of (v.seen (disk_in h)) - 1) n) (v.seen (store.disk_in reserved)) c) long
            (subst (λ at. LeavesOthers (IsInRecord at (length body)) (v.seen (store.disk_in reserved)) c) gate others))

    -- The record of the boot was appended.
    pub taken : (new : Store D) (dead : Bool) → store.IsSettled v.seen v.may_leave new → store.records_in new ≡ store.records_in reserved ++ body ∷ [] → store.base_in new ≡ store.base_in reserved → store.end_in new ≡ store.end_in reserved + (5 + length body) → store.format_in new ≡ store.format_in reserved
        → IsBooted v h (record { store = new; list = next; dead = dead })
    taken new dead settled added base end format = record {
      list = refl;
      extent =
          same_extent (store_extent new) (extent_after (extent_in h) (length body)) (base ∙ same.base) (end ∙ ap (λ n. n + (5 + length body)) same.end)
          (ap (λ bodies. length bodies) (added ∙ ap (λ bodies. bodies ++ body ∷ []) same.records) ∙ omega (arith, length-append (store.records_in h.store) (body ∷ [])))
          ∙ far;
      ready = record {
        store = settled;
        list = same_records h.store.format new.format (store.records_in h.store ++ body ∷ []) (store.records_in new) next (format ∙ same.format) (added ∙ ap (λ bodies. bodies ++ body ∷ []) same.records) are_next;
        room = no_boot_space (store_extent new) next none;
      };
    }
