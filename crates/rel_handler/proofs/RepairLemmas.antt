-- The second part of a boot: a one-shot is taken away, and the start record is repaired.
use Rattle.std.proofs.Common.{◌≡◌, ◌⊎◌, inl, inr, ⊎_elim, ℕ, ◌≤◌, Bool, true, false, cond, find, List, [], ◌∷◌, length, Some, None, true≢false, refl, sym, ap, ◌∙◌, subst, arith}
use Rattle.std.specs.Option.{option_map}
use Rattle.std.specs.Prelude.{◌==◌, ◌↔◌, IsTrue}
use Rattle.rel_disk.specs.declared.disk.Disk.{Ghosts}
use Rattle.rel_disk.specs.Moments.{LeavesOnly, HasFailed}
use Rattle.rel_disk.proofs.Moments.{joined, weakened}
use Rattle.rel_files.specs.File.{HasVersions}
use Rattle.rel_files.specs.Release.{Release}
use Rattle.rel_list.specs.Releases.{Releases, Entry, has_one_shot, of_status, permanent}
use Rattle.rel_list.specs.Event.{booted}
use Rattle.rel_list.specs.Status.{is_permanent}
use Rattle.rel_list.proofs.PermanentLaws.{permanent-of_booted}
use Rattle.rel_records.specs.Limits.{has_one_permanent}
use Rattle.rel_records.specs.Lists.{HaveVersions}
use Rattle.rel_store.specs.Changed.{LeavesOthers}
use Rattle.rel_store.specs.Layout.{slot_with}
use Rattle.start_record.specs.Text.{Versions, AreVersions, SpellsStart, start_text as text_of_start}
use Rattle.rel_store.specs.Contents.{HasOnlyRead}
use Rattle.rel_store.proofs.OnlyReads.{read_on}
use Rattle.rel_handler.specs.Booting.{IsBooted, IsImageBehindBoot, IsInBootRecord, IsOldOrTaken, IsOldOrBooted, Leaves, WritesNoStart, FinishRefused}
use Rattle.rel_handler.specs.Refusals.{BootRefused}
use Rattle.rel_handler.specs.declared.error.BootError.{BootError}
use Rattle.rel_handler.specs.declared.error.BootError.TheVariants as boot
use Rattle.node_store.specs.Commits.{HasOldStartOr, Keeps}
use Rattle.rel_handler.specs.Moments.{HasRead}
use Rattle.node_store.specs.Start.{start_of_release}
use Rattle.node_store.specs.Image.{booted_extent, IsImageWithExtent, IsStarted, start_bytes}
use Rattle.node_store.specs.State.{disk_in, extent_in, list_in, start_in, HasStarted, IsReady}
use Rattle.node_store.specs.declared.node_store.NodeStore.{NodeStore}
use Rattle.rel_handler.proofs.Boots.{IsLack}
use Rattle.node_store.proofs.Images.{started_by_text}
use Rattle.rel_handler.proofs.OneShotLemmas.{old_taken, takes_nothing}
use Rattle.rel_store.proofs.Scan.{failed_since}

-- a list without a permanent release has no entry of that status
none_permanent : (es : Releases) → permanent es ≡ None → length (of_status is_permanent es) ≡ 0
none_permanent [] none = refl
none_permanent (e ∷ es) none = go (is_permanent e.status) (none_permanent es) none
  where
    go : (b : Bool) → (permanent es ≡ None → length (of_status is_permanent es) ≡ 0)
        → option_map (λ (f : Entry). f.release) (cond b (Some e) (find (λ (f : Entry). is_permanent f.status) es)) ≡ None
        → length (cond b (e ∷ of_status is_permanent es) (of_status is_permanent es)) ≡ 0
    go true rest none = cc
    go false rest none = rest none

-- A list with exactly one permanent release has a permanent release.
pub one_is_permanent : (es : Releases) → has_one_permanent es ≡ true → permanent es ≡ None → ⊥
one_is_permanent es one none =
    let no_entry = none_permanent es none in
    true≢false (sym one ∙ ap (λ n. n == 1) no_entry)

-- The versions of the permanent release are texts of versions, where those of all releases are.
pub permanent_versions : (es : Releases) (r : Release) → HaveVersions es → permanent es ≡ Some r → HasVersions r
permanent_versions [] r all is = cc
permanent_versions (e ∷ es) r all is = go (is_permanent e.status) (permanent_versions es r all.1) is
  where
    go : (b : Bool) → (permanent es ≡ Some r → HasVersions r)
        → option_map (λ (f : Entry). f.release) (cond b (Some e) (find (λ (f : Entry). is_permanent f.status) es)) ≡ Some r → HasVersions r
    go true rest is = let same : e.release ≡ r = cc is in subst HasVersions same all.0
    go false rest is = rest is

-- a start record that doesn't spell these versions isn't that of the release that has them
pub another_start : {D : Type 0} (v : Ghosts D) (h : NodeStore D) (versions : Versions) (r : Release) → versions ≡ start_of_release r → permanent (list_in h) ≡ Some r
    → (is : Bool) → IsTrue is ↔ SpellsStart (start_in v.seen h) versions → is ≡ false → IsStarted (list_in h) (v.seen (disk_in h)) → ⊥
another_start v h versions r of listed is value another right =
    let same : right.release ≡ r = cc (right.listed, listed) in
    let spells = subst (λ w. SpellsStart (start_in v.seen h) w) (ap start_of_release same ∙ sym of) right.spells in
    true≢false (sym (value.1 spells) ∙ another)

-- nothing was read or written yet
pub rests_so : {D : Type 0} (v : Ghosts D) (h : NodeStore D) → IsReady v.seen v.may_leave h → ((c : List ℕ) → v.left_since (disk_in h) (v.moment (disk_in h)) c → v.may_leave (disk_in h) c)
    → Leaves v (IsOldOrBooted v.seen h) (disk_in h) (disk_in h)
rests_so v h ready only_now =
    let still = takes_nothing v h ready only_now (disk_in h) refl in
    record { any_moment = weakened v.moment v.left_since (disk_in h) (disk_in h) _ (IsOldOrBooted v.seen h) (λ c old. inl old) still.any_moment; counted = still.counted }

-- The start record was read, and then a one-shot was taken away, if there was one.
module _ {D : Type 0} (v : Ghosts D) (h mid : NodeStore D) (ready : IsReady v.seen v.may_leave h) (read : HasRead v h mid) where
  slot_same : start_in v.seen mid ≡ start_in v.seen h
  slot_same = ap (λ l. start_bytes l) read.only_read.same

  -- what a crash leaves so far
  pub reads_alone : Leaves v (IsOldOrBooted v.seen h) (disk_in h) (disk_in mid)
  reads_alone = record {
    any_moment = weakened v.moment v.left_since (disk_in h) (disk_in mid) (v.may_leave (disk_in h)) _ (λ c now. inl (old_taken v h ready c now)) read.only_read.any_moment;
    counted = read.counted;
  }

  behind_boot : (c : List ℕ) → IsImageBehindBoot mid c → IsImageBehindBoot h c
  behind_boot c image = subst (λ l. IsImageWithExtent c (booted l) (booted_extent (extent_in h) l)) read.list (subst (λ x. IsImageWithExtent c (booted (list_in mid)) (booted_extent x (list_in mid))) read.extent image)

  old_or_taken : (c : List ℕ) → IsOldOrTaken v.seen mid c → IsOldOrTaken v.seen h c
  old_or_taken c (image, slot) =
      (⊎_elim (λ old. inl (subst (λ x. IsImageWithExtent c (list_in h) x) read.extent (subst (λ l. IsImageWithExtent c l (extent_in mid)) read.list old))) (λ taken. inr (behind_boot c taken)) image, slot ∙ slot_same)

  module _ (then : NodeStore D) (leaves : Leaves v (IsOldOrTaken v.seen mid) (disk_in mid) (disk_in then)) where
    pub takes_then : Leaves v (IsOldOrBooted v.seen h) (disk_in h) (disk_in then)
    takes_then = record {
      any_moment =
          joined v.moment v.left_since (disk_in h) (disk_in mid) (disk_in then) _ reads_alone.any_moment
          (weakened v.moment v.left_since (disk_in mid) (disk_in then) _ (IsOldOrBooted v.seen h) (λ c old. inl (old_or_taken c old)) leaves.any_moment);
      counted = omega (arith, read.counted, leaves.counted);
    }

    -- Without a write of the start record, the record that takes the one-shot away was written alone.
    pub alone_then : ((disk : D) (t : ℕ) (c : List ℕ) → t ≤ v.moment disk → v.may_leave disk c → v.left_since disk t c) → v.may_leave (disk_in then) (v.seen (disk_in then))
        → (has_one_shot (list_in mid) ≡ false → disk_in then ≡ disk_in mid)
        → LeavesOnly v.moment v.left_since (disk_in mid) (disk_in then) (LeavesOthers (IsInBootRecord (v.seen (disk_in mid)) (list_in mid)) (v.seen (disk_in mid)))
        → WritesNoStart v (list_in h) (disk_in h) (disk_in then)
    alone_then counts_now image free others = record {
      free = λ none. subst (λ d. HasOnlyRead v.seen v.may_leave v.moment v.left_since (disk_in h) d) (sym (free (ap has_one_shot read.list ∙ none))) read.only_read;
      any_moment = λ one.
          joined v.moment v.left_since (disk_in h) (disk_in mid) (disk_in then) _
          (weakened v.moment v.left_since (disk_in h) (disk_in mid) (v.may_leave (disk_in h)) _ (λ c now. inl now) read.only_read.any_moment)
          (weakened v.moment v.left_since (disk_in mid) (disk_in then) _ (λ c. v.may_leave (disk_in h) c ⊎ LeavesOthers (IsInBootRecord (v.seen (disk_in h)) (list_in h)) (v.seen (disk_in h)) c) (λ c kept. inr (there c kept)) others);
      now = λ one. there (v.seen (disk_in then)) (others.each (v.seen (disk_in then)) (counts_now (disk_in then) (v.moment (disk_in mid)) (v.seen (disk_in then)) others.later image));
    }
      where
        there : (c : List ℕ) → LeavesOthers (IsInBootRecord (v.seen (disk_in mid)) (list_in mid)) (v.seen (disk_in mid)) c → LeavesOthers (IsInBootRecord (v.seen (disk_in h)) (list_in h)) (v.seen (disk_in h)) c
        there c kept =
            subst (λ bytes. LeavesOthers (IsInBootRecord bytes (list_in h)) bytes c) read.only_read.same
            (subst (λ es. LeavesOthers (IsInBootRecord (v.seen (disk_in mid)) es) (v.seen (disk_in mid)) c) read.list kept)

    -- Why a boot didn't come to its end, from before the start record was read, where that holds from after it.
    pub refused_then : (e : BootError) → FinishRefused v mid then e → FinishRefused v h then e
    refused_then boot.Device refused = failed_since _ _ _ read.counted leaves.counted refused
    refused_then boot.NoMemory refused = read_on v.seen v.may_leave v.moment v.left_since (disk_in h) (disk_in mid) (disk_in then) read.only_read refused
    refused_then boot.NotAStore refused = absurd refused
    refused_then (boot.Damaged at) refused = absurd refused
    refused_then (boot.BadRecord i) refused = absurd refused

    module _ (is : IsBooted v mid then) (slot : start_in v.seen then ≡ start_in v.seen mid) where
      pub booted_then : IsBooted v h then
      booted_then = record {
        list = is.list ∙ ap booted read.list;
        extent = is.extent ∙ (ap (λ x. booted_extent x (list_in mid)) read.extent ∙ ap (booted_extent (extent_in h)) read.list);
        ready = is.ready;
      }

      module _ (versions : Versions) (r : Release) (are : AreVersions versions) (of : versions ≡ start_of_release r) (listed : permanent (list_in h) ≡ Some r) where
        listed_then : permanent (list_in then) ≡ Some r
        listed_then = ap permanent booted_then.list ∙ permanent-of_booted (list_in h) ∙ listed

        -- a start record that is right is left
        pub right_already : SpellsStart (start_in v.seen h) versions → HasStarted v.may_leave then
        right_already spells c now = record {
          release = r;
          listed = listed_then;
          spells = subst (λ w. SpellsStart (start_bytes c) w) of (subst (λ l. SpellsStart l versions) (sym (ap (λ l. start_bytes l) (is.ready.store.durable c now) ∙ slot ∙ slot_same)) spells);
        }

        -- another one is written over
        module _ (new : NodeStore D) (keeps : Keeps v (text_of_start versions) then new) where
          writing : (c : List ℕ) → HasOldStartOr v.seen then (λ d. start_bytes d ≡ slot_with (text_of_start versions)) c → IsOldOrBooted v.seen h c
          writing c (image, at) =
              let there : IsImageBehindBoot h c = subst (IsImageWithExtent c (booted (list_in h))) booted_then.extent (subst (λ l. IsImageWithExtent c l (extent_in then)) booted_then.list image) in
              ⊎_elim (λ old. inl (inr there, old ∙ slot ∙ slot_same)) (λ new. inr (there, started_by_text (list_in h) r versions c are of listed new)) at

          pub written_over : Leaves v (IsOldOrBooted v.seen h) (disk_in h) (disk_in new)
          written_over = record {
            any_moment =
                joined v.moment v.left_since (disk_in h) (disk_in then) (disk_in new) _ takes_then.any_moment
                (weakened v.moment v.left_since (disk_in then) (disk_in new) _ (IsOldOrBooted v.seen h) writing keeps.any_moment);
            counted = omega (arith, takes_then.counted, keeps.counted);
          }

          pub failed_over : HasFailed (v.failures (disk_in then)) (v.failures (disk_in new)) → FinishRefused v h new boot.Device
          failed_over failed = failed_since _ _ _ takes_then.counted keeps.counted failed

          pub booted_now : IsReady v.seen v.may_leave new → IsBooted v h new
          booted_now now = record { list = keeps.list ∙ booted_then.list; extent = keeps.extent ∙ booted_then.extent; ready = now }

          pub started_now : ((c : List ℕ) → v.may_leave (disk_in new) c → IsImageWithExtent c (list_in new) (extent_in new) × (start_bytes c ≡ slot_with (text_of_start versions))) → HasStarted v.may_leave new
          started_now images c now = started_by_text (list_in new) r versions c are of (ap permanent keeps.list ∙ listed_then) (images c now).1

-- Why a boot doesn't come to its end.
module _ {D : Type 0} (v : Ghosts D) (h new : NodeStore D) where
  pub is_lack : (e : BootError) → FinishRefused v h new e → IsLack e
  is_lack boot.Device refused = inl refl
  is_lack boot.NoMemory refused = inr refl
  is_lack boot.NotAStore refused = absurd refused
  is_lack (boot.Damaged at) refused = absurd refused
  is_lack (boot.BadRecord i) refused = absurd refused

  -- a boot is refused for it, and wrote nothing unless the device failed
  pub boot_refused : (disk : D) → v.failures disk ≤ v.failures (disk_in h) → v.failures (disk_in h) ≤ v.failures (disk_in new) → (e : BootError) → FinishRefused v h new e → BootRefused (v.seen disk) (v.failures disk) (v.failures (disk_in new)) e
  boot_refused disk before counted boot.Device refused = failed_since _ _ _ before counted refused
  boot_refused disk before counted boot.NoMemory refused = tt
  boot_refused disk before counted boot.NotAStore refused = absurd refused
  boot_refused disk before counted (boot.Damaged at) refused = absurd refused
  boot_refused disk before counted (boot.BadRecord i) refused = absurd refused

  pub boot_quiet : (disk : D) → HasOnlyRead v.seen v.may_leave v.moment v.left_since disk (disk_in h) → (e : BootError) → FinishRefused v h new e → (e ≡ boot.Device) ⊎ HasOnlyRead v.seen v.may_leave v.moment v.left_since disk (disk_in new)
  boot_quiet disk read boot.Device refused = inl refl
  boot_quiet disk read boot.NoMemory refused = inr (read_on v.seen v.may_leave v.moment v.left_since disk (disk_in h) (disk_in new) read refused)
  boot_quiet disk read boot.NotAStore refused = absurd refused
  boot_quiet disk read (boot.Damaged at) refused = absurd refused
  boot_quiet disk read (boot.BadRecord i) refused = absurd refused
