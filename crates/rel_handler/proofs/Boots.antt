-- A node that is booted, and one that is made.
use Rattle.std.proofs.Common.{◌≡◌, inl, inr, ◌⊎◌, ℕ, ◌≤◌, false, Bor, List, [], ◌∷◌, length, Option, Some, None, Ok, refl, sym, ap, ◌∙◌, subst, arith, length-append}
use Rattle.std.specs.Option.{is_some, option_map, option_copied}
use Rattle.std.proofs.lemmas.Bool.Decides.{nat_tests}
use Rattle.rel_disk.specs.Moments.{LeavesOnly}
use Rattle.rel_disk.specs.declared.disk.Disk.{Ghosts}
use Rattle.rel_disk.proofs.Moments.{started, weakened}
use Rattle.rel_files.specs.File.{HasVersions}
use Rattle.rel_files.specs.Name.{IsVersion}
use Rattle.rel_files.specs.Release.{Release}
use Rattle.rel_list.specs.declared.status.Status.TheVariants.{Permanent}
use Rattle.rel_list.specs.Releases.{Bundle, Releases, has_one_shot}
use Rattle.rel_list.specs.Event.{booted, entry, recorded}
use Rattle.rel_list.specs.Event.Event.{made, boot as rebooted}
use Rattle.rel_records.specs.Lists.{Makes, IsBadRecord}
use Rattle.rel_records.specs.Reading.{Spells}
use Rattle.rel_records.specs.Writing.{record_of, IsWithinLimits}
use Rattle.rel_records.specs.declared.fault.RecordsError.{RecordsError}
use Rattle.rel_records.specs.declared.fault.RecordsError.TheVariants as fault
use Rattle.rel_records.proofs.ListLemmas.{makes_not_bad}
use Rattle.rel_records.proofs.RecordLaws.{as_recorded}
use Rattle.rel_store.specs.Layout.{format_of}
use Rattle.rel_store.specs.Contents.{HasOnlyRead, HasSynced}
use Rattle.rel_store.specs.Creation.{IsNoneOrNew, IsBegunAt, IsUnwritten, Creates, CreationRefused}
use Rattle.rel_store.specs.Moments.{IsTornFrom}
use Rattle.rel_store.specs.Records.{records_of}
use Rattle.rel_store.specs.State as store
use Rattle.rel_store.specs.declared.error.StoreError.{StoreError}
use Rattle.rel_store.specs.declared.error.StoreError.TheVariants as store_fault
use Rattle.rel_store.specs.declared.store.Store.{Store}
use Rattle.node_store.specs.Events.{EventLog, log_with_doubt, IsNoneOrOfPrefix, IsOfPrefix}
use Rattle.node_store.specs.Start.{start_text}
use Rattle.node_store.specs.Image.{AreRecordsOf, IsImageOf, IsStarted}
use Rattle.rel_handler.specs.Moments.{Begins, BeginsAt, BootsTo, SettlesAt}
use Rattle.rel_handler.specs.Refusals.{reported_records, reported_create, IsCreateError, MakingRefused}
use Rattle.node_store.specs.State.{store_extent, IsSound}
use Rattle.rel_handler.specs.declared.error.BootError.{BootError}
use Rattle.rel_handler.specs.declared.error.BootError.TheVariants as boot
use Rattle.node_store.proofs.Images.{no_boot_space}
use Rattle.node_store.proofs.Lists.{list_after-push}
use Rattle.rel_handler.proofs.NewNodes.{first_record, while_creating}

-- A list that was read from the records of a store: no release of it is current.
pub made_again : (format : ℕ) (bodies : List (List ℕ)) (es : Releases) → Makes format bodies es → AreRecordsOf format bodies es
made_again format bodies es makes_it =
    let still = as_recorded format bodies es makes_it in
    record { makes = subst (Makes format bodies) (sym still) makes_it; alone = λ one. still }

-- a handler of such a list
pub sound_so : {D : Type 0} (seen : D → List ℕ) (may_leave : D → List ℕ → Type 0) (of : Store D) (es : Releases) → store.IsSettled seen may_leave of → AreRecordsOf of.format (store.records_in of) es
    → has_one_shot es ≡ false → ((c : List ℕ) → may_leave of.disk c → IsStarted es c) → IsSound seen may_leave (record { store = of; list = es; dead = false })
sound_so seen may_leave of es settled makes_it none started = record {
  ready = λ alive. record { store = settled; list = makes_it; room = no_boot_space (store_extent of) es none };
  started = λ alive. started;
  free = λ alive. none;
}

-- the list is made by the records that were read
pub makes_so : (reported format : ℕ) (bodies records : List (List ℕ)) (es : Releases) → reported ≡ format → bodies ≡ records → Makes reported bodies es → Makes format records es
makes_so reported format bodies records es of same makes_it = subst (λ f. Makes f records es) of (subst (λ bs. Makes reported bs es) same makes_it)

-- the records that were read are those of the bytes
pub read_so : (c : List ℕ) (bodies records : List (List ℕ)) → bodies ≡ records → records_of c ≡ Ok records → records_of c ≡ Ok bodies
read_so c bodies records same read = read ∙ ap (λ bs. Ok bs) (sym same)

-- A run of calls that leaves what a read gives, and nothing new, only reads.
module _ {D : Type 0} (seen : D → List ℕ) (may_leave : D → List ℕ → Type 0) (moment : D → ℕ) (left_since : D → ℕ → List ℕ → Type 0) (counts_now : (disk : D) (t : ℕ) (c : List ℕ) → t ≤ moment disk → may_leave disk c → left_since disk t c) where
  pub only_reads : (old new : D) → seen new ≡ seen old → LeavesOnly moment left_since old new (may_leave old) → HasOnlyRead seen may_leave moment left_since old new
  only_reads old new same leaves = record { same = same; crash = λ c now. leaves.each c (counts_now new (moment old) c leaves.later now); any_moment = leaves }

-- the disk was synced, and read alone
pub settles_so : {D : Type 0} (v : Ghosts D) (old new : D) → ((c : List ℕ) → v.left_since new (v.moment new) c → v.may_leave new c) → HasSynced v old new → LeavesOnly v.moment v.left_since old new (v.may_leave old) → SettlesAt v old new new
settles_so v old new only_now s leaves = record {
  until = leaves;
  first_sync = s.first_sync;
  from = weakened v.moment v.left_since new new (v.may_leave new) _ (λ c now. inl (s.durable c now)) (started v.moment v.left_since new (v.may_leave new) only_now);
}

-- the device failed, or memory was refused
abbrev pub IsLack : BootError → Type 0
IsLack e = (e ≡ boot.Device) ⊎ (e ≡ boot.NoMemory)

-- why no list was read from records: one is bad, or memory was refused
abbrev pub IsBadOrLack : ℕ → List (List ℕ) → RecordsError → Type 0
IsBadOrLack format bodies e = (e ≡ fault.NoMemory) ⊎ ((i : ℕ) × (e ≡ fault.BadRecord i) × IsBadRecord format bodies i)

-- bytes that stand for a list have no bad record
pub only_memory : (c : List ℕ) (bodies records : List (List ℕ)) (es : Releases) (e : RecordsError) → bodies ≡ records → records_of c ≡ Ok records → IsImageOf c es
    → IsBadOrLack (format_of c) bodies e → IsLack (reported_records e)
only_memory c bodies records es e same read image (inl memory) = inr (ap reported_records memory)
only_memory c bodies records es e same read image (inr (i, is, bad)) =
    let here : image.bodies ≡ bodies = cc (read, image.store, same) in
    absurd (makes_not_bad (format_of c) bodies (recorded es) i (subst (λ bs. Makes (format_of c) bs (recorded es)) here image.list.makes) bad)

-- a version is short
version_short : (s : List ℕ) → IsVersion s → length s ≤ 62
version_short s is = grind (arith, nat_tests)

-- A slot has room for the text of a start, whose versions are short.
pub fits_in_a_slot : (r : Release) → HasVersions r → length (start_text r) ≤ 127
fits_in_a_slot r versions =
    let erts = version_short r.erts versions.erts in
    let own = version_short r.vsn versions.own in
    simp length-append (omega arith)

-- why a store isn't made
module _ (bytes first : List ℕ) (before now : ℕ) (unwritten : Type 0) where
  pub is_create_error : (e : StoreError) → CreationRefused bytes first before now unwritten e → IsCreateError e
  is_create_error store_fault.Exists refused = tt
  is_create_error store_fault.Full refused = tt
  is_create_error store_fault.Device refused = tt
  is_create_error store_fault.NoMemory refused = tt
  is_create_error store_fault.NotAStore refused = absurd refused
  is_create_error (store_fault.Damaged at) refused = absurd refused
  is_create_error store_fault.MustReopen refused = absurd refused

  pub making_refused : (e : StoreError) → CreationRefused bytes first before now unwritten e → MakingRefused bytes (length first) before now unwritten (reported_create e)
  making_refused store_fault.Exists refused = refused
  making_refused store_fault.Full refused = refused
  making_refused store_fault.Device refused = refused
  making_refused store_fault.NoMemory refused = refused.2
  making_refused store_fault.NotAStore refused = absurd refused
  making_refused (store_fault.Damaged at) refused = absurd refused
  making_refused store_fault.MustReopen refused = absurd refused

-- a creation that has made no call of the disk
module _ {D : Type 0} (seen : D → List ℕ) (may_leave : D → List ℕ → Type 0) (moment : D → ℕ) (left_since : D → ℕ → List ℕ → Type 0) (disk : D) (only_now : (c : List ℕ) → left_since disk (moment disk) c → may_leave disk c) where
  pub unwritten : IsUnwritten seen may_leave moment left_since disk disk
  unwritten = record { same = refl; any_moment = started moment left_since disk (may_leave disk) only_now }

pub nothing_begun : {D : Type 0} (v : Ghosts D) (disk : D) → ((c : List ℕ) → v.left_since disk (v.moment disk) c → v.may_leave disk c) → (k : EventLog) → Begins v k disk disk
nothing_begun v disk only_now k = inl (record { until = started v.moment v.left_since disk (IsTornFrom (v.may_leave disk) 0 1) (λ c left. inl (only_now c left)); unsynced = refl })

-- at each moment of a creation
module _ {D : Type 0} (v : Ghosts D) (p : Bundle) (body start : List ℕ) (fits : IsWithinLimits (made p) []) (versions : HasVersions p.release) (is : start ≡ start_text p.release) (spelled : Spells body (record_of (made p) [])) (old new : D) where
  pub begins_at : (at : D) → IsBegunAt v body start old new at → BeginsAt v (log_with_doubt [] (made p)) old new at
  begins_at at begun = record {
    until = begun.until;
    first_sync = begun.first_sync;
    synced = begun.synced;
    from = weakened v.moment v.left_since at new (IsNoneOrNew body start) (IsNoneOrOfPrefix (log_with_doubt [] (made p))) (while_creating p body start fits versions is spelled) begun.from;
  }

  pub begins : Creates v body start old new → Begins v (log_with_doubt [] (made p)) old new
  begins (inl before) = inl before
  begins (inr (at, begun)) = inr (at, begins_at at begun)

-- the first record of a new node
pub made_new : (format : ℕ) (p : Bundle) (body : List ℕ) (records : List (List ℕ)) (es : Releases) → IsWithinLimits (made p) [] → Spells body (record_of (made p) []) → records ≡ body ∷ [] → es ≡ entry p Permanent ∷ [] → AreRecordsOf format records es
made_new format p body records es fits spelled is listed =
    subst (λ rs. AreRecordsOf format rs es) (sym is) (subst (λ l. AreRecordsOf format (body ∷ []) l) (sym listed) (first_record format p body fits spelled))

-- whether a list has a one-shot, by what it reports of it
pub one_shot_reported : {A B : Type 0} (f : A → B) (reported : Option (Bor A)) (o : Option B) → option_map f (option_copied reported) ≡ o → is_some reported ≡ is_some o
one_shot_reported f None o is = ap is_some is
one_shot_reported f (Some x) o is = ap is_some is

-- the list after a boot of an image of a prefix is that of the prefix with a boot after it
pub boots_to : (k : EventLog) (c : List ℕ) (found : Releases) (of : IsOfPrefix k c) → found ≡ booted of.list → BootsTo k found
boots_to k c found of is = record {
  events = of.events;
  prefix = of.prefix;
  after = list_after-push of.events rebooted of.list (booted of.list) of.after refl ∙ ap (λ l. Some l) (sym is);
}
