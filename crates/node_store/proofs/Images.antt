-- Which lists the images of a disk stand for.
use Rattle.std.proofs.Common.{◌≡◌, ◌⊎◌, inl, inr, ⊎_elim, ℕ, ◌+◌, length, length-append, append-nil, arith, Bool, true, false, List, [], ◌∷◌, ◌++◌, Some, Ok, refl, sym, ap, ◌∙◌, subst, true≢false}
use Rattle.rel_files.specs.Release.{Release}
use Rattle.rel_list.specs.Releases.{Releases, has_one_shot, permanent}
use Rattle.rel_list.specs.Event.{Event, recorded, step, list_after}
use Rattle.rel_list.specs.Event.Event.{restart_installed}
use Rattle.rel_list.specs.Laws.{makes_one_shot}
use Rattle.rel_list.proofs.OneShotLaws.{one_shots_come_from_restarts, restarts_are_recorded}
use Rattle.rel_records.specs.Format.{allows, writes_one_shot}
use Rattle.rel_records.specs.Lists.{assigned, MakesFrom, Makes}
use Rattle.rel_records.specs.Writing.{record_of}
use Rattle.rel_records.proofs.EventRecords.{one-recorded}
use Rattle.rel_records.proofs.FormatLemmas.{allows_without, event_allowed_in_2, stands_so}
use Rattle.rel_records.proofs.ListLemmas.{makes-push, makes_once}
use Rattle.rel_records.proofs.RecordPlaces.{one_behind}
use Rattle.rel_store.specs.Records.{records_of, StandsEither, space, records_or_none, end_of}
use Rattle.rel_store.specs.Layout.{base_of, format_of, slot_with}
use Rattle.rel_store.proofs.Scan.{space-push}
use Rattle.rel_store.specs.Changed.{LeavesOthers, IsInRecord}
use Rattle.rel_store.specs.State.{gate_in, records_in, IsSame, IsSettled}
use Rattle.rel_store.proofs.Moments.{base_kept, format_kept_by_record}
use Rattle.rel_store.specs.declared.store.Store.{Store}
use Rattle.rel_disk.specs.declared.disk.Disk.{Ghosts}
use Rattle.node_store.specs.Commits.{IsRecordFor}
use Rattle.node_store.specs.Events.{compacted_or_same, store_with_doubt, IsCrashImageOf}
use Rattle.node_store.specs.Start.{start_of_release}
use Rattle.node_store.specs.Compaction.{compacted_extent}
use Rattle.node_store.specs.Image.{AreRecordsOf, Extent, extent_after, extent_of, HasBootSpace, LeavesBootSpace, IsImageOf, IsImageWithExtent, IsStarted, start_bytes}
use Rattle.node_store.specs.State.{store_extent}
use Rattle.start_record.specs.Text.{Versions, AreVersions, SpellsStart, start_text as text_of_start}
use Rattle.start_record.proofs.StartMoments.{reads_back}
use Rattle.node_store.proofs.Beginnings.{with_themselves}
use Rattle.node_store.proofs.Lists.{list_after-push}

-- where a store ends, by its base and its records
pub ends_so : (bytes : List ℕ) (bodies : List (List ℕ)) (base : ℕ) → records_of bytes ≡ Ok bodies → base_of bytes ≡ base → end_of bytes ≡ (base + space bodies) + 1
ends_so bytes bodies base read at = ap (λ r. (base_of bytes + space (records_or_none r)) + 1) read ∙ ap (λ b. (b + space bodies) + 1) at

-- two extents of the same numbers
pub same_extent : (x y : Extent) → x.base ≡ y.base → x.end ≡ y.end → x.count ≡ y.count → x ≡ y
same_extent x y base end count = λ k. record { base = base k; end = end k; count = count k }

-- how far a store reaches that has these records from this place on
abbrev pub extent_with_records : ℕ → List (List ℕ) → Extent
extent_with_records base bodies = record { base = base; end = (base + space bodies) + 1; count = length bodies }

pub extent_so : (bytes : List ℕ) (bodies : List (List ℕ)) (base : ℕ) → records_of bytes ≡ Ok bodies → base_of bytes ≡ base → extent_of bytes ≡ extent_with_records base bodies
extent_so bytes bodies base read at =
    same_extent (extent_of bytes) (extent_with_records base bodies) at (ends_so bytes bodies base read at) (ap (λ r. length (records_or_none r)) read)

-- A store that is known to end right after these records reaches as far as these records do.
pub extent_by_end : (bytes : List ℕ) (bodies : List (List ℕ)) (base end : ℕ) → records_of bytes ≡ Ok bodies → end_of bytes ≡ end → end ≡ (base + space bodies) + 1 → extent_of bytes ≡ extent_with_records base bodies
extent_by_end bytes bodies base end read ends is =
    let reported = ends_so bytes bodies (base_of bytes) read refl in
    let at : base_of bytes ≡ base = omega (arith, reported, ends, is) in
    extent_so bytes bodies base read at

-- with one record more it reaches further
pub extent-push : (base : ℕ) (bodies : List (List ℕ)) (body : List ℕ) → extent_with_records base (bodies ++ body ∷ []) ≡ extent_after (extent_with_records base bodies) (length body)
extent-push base bodies body =
    same_extent (extent_with_records base (bodies ++ body ∷ [])) (extent_after (extent_with_records base bodies) (length body)) refl (omega (arith, space-push bodies body)) (omega (arith, length-append bodies (body ∷ [])))

-- how far a settled store reaches
pub settled_so : {D : Type 0} (seen : D → List ℕ) (may_leave : D → List ℕ → Type 0) (store : Store D) → IsSettled seen may_leave store → extent_with_records (base_of (seen store.disk)) (records_in store) ≡ store_extent store
settled_so seen may_leave store s =
    same_extent (extent_with_records (base_of (seen store.disk)) (records_in store)) (store_extent store) (sym s.base) (ap (λ g. g + 1) (sym s.end)) refl

pub settled_extent : {D : Type 0} (seen : D → List ℕ) (may_leave : D → List ℕ → Type 0) (store : Store D) → IsSettled seen may_leave store → extent_of (seen store.disk) ≡ store_extent store
settled_extent seen may_leave store s = extent_so (seen store.disk) (records_in store) (base_of (seen store.disk)) s.records refl ∙ settled_so seen may_leave store s

-- While a record is appended after a reservation, the records begin where they began, in a store of the same format.
pub either_behind : {D : Type 0} (v : Ghosts D) (s reserved : Store D) → IsSettled v.seen v.may_leave s → IsSame s reserved → (body text c : List ℕ) → StandsEither (records_in reserved) body text c
    → LeavesOthers (IsInRecord (gate_in reserved) (length body)) (v.seen reserved.disk) c → StandsEither (records_in s) body text c × (base_of c ≡ base_of (v.seen s.disk)) × (format_of c ≡ s.format)
either_behind v s reserved settled same body text c either leaves = (
  subst (λ bodies. StandsEither bodies body text c) same.records either,
  base_kept v.moment v.left_since v.seen v.may_leave s settled (length body) c own,
  format_kept_by_record v.moment v.left_since v.seen v.may_leave s settled (length body) c own,
)
  where
    same_gate : gate_in reserved ≡ gate_in s
    same_gate = omega (arith, same.end)

    own : LeavesOthers (IsInRecord (gate_in s) (length body)) (v.seen s.disk) c
    own =
        subst (λ d. LeavesOthers (IsInRecord (gate_in s) (length body)) (v.seen d) c) same.disk
        (subst (λ g. LeavesOthers (IsInRecord g (length body)) (v.seen reserved.disk) c) same_gate leaves)

-- where no release is a one-shot, the next boot needs no room
pub no_boot_space : (x : Extent) (es : Releases) → has_one_shot es ≡ false → HasBootSpace x es
no_boot_space x es none one = absurd (true≢false (sym one ∙ none))

-- and no release stands beside one
pub none_beside : (es : Releases) → has_one_shot es ≡ false → has_one_shot es ≡ true → recorded es ≡ es
none_beside es none one = absurd (true≢false (sym one ∙ none))

-- the records of a list are those of one in a store of the same format
pub in_same_format : (c : List ℕ) (format : ℕ) (bodies : List (List ℕ)) (es : Releases) → format_of c ≡ format → AreRecordsOf format bodies es → AreRecordsOf (format_of c) bodies es
in_same_format c format bodies es same = subst (λ f. AreRecordsOf f bodies es) (sym same)

-- so they are where they stand in another store of it
pub same_records : (old new : ℕ) (bodies records : List (List ℕ)) (es : Releases) → new ≡ old → records ≡ bodies → AreRecordsOf old bodies es → AreRecordsOf new records es
same_records old new bodies records es same is are = subst (λ f. AreRecordsOf f records es) (sym same) (subst (λ bs. AreRecordsOf old bs es) (sym is) are)

-- bytes with the records of a list, in a store that reaches so far
pub image_at : (c : List ℕ) (bodies : List (List ℕ)) (es : Releases) (x : Extent) → records_of c ≡ Ok bodies → AreRecordsOf (format_of c) bodies es → HasBootSpace x es → extent_of c ≡ x → IsImageWithExtent c es x
image_at c bodies es x read are room reaches =
    record { image_of = record { bodies = bodies; store = read; list = are; room = subst (λ y. HasBootSpace y es) (sym reaches) room }; reaches = reaches }

-- each image of a settled store's disk stands for the list that its records make
pub each_image : {D : Type 0} (seen : D → List ℕ) (may_leave : D → List ℕ → Type 0) (store : Store D) (es : Releases) → IsSettled seen may_leave store → AreRecordsOf store.format (records_in store) es → HasBootSpace (store_extent store) es
    → (c : List ℕ) → may_leave store.disk c → IsImageWithExtent c es (store_extent store)
each_image seen may_leave store es s makes_it room c now =
    image_at c (records_in store) es (store_extent store) (ap records_of (s.durable c now) ∙ s.records) (in_same_format c store.format (records_in store) es (ap (λ d. format_of d) (s.durable c now) ∙ sym s.format) makes_it) room (ap (λ d. extent_of d) (s.durable c now) ∙ settled_extent seen may_leave store s)

-- A store of the list before a command is one that has the events without the one in doubt.
pub stored_before : (events : List Event) (x : Extent) (e : Event) (size : ℕ) (es : Releases) (c : List ℕ) → list_after events ≡ Some es → IsImageWithExtent c es x → IsStarted es c → IsCrashImageOf (store_with_doubt events x e size) c
stored_before events x e size es c after image started =
    record {
      events = events;
      has = (with_themselves events, inl (refl, image.reaches));
      list = es;
      after = after;
      image_of = image.image_of;
      start = record { before = events; later = []; is = sym (append-nil events); last = tt; since = with_themselves events; starts = (es, after, started) };
    }

-- And one of the list after it has them all, compacted or not, with the start record from before it or that from after it.
pub stored_after : (events : List Event) (x : Extent) (e : Event) (size : ℕ) (es next : Releases) (c : List ℕ) → list_after events ≡ Some es → step e es ≡ Some next
    → IsImageOf c next → (extent_of c ≡ extent_after x size) ⊎ (extent_of c ≡ compacted_extent (extent_after x size) next) → IsStarted es c ⊎ IsStarted next c → IsCrashImageOf (store_with_doubt events x e size) c
stored_after events x e size es next c after is image reaches started = record {
  events = events ++ e ∷ [];
  has = ((e ∷ [], refl), inr (refl, ⊎_elim (λ appended. inl appended) (λ far. inr (far ∙ ap (compacted_or_same (extent_after x size)) (sym all))) reaches));
  list = next;
  after = all;
  image_of = image;
  start = ⊎_elim
      (λ old. record { before = events; later = e ∷ []; is = refl; last = tt; since = with_themselves events; starts = (es, after, old) })
      (λ new. record { before = events ++ e ∷ []; later = []; is = sym (append-nil (events ++ e ∷ [])); last = tt; since = (e ∷ [], refl); starts = (next, all, new) })
      started;
}
  where
    all : list_after (events ++ e ∷ []) ≡ Some next
    all = list_after-push events e es next after is

-- a start record is reported by the start slot and the permanent release
pub started_by : (es fs : Releases) (c d : List ℕ) → permanent fs ≡ permanent es → start_bytes d ≡ start_bytes c → IsStarted es c → IsStarted fs d
started_by es fs c d same slot s = record { release = s.release; listed = same ∙ s.listed; spells = subst (λ l. SpellsStart l (start_of_release s.release)) (sym slot) s.spells }

-- Beside a one-shot that an event made no release is current.
pub alone_behind : (e : Event) (es next : Releases) → step e es ≡ Some next → has_one_shot next ≡ true → recorded next ≡ next
alone_behind (restart_installed v) es next is one = restarts_are_recorded v es next is
alone_behind e es next is one = absurd (true≢false (sym one ∙ one_shots_come_from_restarts e es next refl is))

-- A store may have the record of an event, if it is of format 2 where that writes a one-shot.
pub may_have : (format : ℕ) (e : Event) (es : Releases) → (writes_one_shot (record_of e es) ≡ true → format ≡ 2) → allows format (record_of e es) ≡ true
may_have format e es needs = go (writes_one_shot (record_of e es)) refl
  where
    go : (b : Bool) → writes_one_shot (record_of e es) ≡ b → allows format (record_of e es) ≡ true
    go true is = subst (λ f. allows f (record_of e es) ≡ true) (sym (needs is)) (event_allowed_in_2 e es)
    go false is = allows_without format (record_of e es) is

-- With the record of an event the store has the records of the list after it.
pub with_record : (format : ℕ) (e : Event) (es next : Releases) (bodies : List (List ℕ)) (body : List ℕ) → AreRecordsOf format bodies es → IsRecordFor body e es → (writes_one_shot (record_of e es) ≡ true → format ≡ 2) → step e es ≡ Some next
    → AreRecordsOf format (bodies ++ body ∷ []) next
with_record format e es next bodies body are reported needs is =
    let behind : assigned (record_of e es) (recorded es) ≡ Some (recorded next) = reported.reports next is (sym (one-recorded es) ∙ are.makes.1) in
    record {
      makes = (makes-push format [] bodies (recorded es) body (record_of e es) (recorded next) are.makes.0 reported.spells (stands_so format (record_of e es) (recorded es) (recorded next) (may_have format e es needs) behind), one_behind (record_of e es) (recorded es) (recorded next) behind);
      alone = alone_behind e es next is;
    }

-- A record is being appended: the store has the records of the list from before it, or those of the one after it.
pub either_image : (format : ℕ) (es next : Releases) (bodies : List (List ℕ)) (body text : List ℕ) → AreRecordsOf format bodies es → AreRecordsOf format (bodies ++ body ∷ []) next
    → (base : ℕ) (x : Extent) → extent_with_records base bodies ≡ x → HasBootSpace x es → HasBootSpace (extent_after x (length body)) next
    → (c : List ℕ) → StandsEither bodies body text c × (base_of c ≡ base) × (format_of c ≡ format) → (IsImageWithExtent c es x ⊎ IsImageWithExtent c next (extent_after x (length body))) × (start_bytes c ≡ text)
either_image format es next bodies body text are behind base x at room room_then c (inl stands, kept, same) =
    (inl (image_at c bodies es x stands.records (in_same_format c format bodies es same are) room (extent_so c bodies base stands.records kept ∙ at)), stands.start)
either_image format es next bodies body text are behind base x at room room_then c (inr stands, kept, same) = (
  inr (
      image_at c (bodies ++ body ∷ []) next (extent_after x (length body)) stands.records (in_same_format c format (bodies ++ body ∷ []) next same behind) room_then
      (extent_so c (bodies ++ body ∷ []) base stands.records kept ∙ extent-push base bodies body ∙ ap (λ y. extent_after y (length body)) at)
      ),
  stands.start,
)

-- An event that makes no release a one-shot leaves room for the next boot, which writes no record.
pub leaves_boot_space : (e : Event) → makes_one_shot e ≡ false → (size : ℕ) (x : Extent) (es : Releases) → LeavesBootSpace e size x es
leaves_boot_space e other size x es next is = no_boot_space (extent_after x size) next (one_shots_come_from_restarts e es next other is)

-- While a command appends the record of its event, a crash leaves a store with the list from before the event or after it.
pub while_committing : (format : ℕ) (e : Event) (es next : Releases) (bodies : List (List ℕ)) (body text : List ℕ) (events : List Event)
    → AreRecordsOf format bodies es → IsRecordFor body e es → (writes_one_shot (record_of e es) ≡ true → format ≡ 2) → step e es ≡ Some next → list_after events ≡ Some es
    → (base : ℕ) (x : Extent) → extent_with_records base bodies ≡ x → HasBootSpace x es → HasBootSpace (extent_after x (length body)) next → (old : List ℕ) → start_bytes old ≡ text → IsStarted es old
    → (c : List ℕ) → StandsEither bodies body text c × (base_of c ≡ base) × (format_of c ≡ format) → IsCrashImageOf (store_with_doubt events x e (length body)) c
while_committing format e es next bodies body text events makes_it reported needs is after base x at room room_then old slot started c either = go (either_image format es next bodies body text makes_it behind base x at room room_then c either)
  where
    behind : AreRecordsOf format (bodies ++ body ∷ []) next
    behind = with_record format e es next bodies body makes_it reported needs is

    go : (IsImageWithExtent c es x ⊎ IsImageWithExtent c next (extent_after x (length body))) × (start_bytes c ≡ text) → IsCrashImageOf (store_with_doubt events x e (length body)) c
    go (inl image, same) = stored_before events x e (length body) es c after image (started_by es es old c refl (same ∙ sym slot) started)
    go (inr image, same) = stored_after events x e (length body) es next c after is image.image_of (inl image.reaches) (inl (started_by es es old c refl (same ∙ sym slot) started))

-- A start slot with the text of a release's start is that release's start record.
pub started_by_text : (es : Releases) (r : Release) (versions : Versions) (c : List ℕ) → AreVersions versions → versions ≡ start_of_release r → permanent es ≡ Some r → start_bytes c ≡ slot_with (text_of_start versions) → IsStarted es c
started_by_text es r versions c are of listed slot =
    record { release = r; listed = listed; spells = subst (λ w. SpellsStart (start_bytes c) w) of (subst (λ l. SpellsStart l versions) (sym slot) (reads_back versions are)) }

-- A list that was read from the records of bytes is that for which they stand, as records report it.
pub recorded_image : (c : List ℕ) (bodies : List (List ℕ)) (found es : Releases) → records_of c ≡ Ok bodies → Makes (format_of c) bodies found → IsImageOf c es → found ≡ recorded es
recorded_image c bodies found es read makes_it image =
    let same : bodies ≡ image.bodies = cc (read, image.store) in
    makes_once (format_of c) [] bodies found (recorded es) makes_it.0 (subst (λ l. MakesFrom (format_of c) [] l (recorded es)) (sym same) image.list.makes.0)
