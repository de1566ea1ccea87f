-- What stands, and what a crash may leave, after each write of a creation.
use Rattle.std.proofs.Common.{◌≡◌, ◌≢◌, inl, inr, ℕ, ◌+◌, ◌-◌, ◌≤◌, Bool, true, false, ◌||◌, ◌&&◌, not, List, [], ◌∷◌, ◌++◌, length, take, drop, replicate, Err, refl, sym, ◌∙◌, ap, subst, arith, append_assoc, length-append}
use Rattle.std.specs.Prelude.{suc, if◌then◌else◌, nat_eq, nat_lt, nat_le, slice_index, bytes_eq}
use Rattle.std.specs.Int.{w64, from_be_bytes, to_be_bytes}
use Rattle.std.proofs.lemmas.Bool.{cases_eq}
use Rattle.std.proofs.lemmas.Bool.Decides.{nat_tests}
use Rattle.std.proofs.lemmas.List.{take_at, drop_at, drop-drop, length-replicate}
use Rattle.rel_disk.specs.Damage.{overwritten, Torn, Only, Within}
use Rattle.rel_disk.specs.Moments.{LeavesOnly}
use Rattle.rel_disk.specs.declared.disk.Disk.{Ghosts}
use Rattle.rel_disk.proofs.Moments.{started, weakened}
use Rattle.rel_store.specs.Creation.{IsNoneOrNew, IsBegunAt, Creates, new_store}
use Rattle.rel_store.specs.Layout.{magic, has_magic, base_slot, base_of, text_of, format_of, slot_with, new_choices, new_layout}
use Rattle.rel_store.specs.Moments.{IsTornFrom, IsTornInSteps}
use Rattle.rel_store.specs.Records.{record_bytes, records_from, records_of, Stands}
use Rattle.rel_store.specs.declared.error.StoreError.TheVariants.{NotAStore, Damaged}
use Rattle.rel_store.specs.Changed.{IsInNewStore}
use Rattle.rel_store.proofs.Append.{one}
use Rattle.rel_store.proofs.Moments.{touched}
use Rattle.rel_store.proofs.Ownership.{Owns, steps_leave}
use Rattle.rel_store.proofs.ReadLemmas.{length-record}
use Rattle.rel_store.proofs.Whole.{Head, readable, stands, grown}

-- bytes that begin with a closed gate are no store
pub none : (gate : ℕ) (bytes : List ℕ) → gate ≢ 1 → records_of (gate ∷ bytes) ≡ Err NotAStore
none gate bytes shut = refused (nat_lt (length (gate ∷ bytes)) 289) (has_magic (gate ∷ bytes)) unlike
  where
    closed : nat_eq gate 1 ≡ false
    closed = grind (arith, nat_tests)

    unlike : has_magic (gate ∷ bytes) ≡ false
    unlike = ap (λ b. b && bytes_eq (take 8 bytes) magic) closed

    refused : (a b : Bool) → b ≡ false
        → (if a || not b then Err NotAStore else (if nat_lt (base_of (gate ∷ bytes)) 288 || nat_le (length (gate ∷ bytes)) (base_of (gate ∷ bytes)) then Err (Damaged (base_slot (gate ∷ bytes))) else records_from (base_of (gate ∷ bytes)) 0 (drop (base_of (gate ∷ bytes)) (gate ∷ bytes)))) ≡ Err NotAStore
    refused true b is = refl
    refused false true is = absurd cc
    refused false false is = refl

-- the bytes of a new store, and anything after its closed gate
record IsNew (first start bytes : List ℕ) : Type 0 where
  rest : List ℕ
  is : bytes ≡ 1 ∷ (new_layout start ++ (1 ∷ (record_bytes first ++ 0 ∷ rest)))

module _ (start : List ℕ) (few : length start ≤ 127) where
  abbrev beginning : List ℕ
  beginning = 1 ∷ (magic ++ new_choices)

  abbrev slot : List ℕ
  slot = slot_with start

  length-slot : length slot ≡ 128
  length-slot = omega (arith, length-append start (replicate (127 - length start) 0), length-replicate {A = ℕ} (127 - length start) 0)

  regroup : (a s z p q tail : List ℕ) → (a ++ (s ++ (z ++ (p ++ q)))) ++ tail ≡ (a ++ (s ++ z)) ++ (p ++ (q ++ tail))
  regroup a s z p q tail = simp append_assoc

  regroup_slot : (a s z tail : List ℕ) → (a ++ (s ++ z)) ++ tail ≡ a ++ (s ++ (z ++ tail))
  regroup_slot a s z tail = simp append_assoc

  abbrev head : List ℕ
  head = 1 ∷ new_layout start

  abbrev bases : List ℕ
  bases = to_be_bytes w64 288 ++ replicate 8 0

  length-head : length head ≡ 288
  length-head = omega (arith, length-slot, length-append slot (replicate 128 0 ++ bases))

  base : (tail : List ℕ) → base_of (head ++ tail) ≡ 288
  base tail =
      let front = beginning ++ (slot ++ replicate 128 0) in
      let long : length front ≡ 272 = omega (arith, length-slot, length-append slot (replicate 128 0)) in
      ap (λ l. from_be_bytes w64 (take 8 l)) (ap (λ l. drop 272 l) (regroup beginning slot (replicate 128 0) (to_be_bytes w64 288) (replicate 8 0) tail) ∙ drop_at front (to_be_bytes w64 288 ++ (replicate 8 0 ++ tail)) 272 long)

  text : (tail : List ℕ) → text_of (head ++ tail) ≡ slot
  text tail = ap (λ l. take 128 (drop 16 l)) (regroup_slot beginning slot (replicate 128 0 ++ bases) tail) ∙ take_at slot ((replicate 128 0 ++ bases) ++ tail) 128 length-slot

  new_head : Head [] slot head
  new_head = record {
    long = omega (arith, length-head);
    records = λ tail some.
        let long : length (head ++ tail) ≡ 288 + length tail = length-append head tail ∙ ap (λ n. n + length tail) length-head in
        readable (head ++ tail) (record { long = omega (arith, long, some); begins = refl; low = omega (arith, base tail); high = omega (arith, base tail, long, some) })
        ∙ ap (λ p. records_from p 0 (drop p (head ++ tail))) (base tail)
        ∙ ap (λ l. records_from 288 0 l) (drop_at head tail 288 length-head)
        ∙ ap (λ p. records_from p 0 tail) (sym length-head);
    start = text;
    end = λ tail. omega (arith, length-head, base tail);
  }

  module _ (first : List ℕ) (short : length first ≤ 16777216) where
    together : (rest : List ℕ) → 1 ∷ (new_layout start ++ (1 ∷ (record_bytes first ++ 0 ∷ rest))) ≡ (head ++ 1 ∷ record_bytes first) ++ 0 ∷ rest
    together rest = sym (append_assoc head (1 ∷ record_bytes first) (0 ∷ rest))

    -- The bytes after the gate, as they are written and whatever follows them.
    behind : (bytes rest : List ℕ) → bytes ≡ new_layout start ++ (1 ∷ (record_bytes first ++ 0 ∷ [])) → bytes ++ rest ≡ new_layout start ++ (1 ∷ (record_bytes first ++ 0 ∷ rest))
    behind bytes rest spelled =
        ap (λ (l : List ℕ). l ++ rest) spelled
        ∙ append_assoc (new_layout start) (1 ∷ (record_bytes first ++ 0 ∷ [])) rest
        ∙ ap (λ (l : List ℕ). new_layout start ++ (1 ∷ l)) (append_assoc (record_bytes first) (0 ∷ []) rest)

    -- a new store stands, with its one record
    stands_new : (bytes : List ℕ) → IsNew first start bytes → Stands (first ∷ []) slot bytes
    stands_new bytes new = subst (Stands (first ∷ []) slot) (sym (new.is ∙ together new.rest)) (stands (first ∷ []) slot (head ++ 1 ∷ record_bytes first) 0 new.rest (grown [] slot head first new_head short) (omega arith))

    module _ (bytes old : List ℕ) (over : bytes ≡ overwritten 0 (new_store first start) old) where
      is_new : IsNew first start bytes
      is_new =
          let rest = drop (0 + length (new_store first start)) old in
          record { rest = rest; is = over ∙ ap (λ (l : List ℕ). 1 ∷ l) (behind (new_layout start ++ (1 ∷ (record_bytes first ++ 0 ∷ []))) rest refl) }

      pub new_stands : Stands (first ∷ []) slot bytes
      new_stands = stands_new bytes is_new

      pub new_base : base_of bytes ≡ 288
      new_base = ap base_of is_new.is ∙ base (1 ∷ (record_bytes first ++ 0 ∷ is_new.rest))

      pub new_selector : slice_index bytes 9 ≡ 0
      new_selector = ap (λ l. slice_index l 9) is_new.is

      pub new_choice : slice_index bytes 10 ≡ 0
      new_choice = ap (λ l. slice_index l 10) is_new.is

      pub new_format : format_of bytes ≡ 2
      new_format = ap (λ l. format_of l) is_new.is

    -- with its gate in any state
    any_gate : (gate : ℕ) (layout rest : List ℕ) → layout ≡ new_layout start ++ (1 ∷ (record_bytes first ++ 0 ∷ rest)) → IsNoneOrNew first start (gate ∷ layout)
    any_gate gate layout rest is = elim (cases_eq gate 1) [
      | inl is_open ↦ inr (stands_new (gate ∷ layout) (record { rest = rest; is = λ i. is_open i ∷ is i }))
      | inr shut ↦ inl (none gate layout shut)
    ]

    -- while the bytes after the closed gate are written, there is no store
    pub behind_leaves : (closed old : List ℕ) (n : ℕ) (images : List ℕ → Type 0) → closed ≡ overwritten 0 (0 ∷ []) old → Only closed images → (c : List ℕ) → IsTornFrom images 1 n c → IsNoneOrNew first start c
    behind_leaves closed old n images is only c (inl now) = inl (ap records_of (only c now ∙ is) ∙ none 0 (drop 1 old) (omega arith))
    behind_leaves closed old n images is only c (inr torn) =
        let from = subst (λ d. Torn 1 n d c) (only torn.0 torn.1 ∙ is) torn.2 in
        inl (ap records_of from.is ∙ none 0 (from.middle ++ (drop (1 + n) (0 ∷ drop 1 old) ++ from.tail)) (omega arith))

    abbrev Laid : List ℕ → List ℕ → Type 0
    Laid bytes laid = (rest : List ℕ) × (laid ≡ 0 ∷ (bytes ++ rest))

    pub laid_out : (closed old laid bytes : List ℕ) → closed ≡ overwritten 0 (0 ∷ []) old → laid ≡ overwritten 1 bytes closed → Laid bytes laid
    laid_out closed old laid bytes is written = (drop (1 + length bytes) (0 ∷ drop 1 old), written ∙ ap (overwritten 1 bytes) is)

    -- while the gate is opened, there is none or the new one
    pub gate_leaves : (laid bytes : List ℕ) (images : List ℕ → Type 0) → bytes ≡ new_layout start ++ (1 ∷ (record_bytes first ++ 0 ∷ [])) → Laid bytes laid → Only laid images → (c : List ℕ) → IsTornFrom images 0 1 c → IsNoneOrNew first start c
    gate_leaves laid bytes images spelled is only c (inl now) = inl (ap records_of (only c now ∙ is.1) ∙ none 0 (bytes ++ is.0) (omega arith))
    gate_leaves laid bytes images spelled is only c (inr torn) =
        let from = subst (λ d. Torn 0 1 d c) (only torn.0 torn.1 ∙ is.1) torn.2 in
        let byte = one from.middle (omega (arith, from.long)) in
        let whole : c ≡ byte.0 ∷ ((bytes ++ is.0) ++ from.tail) = from.is ∙ ap (λ (l : List ℕ). l ++ ((bytes ++ is.0) ++ from.tail)) byte.1 in
        subst (IsNoneOrNew first start) (sym whole) (any_gate byte.0 ((bytes ++ is.0) ++ from.tail) (is.0 ++ from.tail) (append_assoc bytes is.0 from.tail ∙ behind bytes (is.0 ++ from.tail) spelled))

    -- A creation whose first write is done: where it stands while the rest is written, and the gate opened.
    module _ {D : Type 0} (v : Ghosts D) (old at : D) (until : LeavesOnly v.moment v.left_since old at (IsTornFrom (v.may_leave old) 0 1)) (first_sync : v.syncs at ≡ v.syncs old + 1)
        (closed : v.seen at ≡ overwritten 0 (0 ∷ []) (v.seen old)) (synced : Only (v.seen at) (v.may_leave at)) where
      own_bytes : (bytes : List ℕ) → bytes ≡ new_layout start ++ (1 ∷ (record_bytes first ++ 0 ∷ [])) → Owns (IsInNewStore (length first)) 1 (length bytes)
      own_bytes bytes spelled = λ i from within. omega (
        arith,
        within,
        length-head,
        length-record first,
        ap length spelled,
        length-append (new_layout start) (1 ∷ (record_bytes first ++ 0 ∷ [])),
        length-append (record_bytes first) (0 ∷ []),
      )

      pub begun : (new : D) (bytes : List ℕ) → bytes ≡ new_layout start ++ (1 ∷ (record_bytes first ++ 0 ∷ [])) → LeavesOnly v.moment v.left_since at new (IsTornInSteps (v.may_leave at) 1 bytes 0 (v.seen at)) → IsBegunAt v first start old new at
      begun new bytes spelled leaves = record {
        until = until;
        first_sync = first_sync;
        closed = closed;
        synced = synced;
        from = weakened v.moment v.left_since at new _ _ each leaves;
        others = steps_leave v.moment v.left_since v.seen v.may_leave (IsInNewStore (length first)) at synced 1 bytes 0 (own_bytes bytes spelled) (λ i from within. omega (arith, within)) new leaves;
      }
        where
          laid : List ℕ
          laid = overwritten 1 bytes (v.seen at)

          each : (c : List ℕ) → IsTornInSteps (v.may_leave at) 1 bytes 0 (v.seen at) c → IsNoneOrNew first start c
          each c (inl second) = behind_leaves (v.seen at) (v.seen old) (length bytes) (v.may_leave at) closed synced c second
          each c (inr third) = gate_leaves laid bytes (λ d. d ≡ laid) spelled (laid_out (v.seen at) (v.seen old) laid bytes closed refl) (λ d is. is) c third

      -- where it ends with that sync
      pub begun_there : ((c : List ℕ) → v.left_since at (v.moment at) c → v.may_leave at c) → (bytes : List ℕ) → bytes ≡ new_layout start ++ (1 ∷ (record_bytes first ++ 0 ∷ [])) → IsBegunAt v first start old at at
      begun_there only_now bytes spelled = begun at bytes spelled (started v.moment v.left_since at _ (λ c left. inl (inl (only_now c left))))

-- Once the gate is opened, the store stands over what there was.
pub opened_over : (old closed bytes opened : List ℕ) → closed ≡ overwritten 0 (0 ∷ []) old → opened ≡ overwritten 0 (1 ∷ []) (overwritten 1 bytes closed) → opened ≡ overwritten 0 (1 ∷ bytes) old
opened_over old closed bytes opened is opens =
    opens ∙ ap (λ l. overwritten 0 (1 ∷ []) (overwritten 1 bytes l)) is ∙ ap (λ (l : List ℕ). 1 ∷ (bytes ++ l)) rest
  where
    rest : drop (1 + length bytes) (0 ∷ drop 1 old) ≡ drop (0 + length (1 ∷ bytes)) old
    rest =
        let first : 1 + length bytes ≡ suc (length bytes) = omega arith in
        let whole : 1 + length bytes ≡ 0 + length (1 ∷ bytes) = omega arith in
        ap (λ n. drop n (0 ∷ drop 1 old)) first ∙ drop-drop (length bytes) 1 old ∙ ap (λ n. drop n old) whole

-- A creation that has read the disk before it writes.
module _ {D : Type 0} (v : Ghosts D) (first start : List ℕ) (old mid new : D) (reads : LeavesOnly v.moment v.left_since old mid (v.may_leave old)) (within : Within (v.may_leave old) (v.may_leave mid)) (same : v.seen mid ≡ v.seen old)
    (unsynced : v.syncs mid ≡ v.syncs old) where
  pub begun_after_reading : (at : D) → IsBegunAt v first start mid new at → IsBegunAt v first start old new at
  begun_after_reading at begun = record {
    until = touched v.moment v.left_since v.may_leave old mid at reads within begun.until;
    first_sync = begun.first_sync ∙ ap (λ n. n + 1) unsynced;
    closed = begun.closed ∙ ap (overwritten 0 (0 ∷ [])) same;
    synced = begun.synced;
    from = begun.from;
    others = begun.others;
  }

  pub creates_after_reading : Creates v first start mid new → Creates v first start old new
  creates_after_reading (inl so_far) = inl (record { until = touched v.moment v.left_since v.may_leave old mid new reads within so_far.until; unsynced = so_far.unsynced ∙ unsynced })
  creates_after_reading (inr (at, begun)) = inr (at, begun_after_reading at begun)
