-- A log's bytes give back the calls that it keeps.
use Rattle.std.proofs.Common.{◌≡◌, ℕ, suc, zero, ◌+◌, ◌-◌, ◌<◌, ◌≤◌, ◌^◌, List, [], ◌∷◌, ◌++◌, length, take, drop, refl, sym, ap, ◌∙◌, subst, arith, append_assoc, length-append, length-take, length-drop}
use Rattle.std.proofs.lemmas.List.{append-nil, take_at, drop_at, take_all, drop_all, take-append-le, drop-append-le}
use Rattle.std.proofs.lemmas.Nat.{from_be_bytes-to_be_bytes_8}
use Rattle.std.specs.Int.{w64, to_be_bytes}
use Rattle.rel_disk.specs.Calls.{Call, wrote, cut_to, synced, content, since_sync}
use Rattle.rel_disk.specs.LogBytes.{entry, entry_of, entries_of, AllFit, call_of, calls_over, calls_of}
use Rattle.rel_disk.specs.LogState.{LogState, KeepsCalls, with_call}

-- an entry is appended in four parts
pub append-entry : (log front more size all : List ℕ) (kind at : ℕ) (bytes : List ℕ)
    → front ≡ log ++ kind ∷ [] → more ≡ front ++ to_be_bytes w64 at → size ≡ more ++ to_be_bytes w64 (length bytes) → all ≡ size ++ bytes
    → all ≡ log ++ entry kind at bytes
append-entry log front more size all kind at bytes is_front is_more is_size is_all = simp (is_all, is_size, is_more, is_front, append_assoc)

-- one entry is read as its call
calls_over-entry : (older : List Call) (fuel kind at : ℕ) (bytes rest : List ℕ) → at < 2 ^ 64 → length bytes < 2 ^ 64
    → calls_over older (suc fuel) (entry kind at bytes ++ rest) ≡ calls_over (call_of kind at bytes ∷ older) fuel rest
calls_over-entry older fuel kind at bytes rest at_fits size_fits =
    go _ _ (from_be_bytes-to_be_bytes_8 at at_fits) (from_be_bytes-to_be_bytes_8 (length bytes) size_fits)
  where
    go : (a s : ℕ) → a ≡ at → s ≡ length bytes
        → calls_over (call_of kind a (take s (bytes ++ rest)) ∷ older) fuel (drop s (bytes ++ rest)) ≡ calls_over (call_of kind at bytes ∷ older) fuel rest
    go a s same_at same_size =
        let front : take s (bytes ++ rest) ≡ bytes = take_at bytes rest s (sym same_size) in
        let back : drop s (bytes ++ rest) ≡ rest = drop_at bytes rest s (sym same_size) in
        cc

calls_over-entry_of : (older : List Call) (fuel : ℕ) (call : Call) (before : List Call) (rest : List ℕ) → AllFit (call ∷ before)
    → calls_over older (suc fuel) (entry_of call ++ rest) ≡ calls_over (call ∷ older) fuel rest
calls_over-entry_of older fuel (wrote at bytes) before rest fit = calls_over-entry older fuel 1 at bytes rest fit.0 fit.1
calls_over-entry_of older fuel (cut_to len) before rest fit = calls_over-entry older fuel 2 len [] rest fit.0 (omega arith)
calls_over-entry_of older fuel synced before rest fit = calls_over-entry older fuel 0 0 [] rest (omega arith) (omega arith)

older_fit : (call : Call) (older : List Call) → AllFit (call ∷ older) → AllFit older
older_fit (wrote at bytes) older fit = fit.2
older_fit (cut_to len) older fit = fit.1
older_fit synced older fit = fit

-- all entries are read, and fuel is left for the rest
calls_over-entries_of : (calls : List Call) → AllFit calls → (older : List Call) (fuel : ℕ) (rest : List ℕ)
    → calls_over older (length calls + fuel) (entries_of calls ++ rest) ≡ calls_over (calls ++ older) fuel rest
calls_over-entries_of [] fit older fuel rest = ap (λ (n : ℕ). calls_over older n rest) (omega arith)
calls_over-entries_of (call ∷ before) fit older fuel rest =
    let fuels : suc (length before) + fuel ≡ length before + suc fuel = omega arith in
    ap (λ (n : ℕ). calls_over older n ((entries_of before ++ entry_of call) ++ rest)) fuels
    ∙ ap (λ (l : List ℕ). calls_over older (length before + suc fuel) l) (append_assoc (entries_of before) (entry_of call) rest)
    ∙ calls_over-entries_of before (older_fit call before fit) older (suc fuel) (entry_of call ++ rest)
    ∙ calls_over-entry_of (before ++ older) fuel call before rest fit

calls_over-nil : (older : List Call) (fuel : ℕ) → calls_over older fuel [] ≡ older
calls_over-nil older zero = refl
calls_over-nil older (suc fuel) = refl

entry_counts : (call : Call) → 1 ≤ length (entry_of call)
entry_counts (wrote at bytes) = omega arith
entry_counts (cut_to len) = omega arith
entry_counts synced = omega arith

enough_fuel : (calls : List Call) → length calls ≤ length (entries_of calls)
enough_fuel [] = omega arith
enough_fuel (call ∷ before) = omega (arith, enough_fuel before, entry_counts call, length-append (entries_of before) (entry_of call))

calls_of-entries_of : (calls : List Call) → AllFit calls → calls_of (entries_of calls) ≡ calls
calls_of-entries_of calls fit =
    let size = length (entries_of calls) in
    let fuels : size ≡ length calls + (size - length calls) = omega (arith, enough_fuel calls) in
    ap (λ (n : ℕ). calls_over [] n (entries_of calls)) fuels
    ∙ ap (λ (l : List ℕ). calls_over [] (length calls + (size - length calls)) l) (sym (append-nil (entries_of calls)))
    ∙ calls_over-entries_of calls fit [] (size - length calls) []
    ∙ calls_over-nil (calls ++ []) (size - length calls)
    ∙ append-nil calls

-- the fields of a log as clauses see them
abbrev pub state_of : List ℕ → ℕ → ℕ → LogState
state_of bytes start room = record { first = take start bytes; calls = calls_of (drop start bytes); room = room }

-- the log with one call more, which costs no less than its entry
module _ (old new : List ℕ) (start sync : ℕ) (call : Call) (room cost before capacity : ℕ) (state : LogState) (is_state : state_of old start room ≡ state) (kept : KeepsCalls old start sync room before)
    (fit : AllFit (call ∷ calls_of (drop start old))) (is : new ≡ old ++ entry_of call) (bigger : before ≤ capacity) (covers : length (entry_of call) ≤ cost) (fits : cost ≤ state.room) where
  calls : List Call
  calls = calls_of (drop start old)

  more : (from : ℕ) → from ≤ length old → drop from new ≡ drop from old ++ entry_of call
  more from le = ap (drop from) is ∙ drop-append-le from old (entry_of call) le

  starts : start ≤ length old
  starts = omega (arith, kept.begun, kept.within)

  grown : drop start new ≡ entries_of (call ∷ calls_of (drop start old))
  grown = more start starts ∙ ap (λ (l : List ℕ). l ++ entry_of call) (sym kept.entries)

  calls_of-push : calls_of (drop start new) ≡ call ∷ calls_of (drop start old)
  calls_of-push = ap calls_of grown ∙ calls_of-entries_of (call ∷ calls_of (drop start old)) fit

  same_room : room ≡ state.room
  same_room = ap (λ (s : LogState). s.room) is_state

  keeps : (sync_after : ℕ) → drop sync_after new ≡ entries_of (since_sync (call ∷ calls_of (drop start old))) → start ≤ sync_after → sync_after ≤ length new
      → KeepsCalls new start sync_after (room - cost) capacity
  keeps sync_after recent begun within = record {
    entries = ap entries_of calls_of-push ∙ sym grown;
    fit = subst AllFit (sym calls_of-push) fit;
    recent = recent ∙ ap (λ (l : List Call). entries_of (since_sync l)) (sym calls_of-push);
    begun = begun;
    within = within;
    reserved = omega (arith, kept.reserved, bigger, covers, fits, same_room, ap length is, length-append old (entry_of call));
  }

  -- a call that is no sync
  pub keeps-push : since_sync (call ∷ calls_of (drop start old)) ≡ call ∷ since_sync (calls_of (drop start old)) → KeepsCalls new start sync (room - cost) capacity
  keeps-push unsynced =
      keeps sync (more sync kept.within ∙ ap (λ (l : List ℕ). l ++ entry_of call) kept.recent ∙ ap entries_of (sym unsynced))
      kept.begun (omega (arith, kept.within, ap length is, length-append old (entry_of call)))

  -- a sync
  pub keeps_sync : since_sync (call ∷ calls_of (drop start old)) ≡ [] → (sync_after : ℕ) → sync_after ≡ length new → KeepsCalls new start sync_after (room - cost) capacity
  keeps_sync none sync_after all =
      keeps sync_after (drop_all sync_after new (omega arith) ∙ ap entries_of (sym none))
      (omega (arith, starts, ap length is, length-append old (entry_of call))) (omega arith)

  pub state-push : state_of new start (room - cost) ≡ with_call call cost state
  state-push =
      let same_front : take start new ≡ take start old = ap (take start) is ∙ take-append-le start old (entry_of call) starts in
      let first : state_of new start (room - cost) ≡ with_call call cost (state_of old start room) = cc (calls_of-push) in
      first ∙ ap (with_call call cost) is_state

-- a log with no call
pub keeps_none : (first bytes : List ℕ) (room capacity : ℕ) → bytes ≡ first → length first + room ≤ capacity → KeepsCalls bytes (length first) (length first) room capacity
keeps_none first bytes room capacity is fits =
    let none : drop (length first) bytes ≡ [] = drop_all (length first) bytes (omega (arith, ap length is)) in
    record {
      entries = rw none refl;
      fit = rw none tt;
      recent = rw none refl;
      begun = omega arith;
      within = omega (arith, ap length is);
      reserved = omega (arith, ap length is);
    }

pub state_of-none : (first bytes : List ℕ) (room : ℕ) → bytes ≡ first → state_of bytes (length first) room ≡ record { first = first; calls = []; room = room }
state_of-none first bytes room is =
    let none : drop (length first) bytes ≡ [] = drop_all (length first) bytes (omega (arith, ap length is)) in
    let all : take (length first) bytes ≡ first = take_all (length first) bytes (omega (arith, ap length is)) ∙ is in
    let calls : calls_of (drop (length first) bytes) ≡ [] = ap calls_of none in
    cc

-- what a read gives has room where the log stands
content_fits : (first : List ℕ) (calls : List Call) → length (content first calls) ≤ length first + length (entries_of calls)
content_fits first [] = omega arith
content_fits first (wrote at bytes ∷ older) =
    let old : List ℕ = content first older in
    omega (
      arith,
      content_fits first older,
      length-append (entries_of older) (entry 1 at bytes),
      length-append (take at old) (bytes ++ drop (at + length bytes) old),
      length-append bytes (drop (at + length bytes) old),
      length-take at old,
      length-drop (at + length bytes) old,
      length-append (to_be_bytes w64 at) (to_be_bytes w64 (length bytes) ++ bytes),
      length-append (to_be_bytes w64 (length bytes)) bytes,
    )
content_fits first (cut_to len ∷ older) = omega (arith, content_fits first older, length-append (entries_of older) (entry_of (cut_to len)), length-take len (content first older))
content_fits first (synced ∷ older) = omega (arith, content_fits first older, length-append (entries_of older) (entry_of synced))

pub restart_fits : (bytes first : List ℕ) (start sync room capacity : ℕ) (state : LogState) → state_of bytes start room ≡ state → KeepsCalls bytes start sync room capacity
    → length first ≤ length (content state.first state.calls) → length first + room ≤ capacity
restart_fits bytes first start sync room capacity state is kept le =
    let fits = content_fits (take start bytes) (calls_of (drop start bytes)) in
    let same : length (content state.first state.calls) ≡ length (content (take start bytes) (calls_of (drop start bytes))) = ap (λ (s : LogState). length (content s.first s.calls)) (sym is) in
    omega (arith, le, fits, same, ap length kept.entries, length-take start bytes, length-drop start bytes, kept.reserved, kept.begun, kept.within)
