-- The table allows each step.
use Rattle.std.proofs.Common.{◌≡◌, ◌≢◌, ◌⊎◌, ◌==◌, ℕ, zero, suc, Bool, true, false, MatchBool, List, [], ◌∷◌, ◌++◌, set, slice_index, refl, ap, sym, ◌∙◌, subst, inl, inr, ⊎_elim, arith}
use Rattle.std.specs.List.{Contains}
use Rattle.std.proofs.lemmas.Bool.Decides.{nat_tests}
use mathlib.Core.Option.{none, some}
use prog.Atomic.{either}
use Rattle.atomic_table.specs.Table.{Act, stepped, step, Valid, Allows, carried_after, put_back, rest, Splits, Joins}
use Rattle.atomic_table.specs.Table.Act.{keeps, takes, gives}
use Rattle.atomic_table.proofs.Lists.{set_else}
use Rattle.proc_table.specs.declared.view.View.{View}
use Rattle.proc_history.specs.declared.value.Value.{Value}
use Rattle.proc_history.specs.Events.{HistoryEntry, own}
use Rattle.proc_table.specs.Parts.{part_of}
use Rattle.proc_history.specs.Histories.{replay}
use Rattle.proc_table.specs.Views.{seen, is_out, word_of, taken, found_more, no_guest, one_more, new_pass, joined, gone}
use Rattle.proc_table.specs.Agrees.{States, state, Sits, Agrees}
use Rattle.proc_table.specs.Moves as moves
use Rattle.proc_table.specs.Moves.{kept, IsHistory}
use Rattle.proc_table.specs.Places.{slot_at, hand, LiesAt, BySlot, ReachedBySlot}
use Rattle.proc_table.specs.Steps.{Me, Ready, Fresh, Took, Missed, took_or_missed, Adding, gave, given, with_laid, laid_down, lifted, learnt}
use Rattle.proc_history.proofs.Entries.{own-append, legal_prefix, append_nothing}
use Rattle.proc_table.proofs.PlaceLemmas.{slot_is, at_place, value_at_place, by_slot_set, by_slot_kept}
use Rattle.proc_table.proofs.LentLemmas.{none_lent, nothing_behind}
use Rattle.proc_table.proofs.Runs.{reached_agrees, next}

history_of : (s : States) (a : Agrees s) (p : ℕ) → IsHistory s p (a.history p)
history_of s a p = record { whole = (a.each p).whole; longest = λ i v sits. ((a.each p).parts i v sits).begins }

-- what lies after what was seen is by others
fresh : (s : States) (a : Agrees s) (p i : ℕ) (v : View) → Sits s i v → Fresh v p (a.history p)
fresh s a p i v sits =
    let f = (a.each p).parts i v sits in
    record {
      between = f.begins.0;
      is = sym f.begins.1;
      strangers = append_nothing (own v.number (seen v p)) (own v.number f.begins.0)
          (sym (own-append v.number (seen v p) f.begins.0) ∙ (ap (own v.number) f.begins.1 ∙ (f.own_all ∙ sym f.own_seen)));
      alone = λ handler none. nothing_behind (seen v p) f.begins.0
          (λ n. ap (own n) f.begins.1 ∙ a.settled i p n v sits handler (subst (λ ns. ¬ Contains ns n) (sym none) (none_lent n)));
      legal = (a.each p).legal;
      once = f.own_all;
    }

word_one_or_two : (n : ℕ) → (word_of n ≡ 1) ⊎ (word_of n ≡ 2)
word_one_or_two zero = inr refl
word_one_or_two (suc n) = inl refl

pub takes_allowed : (n id : ℕ) (me : Me) (p i mark : ℕ) → Ready me.0 → LiesAt p i → mark ≡ word_of me.0.number
    → Allows ReachedBySlot n id me i (λ k. either (k == 0) mark k) (took_or_missed (step n i 0 mark none) me)
takes_allowed n id me p i mark ready l is s k long at fits = go (slice_index s.words i == 0) refl
  where
    t : States
    t = state k.words k.homes s.views

    word : slice_index s.words i ≡ slice_index t.words p
    word = value_at_place s.words k.words p i 0 l k.words_are

    a : Agrees t
    a = reached_agrees t k.reached

    sits : Sits t id me.0
    sits = (at, ready.live)

    go : (b : Bool) → (slice_index s.words i == 0) ≡ b
        → (w : View) × (a : Act Value) × Valid s.homes me.1 a × ReachedBySlot (stepped s i (either b mark (slice_index s.words i)) id me.1 w a)
        × MatchBool b (Took (slot_at i) me (w, carried_after me.1 a)) (Missed (slot_at i) (slice_index s.words i) me (w, carried_after me.1 a))
    go true e =
        let h = a.history p in
        let zero : slice_index s.words i ≡ 0 = grind (arith, nat_tests) in
        let free : slice_index t.words p ≡ 0 = sym word ∙ zero in (
          taken me.0 p h,
          takes i (replay h),
          at_place s.homes k.homes p i l k.homes_are ∙ (a.each p).home l.inside free,
          record {
            words = set k.words p mark;
            homes = set k.homes p none;
            words_are = by_slot_set s.words k.words p i mark l k.words_are;
            homes_are = by_slot_set s.homes k.homes p i none l k.homes_are;
            reached = next t _ k.reached (moves.Moves.takes (record {
              i = id;
              p = p;
              v = me.0;
              h = h;
              sits = sits;
              alone = ready.alone;
              inside = l.inside;
              free = free;
              all = history_of t a p;
              is = ap (λ m. state (set k.words p m) (set k.homes p none) (set s.views id (taken me.0 p h))) is;
            }));
          },
          subst (λ q. Took q me (taken me.0 p h, (i, replay h) ∷ me.1)) (sym (slot_is p i l))
              (record { h = h; fresh = fresh t a p id me.0 sits; is = ap (λ j. (taken me.0 p h, (j, replay h) ∷ me.1)) l.is }),
        )
    go false e =
        let busy : slice_index t.words p ≢ 0 = λ z. let zero : slice_index s.words i ≡ 0 = word ∙ z in absurd (grind (arith, nat_tests)) in
        let holder = (a.each p).taken busy in
        let held = ((a.each p).parts holder.0 holder.1 holder.2).word_where_out holder.3 in
        let w = found_more me.0 p (slice_index s.words i) in (
          w,
          keeps,
          tt,
          record {
            words = kept t p;
            homes = k.homes;
            words_are = by_slot_kept s.words k.words i p 0 k.words_are;
            homes_are = k.homes_are;
            reached = next t _ k.reached (moves.Moves.misses (record {
              i = id;
              p = p;
              v = me.0;
              sits = sits;
              alone = ready.alone;
              inside = l.inside;
              busy = busy;
              is = ap (λ m. state (kept t p) k.homes (set s.views id (found_more me.0 p m))) word;
            }));
          },
          subst (λ q. Missed q (slice_index s.words i) me (w, me.1)) (sym (slot_is p i l))
              (record { word = ⊎_elim (λ one. inl (word ∙ (held ∙ one))) (λ two. inr (word ∙ (held ∙ two))) (word_one_or_two holder.1.number); is = refl }),
        )

pub gives_allowed : (n id : ℕ) (me : Me) (p i : ℕ) (entries : List HistoryEntry) → LiesAt p i → Adding entries p me
    → Allows ReachedBySlot n id me i (λ k. 0) (λ k. gave entries (step n i 0 0 none) me 0)
gives_allowed n id me p i entries l c s k long at fits =
    let w = given me.0 p entries in
    let y = replay (seen me.0 p ++ entries) in
    let has : me.1 ≡ (i, y) ∷ [] = c.value ∙ ap (λ j. (j, y) ∷ []) (sym l.is) in (
      w,
      gives,
      tt,
      record {
        words = set k.words p 0;
        homes = set k.homes p (some y);
        words_are = by_slot_set s.words k.words p i 0 l k.words_are;
        homes_are = subst (λ held. BySlot (put_back s.homes held) (set k.homes p (some y))) (sym has) (by_slot_set s.homes k.homes p i (some y) l k.homes_are);
        reached = next (state k.words k.homes s.views) _ k.reached (moves.Moves.gives (record {
          i = id;
          p = p;
          v = me.0;
          entries = entries;
          sits = (at, c.ready.live);
          alone = c.ready.alone;
          inside = l.inside;
          out = c.out;
          may = c.may;
          legal = c.legal;
          is = refl;
        }));
      },
      λ j. (given me.0 (sym (slot_is p i l) j) entries, rest (has j)),
    )

pub lays_allowed : (n id : ℕ) (me : Me) (p i : ℕ) (y : Value) → LiesAt p i → Ready me.0 → me.0.number ≡ 0 → is_out me.0 p ≡ true → me.1 ≡ hand p y
    → Allows ReachedBySlot n id me i (λ k. k) (laid_down (step n i 0 0 none) me)
lays_allowed n id me p i y l ready handler out there s k long at fits =
    let w = with_laid me.0 p true in
    let has : me.1 ≡ (i, y) ∷ [] = there ∙ ap (λ j. (j, y) ∷ []) (sym l.is) in
    let t = state k.words k.homes s.views in (
      w,
      gives,
      tt,
      record {
        words = kept t p;
        homes = set k.homes p (some y);
        words_are = by_slot_kept s.words k.words i p 0 k.words_are;
        homes_are = subst (λ held. BySlot (put_back s.homes held) (set k.homes p (some y))) (sym has) (by_slot_set s.homes k.homes p i (some y) l k.homes_are);
        reached = next t _ k.reached (moves.Moves.lays (record {
          i = id;
          p = p;
          v = me.0;
          y = y;
          sits = (at, ready.live);
          handler = handler;
          alone = ready.alone;
          inside = l.inside;
          out = out;
          is = refl;
        }));
      },
      λ j. (with_laid me.0 (sym (slot_is p i l) j) true, rest (has j)),
    )

pub lifts_allowed : (n id : ℕ) (me : Me) (p i : ℕ) → LiesAt p i → Ready me.0 → me.0.number ≡ 0 → is_out me.0 p ≡ true → (part_of me.0.parts p).laid ≡ true → me.1 ≡ []
    → Allows ReachedBySlot n id me i (λ k. k) (lifted (step n i 0 0 none) me)
lifts_allowed n id me p i l ready handler out laid has s k long at fits =
    let w = with_laid me.0 p false in
    let t = state k.words k.homes s.views in
    let there = (((reached_agrees t k.reached).each p).parts id me.0 (at, ready.live)).laid laid in
    let y = there.1.0 in (
      w,
      takes i y,
      at_place s.homes k.homes p i l k.homes_are ∙ there.1.1,
      record {
        words = kept t p;
        homes = set k.homes p none;
        words_are = by_slot_kept s.words k.words i p 0 k.words_are;
        homes_are = by_slot_set s.homes k.homes p i none l k.homes_are;
        reached = next t _ k.reached (moves.Moves.lifts (record {
          i = id;
          p = p;
          v = me.0;
          sits = (at, ready.live);
          handler = handler;
          alone = ready.alone;
          inside = l.inside;
          out = out;
          is = refl;
        }));
      },
      (y, λ j. (with_laid me.0 (sym (slot_is p i l) j) false, (i, y) ∷ has j)),
    )

pub learns_allowed : (n id : ℕ) (me : Me) (i : ℕ) → me.0.spent ≡ false → Allows ReachedBySlot n id me i (λ k. k) (learnt (step n i 0 0 none) me)
learns_allowed n id me i live s k long at fits =
    let t = state k.words k.homes s.views in
    let a : Agrees t = reached_agrees t k.reached in
    let sits : Sits t id me.0 = (at, live) in (
      no_guest me.0,
      keeps,
      tt,
      record {
        words = kept t 0;
        homes = k.homes;
        words_are = by_slot_kept s.words k.words i 0 0 k.words_are;
        homes_are = k.homes_are;
        reached = next t _ k.reached (moves.Moves.learns (record { i = id; p = 0; v = me.0; sits = sits; is = refl }));
      },
      record {
        known = record {
          parts = (a.seats id me.0 sits).parts;
          once = λ q. ((a.each q).parts id me.0 sits).own_seen;
          legal = λ q. legal_prefix _ (seen me.0 q) (a.history q) ((a.each q).parts id me.0 sits).begins (a.each q).legal;
        };
        met = λ g is. record {
          held = λ q out. ((a.each q).parts id me.0 sits).held g is out;
          first = λ q. ((a.each q).parts id me.0 sits).met_first g is;
          second = λ q. ((a.each q).parts id me.0 sits).met_second g is;
          once = λ q. ((a.each q).parts id me.0 sits).met_own g is;
          settled = λ handler q. ((a.each q).parts id me.0 sits).met_settled g is handler;
        };
        is = refl;
      },
    )

pub splits_allowed : (id : ℕ) (v : View) → Ready v → v.number ≡ 0 → Splits ReachedBySlot id v (one_more v) (new_pass v)
splits_allowed id v ready handler s k at = record {
  words = k.words;
  homes = k.homes;
  words_are = k.words_are;
  homes_are = k.homes_are;
  reached = next (state k.words k.homes s.views) _ k.reached
      (moves.Moves.splits (record { i = id; v = v; sits = (at, ready.live); handler = handler; alone = ready.alone; is = refl }));
}

pub joins_allowed : (id other : ℕ) (v w : View) → Ready v → Ready w → w.number ≢ 0 → ((p : ℕ) → is_out w p ≡ false) → Joins ReachedBySlot id v other w (joined v w) gone
joins_allowed id other v w ready too pass none_out s k at ne there = record {
  words = k.words;
  homes = k.homes;
  words_are = k.words_are;
  homes_are = k.homes_are;
  reached = next (state k.words k.homes s.views) _ k.reached (moves.Moves.joins (record {
    i = id;
    j = other;
    v = v;
    w = w;
    first = (at, ready.live);
    second = (sym (set_else s.views id other (joined v w) ne) ∙ there, too.live);
    two = ne;
    pass = pass;
    none_out = none_out;
    alone = (ready.alone, too.alone);
    is = refl;
  }));
}
